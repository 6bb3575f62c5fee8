use Rattle.std.proofs.Common.{sym, ◌∙◌, arith}
use Rattle.aug_model.proofs.Boundaries.{without_pair-member, without_pair-absent}
use Rattle.aug_model.proofs.Membership.{is_member-stands, is_member-absent}
use Rattle.aug_model.proofs.StoredLemmas.{remove-set, remove-fit}
use Rattle.aug_model.proofs.key_set.KeySet.remove.Goals as goal

pub invariant_of-self : goal.invariant_of-self
invariant_of-self c =
    let there = rw c.deref.ensures.value at c.in-Ok.ensures.there in
    let h = c.self.invariant in
    record {
      set = rw c.remove.ensures.items (remove-set _ _ _ there.within h.set);
      fit = rw c.remove.ensures.items (remove-fit _ _ h.fit);
      at_least = h.at_least;
      at_most = h.at_most;
      room = omega (arith, h.room, c.remove.ensures.capacity);
    }

pub returns-in-Err-clause-pairs : goal.returns-in-Err-clause-pairs
returns-in-Err-clause-pairs c = rw (← c.self.view_is) (sym (without_pair-absent _ _ _ (rw c.deref.ensures.value at c.in-Err.ensures.absent)))

pub returns-in-Err-clause-changed : goal.returns-in-Err-clause-changed
returns-in-Err-clause-changed c = rw (← c.self.view_is) (sym (is_member-absent _ _ _ (rw c.deref.ensures.value at c.in-Err.ensures.absent)))

pub returns-in-Ok-clause-pairs : goal.returns-in-Ok-clause-pairs
returns-in-Ok-clause-pairs c =
    let there = rw c.deref.ensures.value at c.in-Ok.ensures.there in
    rw (← c.self.view_is) (c.remove.ensures.items ∙ sym (without_pair-member _ _ _ c.self.invariant.set.rising there))

pub returns-in-Ok-clause-changed : goal.returns-in-Ok-clause-changed
returns-in-Ok-clause-changed c = rw (← c.self.view_is) (sym (is_member-stands _ _ _ (rw c.deref.ensures.value at c.in-Ok.ensures.there)))
