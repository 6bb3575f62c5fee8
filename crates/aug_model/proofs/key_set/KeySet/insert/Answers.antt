use Rattle.std.proofs.Common.{not, if◌then◌else◌, sym, ap, ◌∙◌, arith}
use Rattle.aug_model.specs.Keys.{with_pair}
use Rattle.aug_model.proofs.Boundaries.{with_pair-absent}
use Rattle.aug_model.proofs.Membership.{is_member-stands, is_member-absent}
use Rattle.aug_model.proofs.StoredLemmas.{insert-set, insert-fit, room_left}
use Rattle.aug_model.proofs.key_set.KeySet.insert.Goals as goal

pub unreachable-requires : goal.unreachable-requires
unreachable-requires c =
    let gap = rw c.deref.ensures.value at c.in-Err.ensures.absent in
    let fits = rw (← c.self.view_is) at c.requires in
    let room = room_left _ _ _ _ _ fits gap c.self.invariant in
    omega (arith, room, c.in_default.ensures.full)

pub invariant_of-self : goal.invariant_of-self
invariant_of-self c =
    let gap = rw c.deref.ensures.value at c.in-Err.ensures.absent in
    let fits = rw (← c.self.view_is) at c.requires in
    let h = c.self.invariant in
    record {
      set = rw c.in-Ok-insert.ensures.items (insert-set _ _ _ _ (omega (arith, c.ranges.k.fits), omega (arith, c.ranges.k.fits)) _ fits gap h.set);
      fit = rw c.in-Ok-insert.ensures.items (insert-fit _ _ _ _ (omega (arith, c.ranges.k.fits), omega (arith, c.ranges.k.fits)) h.fit);
      at_least = h.at_least;
      at_most = h.at_most;
      room = omega (arith, h.room, c.in-Ok-insert.ensures.capacity);
    }

pub returns-in-Ok-clause-pairs : goal.returns-in-Ok-clause-pairs
returns-in-Ok-clause-pairs c =
    rw (← c.self.view_is) (sym (ap (λ (z : _). if z then c.self.inside.members.items else with_pair c.self.inside.members.items c.args.k c.args.k) (is_member-stands _ _ _ (rw c.deref.ensures.value at c.in-Ok.ensures.there))))

pub returns-in-Ok-clause-changed : goal.returns-in-Ok-clause-changed
returns-in-Ok-clause-changed c = rw (← c.self.view_is) (sym (ap not (is_member-stands _ _ _ (rw c.deref.ensures.value at c.in-Ok.ensures.there))))

pub returns-in-Ok-insert-clause-pairs : goal.returns-in-Ok-insert-clause-pairs
returns-in-Ok-insert-clause-pairs c =
    let gap = rw c.deref.ensures.value at c.in-Err.ensures.absent in
    rw (← c.self.view_is, is_member-absent _ _ _ gap) (c.in-Ok-insert.ensures.items ∙ sym (with_pair-absent _ _ _ _ gap))

pub returns-in-Ok-insert-clause-changed : goal.returns-in-Ok-insert-clause-changed
returns-in-Ok-insert-clause-changed c =
    let gap = rw c.deref.ensures.value at c.in-Err.ensures.absent in
    rw (← c.self.view_is) (sym (ap not (is_member-absent _ _ _ gap)))
