use Rattle.std.proofs.Common.{Some, sym, ap, ◌∙◌, arith}
use Rattle.std.proofs.lemmas.List.{get_or_default}
use Rattle.aug_model.proofs.Pairs.{length-keys_of, weight-stands, weight-missing}
use Rattle.aug_model.proofs.key_set.KeySet.weight.Goals as goal

pub returns-in-Ok : goal.returns-in-Ok
returns-in-Ok c =
    let there = rw c.deref.ensures.value at c.in-Ok.ensures.there in
    let within = there.within in
    let read = get_or_default c.self.inside.members.items c.in-Ok.place c.index.result.now (0, 0) (omega (arith, length-keys_of c.self.inside.members.items)) in
    rw (← c.self.view_is) (ap (λ p. Some p.1) (c.index.ensures ∙ read) ∙ sym (weight-stands _ _ _ c.self.invariant.set.rising there))

pub returns-in-Err : goal.returns-in-Err
returns-in-Err c = rw (← c.self.view_is) (sym (weight-missing _ _ _ (rw c.deref.ensures.value at c.in-Err.ensures.absent)))
