use Rattle.std.proofs.Common.{◌≡◌, ◌∙◌, ◌∷◌, [], take, get_or, ap, arith}
use Rattle.std.proofs.lemmas.List.{take_more}
use Rattle.aug_model.specs.declared.outcome.Outcome.{Outcome}
use Rattle.aug_model.specs.declared.outcome.Outcome.TheVariants.{Accepted}
use Rattle.aug_c.specs.ArrayCalls.{change_by, changes}
use Rattle.aug_c.proofs.Turns.{changes-append}
use Rattle.aug_c.proofs.array_updates.changed_in.Goals as goal

pub loop-place-preserved : goal.loop-place-preserved
loop-place-preserved c = let inv = c.loop-place.invariant in let outcomes = c.args.outcomes.now in let place = c.loop-place.place in let last : Outcome = get_or outcomes place Accepted in
    let next = ap changes (take_more outcomes place Accepted c.loop-place-test.true) ∙ changes-append (take place outcomes) (last ∷ []) in let one : changes (last ∷ []) ≡ change_by last = omega arith in
    let is = inv.is in let few = inv.few in let value = c.changed_by-changed.ensures.value in let low = c.changed_by-changed.ensures.few in record { is = omega (arith, next, one, is, value); few = omega (arith, few, low) }
