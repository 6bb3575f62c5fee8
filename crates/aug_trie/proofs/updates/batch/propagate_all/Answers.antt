use Rattle.std.proofs.Common.{◌≡◌, ◌+◌, ◌-◌, ◌<◌, ◌∙◌, ℕ, length, get_or, refl, sym, ap, subst, arith}
use Rattle.std.proofs.lemmas.Bool.{eqb-true, eqb-false}
use Rattle.aug_core.specs.Faces.{face}
use Rattle.aug_core.specs.Places.{Shape}
use Rattle.aug_trie.specs.inside.Goes.{HasLeaves}
use Rattle.aug_trie.proofs.Raising.{GoesUp, goes_up, raised_start, raised_nothing}
use Rattle.aug_trie.proofs.Parting.{few_levels}
use Rattle.aug_trie.proofs.updates.batch.propagate_all.Goals as goal

pub returns-then-is_empty-clause-raised : goal.returns-then-is_empty-clause-raised
returns-then-is_empty-clause-raised g c = raised_nothing (face g.A.Monoid.parts g.B.Monoid.parts) c.args.number c.args.pass.view c.args.keys.now (eqb-true (length c.args.keys.now) 0 (sym c.is_empty.ensures ∙ c.if-is_empty.true)) c.requires.knows

pub loop-place-init : goal.loop-place-init
loop-place-init g c = record { table = refl; number = omega arith; raised = raised_start (face g.A.Monoid.parts g.B.Monoid.parts) c.args.keys.now c.args.number c.args.pass.view c.requires.knows }

pub propagate-pass-requires : goal.propagate-pass-requires
propagate-pass-requires g c = let within : c.loop-place.place < length c.args.keys.now = (let test = c.loop-place-test.true in omega arith) in
    let up = goes_up c.requires.bits c.requires.keys c.requires.room c.requires.small within c.loop-place.invariant.number c.loop-place.invariant.raised in let low = up.low c.levels_apart-levels.result (few_levels c.args.bits _ _ _ c.levels_apart-levels.ensures) in
    record { leaves = subst (λ (z : Shape). HasLeaves z c.args.leaves) (sym c.loop-place.invariant.raised.goes.shaped) c.requires.leaves; rises = up.rises; levels = low.0; small = low.1 }

pub overflow_add-number : goal.overflow_add-number
overflow_add-number g c = let within : c.loop-place.place < length c.args.keys.now = (let test = c.loop-place-test.true in omega arith) in let up = goes_up c.requires.bits c.requires.keys c.requires.room c.requires.small within c.loop-place.invariant.number c.loop-place.invariant.raised in let is = c.from-number.ensures in let low = (up.low c.args.bits (omega arith)).1 in omega (arith, is, low)

pub loop-place-preserved : goal.loop-place-preserved
loop-place-preserved g c = let within : c.loop-place.place < length c.args.keys.now = (let test = c.loop-place-test.true in omega arith) in let up = goes_up c.requires.bits c.requires.keys c.requires.room c.requires.small within c.loop-place.invariant.number c.loop-place.invariant.raised in let step = c.propagate-pass.ensures in
    let next = up.more c.levels_apart-levels.result (c.loop-place.number + c.from-number.result) c.propagate-pass.result.view c.levels_apart-levels.ensures (ap (λ (z : ℕ). c.loop-place.number + z) c.from-number.ensures) (let test = c.loop-place-test.true in omega arith) step.risen step.raises in
    record { table = step.table ∙ c.loop-place.invariant.table; number = next.0; raised = next.1 }

pub propagate-requires : goal.propagate-requires
propagate-requires g c = let some = eqb-false (length c.args.keys.now) 0 (sym c.is_empty.ensures ∙ c.if-is_empty.false) in let test = c.loop-place-test.false in let end = c.loop-place.auto.place-end in
    let here : c.loop-place.place ≡ length c.args.keys.now - 1 = omega (arith, some, test, end) in let within : c.loop-place.place < length c.args.keys.now = omega (arith, some, here) in
    let up = subst (λ (z : ℕ). GoesUp (face g.A.Monoid.parts g.B.Monoid.parts) c.args.keys.now c.args.number c.args.pass.view c.args.bits c.loop-place.place c.loop-place.number (get_or c.args.keys.now z 0) c.loop-place.pass.view) here
    (goes_up c.requires.bits c.requires.keys c.requires.room c.requires.small within c.loop-place.invariant.number c.loop-place.invariant.raised) in let low = up.low c.args.bits (omega arith) in
    record { leaves = subst (λ (z : Shape). HasLeaves z c.args.leaves) (sym c.loop-place.invariant.raised.goes.shaped) c.requires.leaves; rises = up.rises; levels = low.0; small = low.1 }

pub returns : goal.returns
returns g c = let some = eqb-false (length c.args.keys.now) 0 (sym c.is_empty.ensures ∙ c.if-is_empty.false) in let test = c.loop-place-test.false in let end = c.loop-place.auto.place-end in
    let here : c.loop-place.place ≡ length c.args.keys.now - 1 = omega (arith, some, test, end) in let within : c.loop-place.place < length c.args.keys.now = omega (arith, some, here) in
    let up = subst (λ (z : ℕ). GoesUp (face g.A.Monoid.parts g.B.Monoid.parts) c.args.keys.now c.args.number c.args.pass.view c.args.bits c.loop-place.place c.loop-place.number (get_or c.args.keys.now z 0) c.loop-place.pass.view) here
    (goes_up c.requires.bits c.requires.keys c.requires.room c.requires.small within c.loop-place.invariant.number c.loop-place.invariant.raised) in
    record { table = c.propagate.ensures.table ∙ c.loop-place.invariant.table; raised = up.last c.propagate.result.view (omega (arith, some, here)) c.propagate.ensures.risen c.propagate.ensures.raises }
