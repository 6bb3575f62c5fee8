use Rattle.std.proofs.Common.{rules, ◌<◌, ◌≤◌, ℕ, List, All, length, get_or, refl, subst, arith}
use Rattle.std.proofs.lemmas.List.{take_all}
use Rattle.std.proofs.lemmas.List.Elements.{All-more}
use Rattle.aug_c.proofs.array_updates.are_below.Goals as goal

pub loop-place-preserved : goal.loop-place-preserved
loop-place-preserved c = let here : get_or c.args.keys.now c.loop-place.place 0 < c.args.bound = omega (arith, c.if-keys-place.false) in
    All-more (λ (k : ℕ). k < c.args.bound) c.args.keys.now c.loop-place.place 0 (search rules) c.loop-place.invariant here

pub returns : goal.returns
returns c = let over : length c.args.keys.now ≤ c.loop-place.place = omega (arith, c.loop-place-test.false) in
    (λ _. subst (λ (xs : List ℕ). All (λ (k : ℕ). k < c.args.bound) xs) (take_all c.loop-place.place c.args.keys.now over) c.loop-place.invariant, λ _. refl)
