use Rattle.std.proofs.Common.{ℕ, ◌+◌, ◌-◌, ◌^◌, ◌<◌, ◌≤◌, rules, List, [], ◌∷◌, ◌++◌, length, refl, sym, subst, ap, ◌∙◌, arith, inl, inr, length-append}
use Rattle.std.proofs.lemmas.Bool.{cases_lt}
use Rattle.std.proofs.lemmas.List.{get_or_push, get_or_append_left, map-append}
use Rattle.std.proofs.lemmas.List.Elements.{All-push, All-weaker}
use Rattle.std.specs.List.{All}
use Rattle.std.specs.List.Sorted.{IsStrictlyIncreasing}
use Rattle.aug_model.specs.Keys.{IsKeySet, keys_of}
use Rattle.aug_monoid.specs.Weighted.{FitsPair}
use Rattle.aug_query.proofs.Nodes.{wrapped_universe}
use Rattle.aug_query_tests.proofs.agreeing.tree_of.Goals as goal

-- rising numbers rise still with a greater one at their end
rises_push : (xs : List ℕ) (k : ℕ) → IsStrictlyIncreasing xs → All (λ x. x < k) xs → IsStrictlyIncreasing (xs ++ k ∷ [])
rises_push xs k rising below i h =
    elim (cases_lt (i + 1) (length xs)) [
      | inl old ↦ omega (arith, rising i old, get_or_append_left xs (k ∷ []) 0 i (omega arith), get_or_append_left xs (k ∷ []) 0 (i + 1) old)
      | inr new ↦ omega (arith, below i 0 (omega (arith, h, length-append xs (k ∷ []))), get_or_append_left xs (k ∷ []) 0 i (omega (arith, h, length-append xs (k ∷ []))), get_or_push xs k 0 (i + 1) (omega (arith, h, new, length-append xs (k ∷ []))))
    ]

pub loop-k-preserved : goal.loop-k-preserved
loop-k-preserved g c =
    let k = c.loop-k.k in
    let inv = c.loop-k.invariant in
    let old = c.loop-k.list.items in
    let weaker = All-weaker (λ x. x < k) (λ x. x < k + 1) (λ x h. omega arith) (keys_of old) inv.below in
    let items = c.in_ok-push.ensures.items in
    let keys = ap keys_of items ∙ map-append (λ p. p.0) old ((k, 4294967295 - k) ∷ []) in
    let fits : FitsPair (k, 4294967295 - k) = (omega (arith, c.loop-k-test.true), omega arith) in
    record {
      rising = subst IsStrictlyIncreasing (sym keys) (rises_push (keys_of old) k inv.rising inv.below);
      below = subst (All (λ x. x < k + 1)) (sym keys) (All-push (λ x. x < k + 1) (keys_of old) k weaker (omega arith));
      fit = subst (All FitsPair) (sym items) (All-push FitsPair old (k, 4294967295 - k) inv.fit fits);
    }

pub try_new-requires-clause-keys : goal.try_new-requires-clause-keys
try_new-requires-clause-keys g c =
    let inv = c.loop-k.invariant in
    let few : c.args.bits ≤ 16 = search rules in
    let width = wrapped_universe c.args.bits c.args.bits refl few in
    let below = All-weaker (λ x. x < c.loop-k.k) (λ x. x < 2 ^ c.args.bits) (λ x h. omega (arith, h, width, c.loop-k.auto.k-end)) (keys_of c.loop-k.list.items) inv.below in
    subst (λ ps. IsKeySet c.args.bits (keys_of ps)) (sym c.deref.ensures.value) (record { rising = inv.rising; below = below })
