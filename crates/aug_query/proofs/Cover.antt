-- Intervals of members put together, as the walk of an interval's two ends does.
use Rattle.std.proofs.Common.{leb, ltb, ◌&&◌, ◌≡◌, ℕ, ◌+◌, ◌^◌, ◌≤◌, ◌⊎◌, inl, inr, List, length, min, sym, ap, ◌∙◌, arith}
use Rattle.std.proofs.Math.Nat.{le_of_lt}
use Rattle.std.proofs.lemmas.Bool.{cases_lt}
use Rattle.std.proofs.Math.Pow.{pow_mono}
use Rattle.std.proofs.lemmas.List.Elements.{All-same, All-filter}
use Rattle.std.specs.List.{All}
use Rattle.aug_monoid.specs.Weighted.{FitsPair}
use Rattle.aug_model.proofs.Pairs.{range-again, length-pairs_of}
use Rattle.aug_model.specs.Keys.{SetFacts, list_of, pairs_of}
use Rattle.aug_model.specs.Queries.{range_of, weight_in}
use Rattle.aug_query.specs.Tree.{IsTreeSet}
use Rattle.aug_model.proofs.Ranges.{Rises, AllBelow, rises_from, all_below_from, range_clipped, range_within, range_le, count_few, no_members}

-- the members of an interval and their weights have 32 bits
pub range_fits : {set : SetFacts} → IsTreeSet set → (a b : ℕ) → All FitsPair (pairs_of (weight_in set.pairs) (range_of (list_of set) a b))
range_fits {set = set} is a b =
    All-same FitsPair _ _ (sym (range-again set.pairs a b (rises_from (list_of set) is.is_key_set.rising))) (All-filter (λ p. leb a p.0 && ltb p.0 b) FitsPair set.pairs is.fit)

-- and they are few
pub range_is_few : {set : SetFacts} → IsTreeSet set → (a b : ℕ) → length (pairs_of (weight_in set.pairs) (range_of (list_of set) a b)) ≤ 2 ^ 16
range_is_few {set = set} is a b =
    omega (arith, length-pairs_of (weight_in set.pairs) (range_of (list_of set) a b), range_le (list_of set) a b, count_few (2 ^ set.bits) (list_of set) (rises_from (list_of set) is.is_key_set.rising) (all_below_from (2 ^ set.bits) (list_of set) is.is_key_set.below), pow_mono is.few_bits)

-- no member is past all keys
pub clipped : (keys : List ℕ) (a b n m : ℕ) → AllBelow n keys → m ≡ min b n → range_of keys a b ≡ range_of keys a m
clipped keys a b n m below e =
    elim (cases_lt n b) [
      | inl over ↦ let all : n ≡ m = omega arith in range_clipped keys a b n below (le_of_lt over) ∙ ap (range_of keys a) all
      | inr under ↦ let all : b ≡ m = omega arith in ap (range_of keys a) all
    ]

-- an interval within one of no members, or equal to it, has the same members
pub inner_alike : (keys : List ℕ) (first a b end : ℕ) → Rises keys → first ≤ a → a ≤ b → b ≤ end → (b + first ≡ end + a) ⊎ (length (range_of keys first end) ≡ 0) → range_of keys first end ≡ range_of keys a b
inner_alike keys first a b end h l m n (inl wide) =
    let low : first ≡ a = omega arith in
    let high : end ≡ b = omega arith in
    ap (λ x. range_of keys x end) low ∙ ap (range_of keys a) high
inner_alike keys first a b end h l m n (inr none) = no_members (range_of keys first end) none ∙ sym (no_members (range_of keys a b) (omega (arith, none, range_within keys first a b end h l m n)))
