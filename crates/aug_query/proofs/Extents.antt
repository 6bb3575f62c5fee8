-- The extent of rising keys: the first and the last of them.
use Rattle.std.proofs.Common.{◌≡◌, ℕ, ◌≤◌, min, max, leb, ltb, ◌&&◌, Bool, true, false, cond, List, [], ◌∷◌, filter, Some, Option, option_map, refl, ap, sym, subst, ◌∙◌, arith}
use Rattle.std.proofs.Math.Nat.{le_refl, le_trans, le_of_lt}
use Rattle.aug_monoid.specs.Extent.{extent_parts}
use Rattle.aug_monoid.specs.Fold.{fold_of}
use Rattle.aug_model.specs.Keys.{SetFacts, list_of, keys_of, pairs_of}
use Rattle.aug_model.specs.NodeKeys.{keys_below}
use Rattle.aug_model.specs.Queries.{first_of, last_of, range_of, weighted_range_of, weight_in}
use Rattle.aug_model.proofs.Pairs.{keys_of-range, keys_of-pairs_of}
use Rattle.aug_model.proofs.Ranges.{Rises, AllAbove}
use Rattle.aug_query.specs.Tree.{IsTreeSet}
use Rattle.aug_query.proofs.Choosing.{set_rises, whole_below}
use Rattle.aug_query.proofs.Orders.{last_append}

-- the last of a key and those behind it
abbrev final : ℕ → List ℕ → ℕ
final x [] = x
final x (y ∷ ys) = final y ys

-- it is no less than the key
final_from : (x : ℕ) (xs : List ℕ) → Rises (x ∷ xs) → x ≤ final x xs
final_from x [] h = le_refl x
final_from x (y ∷ ys) h = le_trans (le_of_lt h.0.0) (final_from y ys h.1)

-- and the last of them all
final_is_last : (x : ℕ) (xs : List ℕ) → last_of (x ∷ xs) ≡ Some (final x xs)
final_is_last x [] = refl
final_is_last x (y ∷ ys) = last_append (x ∷ []) (y ∷ ys) (omega arith) ∙ final_is_last y ys

-- the extent of rising keys
extent_is : (p : ℕ × ℕ) (ps : List (ℕ × ℕ)) → Rises (keys_of (p ∷ ps)) → fold_of extent_parts (p ∷ ps) ≡ Some (p.0, final p.0 (keys_of ps))
extent_is p [] h = refl
extent_is p (q ∷ qs) h =
    let low : min p.0 q.0 ≡ p.0 = omega (arith, h.0.0) in
    let high : max p.0 (final q.0 (keys_of qs)) ≡ final q.0 (keys_of qs) = omega (arith, h.0.0, final_from q.0 (keys_of qs) h.1) in
    ap (extent_parts.join (Some (p.0, p.0))) (extent_is q qs h.1) ∙ ap (λ k. Some (k, max p.0 (final q.0 (keys_of qs)))) low ∙ ap (λ k. Some (p.0, k)) high

-- its first bound is their first
extent_first : (ps : List (ℕ × ℕ)) → Rises (keys_of ps) → option_map (λ (b : ℕ × ℕ). b.0) (fold_of extent_parts ps) ≡ first_of (keys_of ps)
extent_first [] h = refl
extent_first (p ∷ ps) h = ap (option_map (λ (b : ℕ × ℕ). b.0)) (extent_is p ps h)

-- and its second their last
extent_last : (ps : List (ℕ × ℕ)) → Rises (keys_of ps) → option_map (λ (b : ℕ × ℕ). b.1) (fold_of extent_parts ps) ≡ last_of (keys_of ps)
extent_last [] h = refl
extent_last (p ∷ ps) h = ap (option_map (λ (b : ℕ × ℕ). b.1)) (extent_is p ps h) ∙ sym (final_is_last p.0 (keys_of ps))

-- what a filter keeps is above what all are
above_filter : (test : ℕ → Bool) (x : ℕ) (xs : List ℕ) → AllAbove x xs → AllAbove x (filter test xs)
above_filter test x [] h = tt
above_filter test x (y ∷ ys) h = elim (test y) as (λ b. AllAbove x (cond b (y ∷ filter test ys) (filter test ys))) [ true ↦ (h.0, above_filter test x ys h.1) | false ↦ above_filter test x ys h.1 ]

-- and rises where all do
rises_filter : (test : ℕ → Bool) (xs : List ℕ) → Rises xs → Rises (filter test xs)
rises_filter test [] h = tt
rises_filter test (x ∷ xs) h = elim (test x) as (λ b. Rises (cond b (x ∷ filter test xs) (filter test xs))) [ true ↦ (above_filter test x xs h.0, rises_filter test xs h.1) | false ↦ rises_filter test xs h.1 ]

-- an end of rising keys, as their extent tells it
module _ {X : Type 0} (bound : Option (ℕ × ℕ) → X) (end : List ℕ → X) (ends : (ps : List (ℕ × ℕ)) → Rises (keys_of ps) → bound (fold_of extent_parts ps) ≡ end (keys_of ps)) where
  -- an end of all members, as the summary of the top tells it, where the set is written in another way
  of_all : (set other : SetFacts) (level : ℕ) (extent : Option (ℕ × ℕ)) → IsTreeSet set → level ≡ set.bits → other ≡ set
      → extent ≡ fold_of extent_parts (pairs_of (weight_in other.pairs) (keys_below (list_of other) level 0)) → bound extent ≡ end (list_of set)
  of_all set other level extent is e same told =
      let weight = weight_in set.pairs in
      let there = keys_of-pairs_of weight (list_of set) in
      let whole = told ∙ ap (λ s. fold_of extent_parts (pairs_of (weight_in s.pairs) (keys_below (list_of s) level 0))) same ∙ ap (λ ks. fold_of extent_parts (pairs_of weight ks)) (whole_below set level is e) in
      ap bound whole ∙ ends (pairs_of weight (list_of set)) (subst Rises (sym there) (set_rises is)) ∙ ap end there

  -- and one of those in an interval
  of_range : (set : SetFacts) (a b : ℕ) (extent : Option (ℕ × ℕ)) → IsTreeSet set → extent ≡ fold_of extent_parts (weighted_range_of set.pairs a b) → bound extent ≡ end (range_of (list_of set) a b)
  of_range set a b extent is told =
      let there = keys_of-range set.pairs a b in
      ap bound told ∙ ends (weighted_range_of set.pairs a b) (subst Rises (sym there) (rises_filter (λ k. leb a k && ltb k b) (list_of set) (set_rises is))) ∙ ap end there

-- the four ends
pub first_of_all : (set other : SetFacts) (level : ℕ) (extent : Option (ℕ × ℕ)) → IsTreeSet set → level ≡ set.bits → other ≡ set → extent ≡ fold_of extent_parts (pairs_of (weight_in other.pairs) (keys_below (list_of other) level 0)) → option_map (λ (b : ℕ × ℕ). b.0) extent ≡ first_of (list_of set)
first_of_all = of_all (option_map (λ (b : ℕ × ℕ). b.0)) first_of extent_first

pub last_of_all : (set other : SetFacts) (level : ℕ) (extent : Option (ℕ × ℕ)) → IsTreeSet set → level ≡ set.bits → other ≡ set → extent ≡ fold_of extent_parts (pairs_of (weight_in other.pairs) (keys_below (list_of other) level 0)) → option_map (λ (b : ℕ × ℕ). b.1) extent ≡ last_of (list_of set)
last_of_all = of_all (option_map (λ (b : ℕ × ℕ). b.1)) last_of extent_last

pub first_of_range : (set : SetFacts) (a b : ℕ) (extent : Option (ℕ × ℕ)) → IsTreeSet set → extent ≡ fold_of extent_parts (weighted_range_of set.pairs a b) → option_map (λ (b : ℕ × ℕ). b.0) extent ≡ first_of (range_of (list_of set) a b)
first_of_range = of_range (option_map (λ (b : ℕ × ℕ). b.0)) first_of extent_first

pub last_of_range : (set : SetFacts) (a b : ℕ) (extent : Option (ℕ × ℕ)) → IsTreeSet set → extent ≡ fold_of extent_parts (weighted_range_of set.pairs a b) → option_map (λ (b : ℕ × ℕ). b.1) extent ≡ last_of (range_of (list_of set) a b)
last_of_range = of_range (option_map (λ (b : ℕ × ℕ). b.1)) last_of extent_last
