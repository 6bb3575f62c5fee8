-- Both ends of a descent to a key: it begins at the top, and ends at the key's leaf, or above it with the members before it counted.
use Rattle.std.proofs.Common.{◌≡◌, ◌≢◌, ℕ, ◌+◌, ◌-◌, ◌*◌, ◌/◌, ◌%◌, ◌^◌, ◌<◌, ◌≤◌, ltb, List, None, Some, inl, length, refl, ap, sym, ◌∙◌, arith}
use Rattle.std.proofs.Math.Nat.{div-eq_of_lt}
use Rattle.std.proofs.Math.Pow.{pow_mono}
use Rattle.aug_model.specs.Keys.{SetFacts, is_member, list_of}
use Rattle.aug_model.specs.Queries.{range_of, rank_of, weight_of, weight_in}
use Rattle.aug_model.specs.declared.summary.Summary.{Summary}
use Rattle.aug_model.proofs.Ranges.{rises_from, all_below_from, range_whole}
use Rattle.aug_query.specs.Tree.{IsTreeSet, IsNodeOf}
use Rattle.aug_model.specs.NodeKeys.{first_key, end_key, keys_below}
use Rattle.aug_query.proofs.Nodes.{of_set, counts, top_first, top_end, leaf_is, leaf_first, leaf_end}
use Rattle.aug_query.proofs.Orders.{rank_cut, rank_few, rank_none}
use Rattle.aug_query.proofs.Descents.{has_is, weight_is, weight_is_none}

-- the top covers each key
pub top_place : (k level bits : ℕ) → level ≡ bits → k < 2 ^ bits → 0 ≡ k / 2 ^ level
top_place k level bits e h = sym (ap (λ n. k / 2 ^ n) e ∙ div-eq_of_lt h)

-- the leaf of a key begins at it
from_leaf : (k : ℕ) → first_key 0 k ≤ k
from_leaf k = omega (arith, leaf_first 0 k refl)

-- and ends past it
to_leaf : (k : ℕ) → k < end_key 0 k
to_leaf k = omega (arith, leaf_end 0 k refl)

-- where a descent ends at the leaf of a key: what it counts tells whether the key is a member, and what it weighs
module _ {A B : Type 0} {sum : List (ℕ × ℕ) → Summary A B} {set other : SetFacts} {told : Summary A B} (k n : ℕ) (totals : (pairs : List (ℕ × ℕ)) → (sum pairs).count ≡ length pairs) (node : IsNodeOf sum other 0 k told) (same : other ≡ set) (count : n ≡ length (keys_below (list_of other) 0 k)) where
  -- it counts what its summary does
  counted : n ≡ told.count
  counted = count ∙ sym (counts node totals)

  -- the key is a member where it counts one
  pub leaf_has : ltb 0 n ≡ is_member (list_of set) k
  leaf_has = has_is k n (of_set same node) totals counted (from_leaf k) (to_leaf k) (inl refl)

  -- the key has no weight where it counts none
  pub leaf_weighs_none : n ≡ 0 → None ≡ weight_of set.pairs k
  leaf_weighs_none none = weight_is_none k (of_set same node) totals (sym counted ∙ none) (from_leaf k) (to_leaf k)

  -- and where it counts one, its weight is the key's, also after further loads
  pub leaf_weighs : (later : SetFacts) (weight : ℕ) → 0 < n → later ≡ other → weight ≡ weight_in later.pairs k → Some weight ≡ weight_of set.pairs k
  leaf_weighs later weight some still weighs = weight_is k weight (of_set same node) totals refl (weighs ∙ ap (λ s. weight_in s.pairs k) (still ∙ same)) (omega (arith, counted, some)) (from_leaf k) (to_leaf k)

-- a rank in a tree fits a u32
pub ranks_few : {set : SetFacts} → IsTreeSet set → (k : ℕ) → rank_of (list_of set) k < 2 ^ 32
ranks_few {set = set} is k =
    let rises = rises_from (list_of set) is.is_key_set.rising in
    let below = all_below_from (2 ^ set.bits) (list_of set) is.is_key_set.below in
    omega (arith, rank_few (list_of set) k (2 ^ set.bits) rises below, pow_mono is.few_bits)

-- no member is before the top
pub top_rank : (keys : List ℕ) (k level bits : ℕ) → level ≡ bits → k < 2 ^ bits → 0 ≡ rank_of keys (first_key level (k / 2 ^ level))
top_rank keys k level bits e h = sym (rank_none keys _ (top_first level (k / 2 ^ level) (sym (top_place k level bits e h))))

-- a node above leaves begins at the key, or one before it
pair_first : (k level : ℕ) → level ≡ 1 → first_key level (k / 2 ^ level) + k % 2 ≡ k
pair_first k level e = ap (λ l. first_key l (k / 2 ^ l) + k % 2) e ∙ omega arith

-- so what is before it is before an even key
pub even_rank : (keys : List ℕ) (k level below : ℕ) → level ≡ 1 → k % 2 ≢ 1 → below ≡ rank_of keys (first_key level (k / 2 ^ level)) → below ≡ rank_of keys k
even_rank keys k level below e even is = let same : first_key level (k / 2 ^ level) ≡ k = omega (arith, pair_first k level e) in is ∙ ap (rank_of keys) same

-- and before an odd one, with what the leaf before it counts
pub odd_rank : {set other : SetFacts} (k level below n : ℕ) → IsTreeSet set → other ≡ set → level ≡ 1 → k % 2 ≡ 1 → below ≡ rank_of (list_of set) (first_key level (k / 2 ^ level)) → n ≡ length (keys_below (list_of other) 0 (k - 1)) → below + n ≡ rank_of (list_of set) k
odd_rank {set = set} k level below n tree same e odd is count =
    let keys = list_of set in
    let first : first_key level (k / 2 ^ level) ≡ k - 1 = omega (arith, pair_first k level e) in
    let next : k - 1 + 1 ≡ k = omega arith in
    let one = count ∙ ap (λ s. length (keys_below (list_of s) 0 (k - 1))) same ∙ ap length (leaf_is keys 0 (k - 1) refl) ∙ ap (λ b. length (range_of keys (k - 1) b)) next in
    let cut = rank_cut keys (k - 1) k (rises_from keys tree.is_key_set.rising) (omega arith) in
    omega (arith, one, cut, is, ap (rank_of keys) first)

-- the same by the place of that leaf among the two
pub pair_rank : {set other : SetFacts} (k below n : ℕ) → IsTreeSet set → other ≡ set → k % 2 ≡ 1 → below ≡ rank_of (list_of set) (first_key 1 (k / 2 ^ 1)) → n ≡ length (keys_below (list_of other) 0 (2 * (k / 2))) → below + n ≡ rank_of (list_of set) k
pair_rank {other = other} k below n tree same odd is count =
    let first : 2 * (k / 2) ≡ k - 1 = omega (arith, odd) in
    odd_rank k 1 below n tree same refl odd is (count ∙ ap (λ p. length (keys_below (list_of other) 0 p)) first)

-- the top counts every member
pub top_size : {set other : SetFacts} (level n : ℕ) → IsTreeSet set → other ≡ set → level ≡ set.bits → n ≡ length (keys_below (list_of other) level 0) → n ≡ length (list_of set)
top_size {set = set} level n is same e count =
    let keys = list_of set in
    let whole = range_whole keys (2 ^ set.bits) (all_below_from (2 ^ set.bits) keys is.is_key_set.below) in
    count ∙ ap (λ s. length (keys_below (list_of s) level 0)) same ∙ ap (λ a. length (range_of keys a (end_key level 0))) (top_first level 0 refl) ∙ ap (λ b. length (range_of keys 0 b)) (top_end level 0 set.bits e refl) ∙ ap length whole
