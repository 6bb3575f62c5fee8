-- What the walk of an interval goes by: the bits of its two ends, and the nodes beside the ways to them.
use Rattle.std.proofs.Common.{◌≡◌, ◌≢◌, ℕ, ◌+◌, ◌-◌, ◌*◌, ◌/◌, ◌%◌, ◌^◌, ◌<◌, ◌≤◌, inl, inr, List, ◌++◌, length, All, min, refl, ap, sym, ◌∙◌, arith}
use Rattle.std.proofs.Math.Nat.{div-eq_of_lt, div-mul-le_self, le_trans, le_of_lt, mul-le-mul_right}
use Rattle.std.proofs.lemmas.Bool.{cases_lt}
use Rattle.std.proofs.lemmas.Nat.{pow_pos, le-div}
use Rattle.aug_monoid.specs.Weighted.{FitsPair}
use Rattle.aug_model.specs.Keys.{SetFacts, list_of, pairs_of}
use Rattle.aug_model.specs.Queries.{range_of, weight_in, weighted_range_of}
use Rattle.aug_model.specs.declared.summary.Summary.{Summary}
use Rattle.aug_model.proofs.Pairs.{pairs_of-append, range-again}
use Rattle.aug_model.proofs.Ranges.{Rises, rises_from, all_below_from, range_cut}
use Rattle.aug_query.specs.declared.loaded.Loaded.{Loaded}
use Rattle.aug_query.specs.Descend.{Descends}
use Rattle.aug_query.specs.Tree.{IsTreeSet, sum_of}
use Rattle.aug_model.specs.NodeKeys.{first_key, end_key, keys_below}
use Rattle.aug_query.proofs.Nodes.{left_low, right_high, leaf_low, leaf_first, leaf_end, node_width}
use Rattle.aug_query.proofs.Cover.{range_fits, range_is_few, inner_alike, clipped}
use Rattle.aug_query.proofs.Descending.{further, half_place, key_first, key_end, low_half, high_half}

-- a node over a greater key does not come before one over a lesser key
pub place_order : (a z level : ℕ) → a ≤ z → a / 2 ^ level ≤ z / 2 ^ level
place_order a z level h = le-div (a / 2 ^ level) z (2 ^ level) (pow_pos level) (le_trans (div-mul-le_self a (2 ^ level)) h)

-- the top covers every key
pub top_place : (k level bits : ℕ) → level ≡ bits → k < 2 ^ bits → k / 2 ^ level ≡ 0
top_place k level bits e h = ap (λ n. k / 2 ^ n) e ∙ div-eq_of_lt h

-- where the ways to two keys part, the lesser key is in the left child and the greater one in the right
pub part_left : (a z level : ℕ) → a / 2 ^ (level + 1) ≡ z / 2 ^ (level + 1) → a / 2 ^ level < z / 2 ^ level → 2 * (a / 2 ^ (level + 1)) ≡ a / 2 ^ level
part_left a z level both less = let half_a = half_place a level in let half_z = half_place z level in omega arith

pub part_right : (a z level : ℕ) → a / 2 ^ (level + 1) ≡ z / 2 ^ (level + 1) → a / 2 ^ level < z / 2 ^ level → 2 * (a / 2 ^ (level + 1)) + 1 ≡ z / 2 ^ level
part_right a z level both less = let half_a = half_place a level in let half_z = half_place z level in omega arith

-- the leaf of a key is at its place, begins at it, and ends right after it
pub leaf_place : (k level : ℕ) → level ≡ 0 → k / 2 ^ level ≡ k
leaf_place k level e = leaf_low level (k / 2 ^ level) k e (key_first k level) (key_end k level)

pub leaf_begins : (k level : ℕ) → level ≡ 0 → first_key level (k / 2 ^ level) ≡ k
leaf_begins k level e = leaf_first level (k / 2 ^ level) e ∙ leaf_place k level e

pub leaf_ends : (k level : ℕ) → level ≡ 0 → end_key level (k / 2 ^ level) ≡ k + 1
leaf_ends k level e = leaf_end level (k / 2 ^ level) e ∙ ap (λ n. n + 1) (leaf_place k level e)

-- a child over a key ends where the node does, or before the right child
pub end_of_high : (k level : ℕ) → k / 2 ^ level % 2 ≢ 0 → end_key level (k / 2 ^ level) ≡ end_key (level + 1) (k / 2 ^ (level + 1))
end_of_high k level high = ap (λ p. end_key level p) (sym (high_half k level high)) ∙ right_high (level + 1) (k / 2 ^ (level + 1)) level (2 * (k / 2 ^ (level + 1)) + 1) refl refl

pub end_no_later : (k level : ℕ) → end_key level (k / 2 ^ level) ≤ end_key (level + 1) (k / 2 ^ (level + 1))
end_no_later k level =
    let half = half_place k level in
    let last = right_high (level + 1) (k / 2 ^ (level + 1)) level (2 * (k / 2 ^ (level + 1)) + 1) refl refl in
    let less : end_key level (k / 2 ^ level) ≤ end_key level (2 * (k / 2 ^ (level + 1)) + 1) = mul-le-mul_right (2 ^ level) (omega arith) in
    omega (arith, last, less)

-- and begins where the node does, or after the left child
pub first_of_low : (k level : ℕ) → k / 2 ^ level % 2 ≡ 0 → first_key level (k / 2 ^ level) ≡ first_key (level + 1) (k / 2 ^ (level + 1))
first_of_low k level low = ap (λ p. first_key level p) (sym (low_half k level low)) ∙ left_low (level + 1) (k / 2 ^ (level + 1)) level (2 * (k / 2 ^ (level + 1))) refl refl

pub first_no_earlier : (k level : ℕ) → first_key (level + 1) (k / 2 ^ (level + 1)) ≤ first_key level (k / 2 ^ level)
first_no_earlier k level =
    let half = half_place k level in
    let first = left_low (level + 1) (k / 2 ^ (level + 1)) level (2 * (k / 2 ^ (level + 1))) refl refl in
    let more : first_key level (2 * (k / 2 ^ (level + 1))) ≤ first_key level (k / 2 ^ level) = mul-le-mul_right (2 ^ level) (omega arith) in
    omega (arith, first, more)

-- the right child beside a left one over a key covers what is between the ends of that and of the node
pub beside_low : (keys : List ℕ) (k level : ℕ) → k / 2 ^ level % 2 ≡ 0 → keys_below keys level (2 * (k / 2 ^ (level + 1)) + 1) ≡ range_of keys (end_key level (k / 2 ^ level)) (end_key (level + 1) (k / 2 ^ (level + 1)))
beside_low keys k level low =
    let p = k / 2 ^ (level + 1) in
    ap (λ n. range_of keys ((n + 1) * 2 ^ level) (end_key level (2 * p + 1))) (low_half k level low) ∙ ap (λ n. range_of keys (end_key level (k / 2 ^ level)) n) (right_high (level + 1) p level (2 * p + 1) refl refl)

-- the left child beside a right one covers what is between the firsts of the node and of that
pub beside_high : (keys : List ℕ) (k level : ℕ) → k / 2 ^ level % 2 ≢ 0 → keys_below keys level (2 * (k / 2 ^ (level + 1))) ≡ range_of keys (first_key (level + 1) (k / 2 ^ (level + 1))) (first_key level (k / 2 ^ level))
beside_high keys k level high =
    let p = k / 2 ^ (level + 1) in
    ap (λ n. range_of keys n (end_key level (2 * p))) (left_low (level + 1) p level (2 * p) refl refl) ∙ ap (λ n. range_of keys (first_key (level + 1) p) (n * 2 ^ level)) (high_half k level high)

-- where the ways to two keys part, the left child ends where the right one begins
pub part_between : (a z level : ℕ) → a / 2 ^ (level + 1) ≡ z / 2 ^ (level + 1) → a / 2 ^ level < z / 2 ^ level → end_key level (a / 2 ^ level) ≡ first_key level (z / 2 ^ level)
part_between a z level both less =
    let next : a / 2 ^ level + 1 ≡ z / 2 ^ level = omega (arith, part_left a z level both less, part_right a z level both less) in ap (λ n. n * 2 ^ level) next

-- an interval as wide as a node that covers it has the members of that
pub whole_node : (keys : List ℕ) (a b level : ℕ) → Rises keys → a < b → a / 2 ^ level ≡ (b - 1) / 2 ^ level → b - a ≡ 2 ^ level → keys_below keys level (a / 2 ^ level) ≡ range_of keys a b
whole_node keys a b level rises some both wide =
    let first = key_first a level in
    let last = key_end (b - 1) level in
    let same = ap (λ p. end_key level p) both in
    let width = node_width level (a / 2 ^ level) in
    inner_alike keys (first_key level (a / 2 ^ level)) a b (end_key level (a / 2 ^ level)) rises first (le_of_lt some) (omega (arith, last, same)) (inl (omega (arith, some, wide, width)))

module _ {A B : Type 0} {sum : List (ℕ × ℕ) → Summary A B} {set : SetFacts} (is : IsTreeSet set) where
  -- summaries of two intervals of which one begins where the other ends join to that of both
  pub joined_is : {low high all : Summary A B} → ((xs ys : List (ℕ × ℕ)) → All FitsPair xs → All FitsPair ys → low ≡ sum xs → high ≡ sum ys → all ≡ sum (xs ++ ys)) → (a b c : ℕ) → a ≤ b → b ≤ c
      → low ≡ sum_of sum set.pairs (range_of (list_of set) a b) → high ≡ sum_of sum set.pairs (range_of (list_of set) b c) → all ≡ sum_of sum set.pairs (range_of (list_of set) a c)
  joined_is joins a b c l m e f =
      let keys = list_of set in
      let weights = weight_in set.pairs in
      joins (pairs_of weights (range_of keys a b)) (pairs_of weights (range_of keys b c)) (range_fits is a b) (range_fits is b c) e f
      ∙ ap sum (sym (pairs_of-append weights (range_of keys a b) (range_of keys b c))) ∙ ap (sum_of sum set.pairs) (sym (range_cut keys a b c (rises_from keys is.is_key_set.rising) l m))

-- and their members are few
pub joined_few : {A B : Type 0} {set : SetFacts} {low high : Summary A B} (sum : List (ℕ × ℕ) → Summary A B) → IsTreeSet set → ((pairs : List (ℕ × ℕ)) → (sum pairs).count ≡ length pairs) → (a b c d : ℕ)
    → low ≡ sum_of sum set.pairs (range_of (list_of set) a b) → high ≡ sum_of sum set.pairs (range_of (list_of set) c d) → low.count + high.count < 2 ^ 32
joined_few {set = set} sum is totals a b c d e f =
    let keys = list_of set in
    let weights = weight_in set.pairs in
    omega (arith, ap (λ s. s.count) e, ap (λ s. s.count) f, totals (pairs_of weights (range_of keys a b)), totals (pairs_of weights (range_of keys c d)), range_is_few is a b, range_is_few is c d)

module _ {Tree Name : Type 0} {set_of : Tree → SetFacts} {loads_of : Tree → Loaded} {Names : Tree → ℕ → ℕ → Name → Type 0} {KeepsRest : Tree → Tree → Type 0} (on : (first tree last : Tree) → KeepsRest first tree → KeepsRest tree last → KeepsRest first last) where
  -- a node beside the way, and then its summary
  pub beside : {old tree new : Tree} → Descends set_of loads_of Names KeepsRest 1 0 0 0 old tree → Descends set_of loads_of Names KeepsRest 0 0 1 0 tree new → Descends set_of loads_of Names KeepsRest 1 0 1 0 old new
  beside node summary = further on node summary (omega arith) (omega arith) (omega arith) (omega arith)

  -- one level further on the way to a key, past what was read beside it
  pub one_level : {whole level : ℕ} {old tree past new : Tree} → Descends set_of loads_of Names KeepsRest (2 * (whole - level)) 0 (whole - level) 0 old tree → Descends set_of loads_of Names KeepsRest 1 0 1 0 tree past → Descends set_of loads_of Names KeepsRest 1 0 0 0 past new → 0 < level → level ≤ whole
      → Descends set_of loads_of Names KeepsRest (2 * (whole - (level - 1))) 0 (whole - (level - 1)) 0 old new
  one_level {whole = whole} {level = level} walk read step inner most = further on (further {j = 2 * (whole - level) + 1} {k = 0} {l = whole - level + 1} {o = 0} on walk read (omega arith) (omega arith) (omega arith) (omega arith)) step (omega arith) (omega arith) (omega arith) (omega arith)

  -- the way to the node over both ends, and then the ways to each of them
  pub both_ways : {bits level : ℕ} {old top left low right high : Tree} → Descends set_of loads_of Names KeepsRest (bits + 1 - level) 0 0 0 old top → Descends set_of loads_of Names KeepsRest 1 0 0 0 top left → Descends set_of loads_of Names KeepsRest (2 * (level - 1)) 0 (level - 1 + 1) 0 left low
      → Descends set_of loads_of Names KeepsRest 1 0 0 0 low right → Descends set_of loads_of Names KeepsRest (2 * (level - 1)) 0 (level - 1 + 1) 0 right high → 1 ≤ level → level ≤ bits → Descends set_of loads_of Names KeepsRest (4 * bits - 1) 0 (2 * bits) 0 old high
  both_ways {bits = bits} {level = level} span to_left from to_right until inner most =
      let first = further {j = bits + 2 - level} {k = 0} {l = 0} {o = 0} on span to_left (omega arith) (omega arith) (omega arith) (omega arith) in
      let second = further {j = bits + level} {k = 0} {l = level} {o = 0} on first from (omega arith) (omega arith) (omega arith) (omega arith) in
      let third = further {j = bits + level + 1} {k = 0} {l = level} {o = 0} on second to_right (omega arith) (omega arith) (omega arith) (omega arith) in
      further on third until (omega arith) (omega arith) (omega arith) (omega arith)

-- what is asked for from a key to another is what there is up to that or to the end of all keys
pub asked_is : {A B : Type 0} {set : SetFacts} (sum : List (ℕ × ℕ) → Summary A B) → IsTreeSet set → (a b m : ℕ) → m ≡ min b (2 ^ set.bits) → sum_of sum set.pairs (range_of (list_of set) a m) ≡ sum (weighted_range_of set.pairs a b)
asked_is {set = set} sum is a b m e =
    let keys = list_of set in
    ap (sum_of sum set.pairs) (sym (clipped keys a b (2 ^ set.bits) m (all_below_from (2 ^ set.bits) keys is.is_key_set.below) e)) ∙ ap sum (sym (range-again set.pairs a b (rises_from keys is.is_key_set.rising)))

-- the node over an interval that is not as wide as it is no leaf
pub no_leaf : (a b level : ℕ) → a < b → a / 2 ^ level ≡ (b - 1) / 2 ^ level → b - a ≢ 1 * 2 ^ level % 4294967296 → 1 ≤ level
no_leaf a b level some both narrow =
    elim (cases_lt 0 level) [
      | inl inner ↦ inner
      | inr leaf ↦
          let zero_level : level ≡ 0 = omega arith in
          let first = leaf_place a level zero_level in
          let last = leaf_place (b - 1) level zero_level in
          let one : 1 * 2 ^ level % 4294967296 ≡ 1 = ap (λ n. 1 * 2 ^ n % 4294967296) zero_level in
          let wide : b - a ≡ 1 = omega (arith, both, first, last, some) in
          absurd (narrow (wide ∙ sym one))
    ]
