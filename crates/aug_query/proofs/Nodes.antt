-- What the nodes of a tree tell of its set.
use Rattle.std.proofs.Common.{add-one, zero-mul, one-mul, mul-one, ◌≡◌, ℕ, ◌+◌, ◌-◌, ◌*◌, ◌%◌, ◌^◌, ◌<◌, ◌≤◌, List, ◌++◌, length, sym, ap, ◌∙◌, subst, arith}
use Rattle.std.proofs.Math.Nat.{pow-suc, mod-eq_of_lt, le_trans, le_of_lt}
use Rattle.std.proofs.Math.Pow.{pow_mono}
use Rattle.std.proofs.lemmas.Nat.{pow_pos}
use Rattle.aug_model.specs.Keys.{SetFacts, list_of, pairs_of}
use Rattle.aug_model.specs.Queries.{range_of, weight_in}
use Rattle.aug_model.proofs.Pairs.{length-pairs_of}
use Rattle.aug_model.specs.declared.summary.Summary.{Summary}
use Rattle.aug_query.specs.Tree.{IsNodeOf}
use Rattle.aug_model.specs.NodeKeys.{first_key, end_key, keys_below}
use Rattle.aug_query.specs.inside.NodePlaces.{middle_key}
use Rattle.aug_model.proofs.Ranges.{Rises, AllBelow, rises_from, all_below_from, range_whole, count_cut, range_cut}

double : (l : ℕ) → 2 ^ (l + 1) ≡ 2 ^ l + 2 ^ l
double l = rw add-one (rw pow-suc (omega arith))

-- a width halved: the same facts over plain numbers
twice : (place w v : ℕ) → v ≡ w + w → 2 * place * w ≡ place * v
twice place w v e = rw e (omega arith)

-- where the children of a node begin and end
pub left_low : (level place l p : ℕ) → l + 1 ≡ level → p ≡ 2 * place → p * 2 ^ l ≡ place * 2 ^ level
left_low level place l p e f = ap (λ n. n * 2 ^ l) f ∙ twice place (2 ^ l) (2 ^ level) (ap (λ n. 2 ^ n) (sym e) ∙ double l)

half : (level l : ℕ) → l + 1 ≡ level → 2 ^ l ≡ 2 ^ (level - 1)
half level l e = let same : l ≡ level - 1 = omega arith in ap (λ n. 2 ^ n) same

pub left_high : (level place l p : ℕ) → l + 1 ≡ level → p ≡ 2 * place → (p + 1) * 2 ^ l ≡ middle_key level place
left_high level place l p e f = ap (λ n. (n + 1) * 2 ^ l) f ∙ ap (λ w. (2 * place + 1) * w) (half level l e)

pub right_low : (level place l p : ℕ) → l + 1 ≡ level → p ≡ 2 * place + 1 → p * 2 ^ l ≡ middle_key level place
right_low level place l p e f = ap (λ n. n * 2 ^ l) f ∙ ap (λ w. (2 * place + 1) * w) (half level l e)

pub right_high : (level place l p : ℕ) → l + 1 ≡ level → p ≡ 2 * place + 1 → (p + 1) * 2 ^ l ≡ (place + 1) * 2 ^ level
right_high level place l p e f =
    let next : p + 1 ≡ 2 * (place + 1) = omega arith in
    ap (λ n. n * 2 ^ l) next ∙ twice (place + 1) (2 ^ l) (2 ^ level) (ap (λ n. 2 ^ n) (sym e) ∙ double l)

-- the cut is strictly within the node
between : (place w v : ℕ) → v ≡ w + w → 0 < w → (place * v < (2 * place + 1) * w) × ((2 * place + 1) * w < (place + 1) * v)
between place w v e h = rw e (omega arith, omega arith)

width : (level : ℕ) → 1 ≤ level → 2 ^ level ≡ 2 ^ (level - 1) + 2 ^ (level - 1)
width level h = let same : level ≡ level - 1 + 1 = omega arith in ap (λ n. 2 ^ n) same ∙ double (level - 1)

pub low_middle : (level place : ℕ) → 1 ≤ level → place * 2 ^ level < middle_key level place
low_middle level place h = (between place (2 ^ (level - 1)) (2 ^ level) (width level h) (pow_pos (level - 1))).0

pub middle_high : (level place : ℕ) → 1 ≤ level → middle_key level place < (place + 1) * 2 ^ level
middle_high level place h = (between place (2 ^ (level - 1)) (2 ^ level) (width level h) (pow_pos (level - 1))).1

-- a node of a tree, where its set is written in another way
pub of_set : {A B : Type 0} {sum : List (ℕ × ℕ) → Summary A B} {set other : SetFacts} {level place : ℕ} {told : Summary A B} → other ≡ set → IsNodeOf sum other level place told → IsNodeOf sum set level place told
of_set {sum = sum} {level = level} {place = place} {told = told} e node = subst (λ (s : SetFacts). IsNodeOf sum s level place told) e node

-- how wide a node is
pub node_width : (level place : ℕ) → end_key level place ≡ first_key level place + 2 ^ level
node_width level place = let w = 2 ^ level in omega arith

pub wrapped_width : (n level place : ℕ) → n ≡ level → end_key level place ≤ 2 ^ 16 → 1 * 2 ^ n % 4294967296 ≡ 2 ^ level
wrapped_width n level place e h =
    let small : 1 * 2 ^ level < 4294967296 = omega (arith, node_width level place, h) in
    ap (λ m. 1 * 2 ^ m % 4294967296) e ∙ mod-eq_of_lt small ∙ one-mul (2 ^ level)

-- the number of keys is computed without a wrap
pub wrapped_universe : (n bits : ℕ) → n ≡ bits → bits ≤ 16 → 1 * 2 ^ n % 4294967296 ≡ 2 ^ bits
wrapped_universe n bits e h =
    let small : 1 * 2 ^ bits < 4294967296 = omega (arith, pow_mono h) in
    ap (λ m. 1 * 2 ^ m % 4294967296) e ∙ mod-eq_of_lt small ∙ one-mul (2 ^ bits)

-- the top ends past every key
pub top_end : (level place bits : ℕ) → level ≡ bits → place ≡ 0 → end_key level place ≡ 2 ^ bits
top_end level place bits e f = ap (λ n. (n + 1) * 2 ^ level) f ∙ one-mul (2 ^ level) ∙ ap (λ n. 2 ^ n) e

-- the top begins at key 0
pub top_first : (level place : ℕ) → place ≡ 0 → first_key level place ≡ 0
top_first level place e = ap (λ n. n * 2 ^ level) e ∙ zero-mul (2 ^ level)

-- a leaf that covers a key covers it alone
pub leaf_low : (level place k : ℕ) → level ≡ 0 → place * 2 ^ level ≤ k → k < (place + 1) * 2 ^ level → place ≡ k
leaf_low level place k e l h =
    let one : 2 ^ level ≡ 1 = ap (λ n. 2 ^ n) e in
    let low = ap (λ w. place * w) one in
    let high = ap (λ w. (place + 1) * w) one in
    omega (arith, low, high)

pub leaf_first : (level place : ℕ) → level ≡ 0 → first_key level place ≡ place
leaf_first level place e = ap (λ n. place * 2 ^ n) e ∙ mul-one place

pub leaf_end : (level place : ℕ) → level ≡ 0 → end_key level place ≡ place + 1
leaf_end level place e = ap (λ n. (place + 1) * 2 ^ n) e ∙ mul-one (place + 1)

pub leaf_is : (keys : List ℕ) (level place : ℕ) → level ≡ 0 → keys_below keys level place ≡ range_of keys place (place + 1)
leaf_is keys level place e =
    ap (λ a. range_of keys a (end_key level place)) (leaf_first level place e) ∙ ap (λ b. range_of keys place b) (leaf_end level place e)

module _ {A B : Type 0} {sum : List (ℕ × ℕ) → Summary A B} {set : SetFacts} {level place : ℕ} {told : Summary A B} (node : IsNodeOf sum set level place told) where
  -- the members of the tree's set rise, and are below the end of its keys
  pub members_rise : Rises (list_of set)
  members_rise = rises_from (list_of set) node.is_tree_set.is_key_set.rising

  pub members_below : AllBelow (2 ^ set.bits) (list_of set)
  members_below = all_below_from (2 ^ set.bits) (list_of set) node.is_tree_set.is_key_set.below

  -- the keys of a tree are few
  pub few_keys : (place + 1) * 2 ^ level ≤ 2 ^ 16
  few_keys = le_trans node.place_fits (pow_mono node.is_tree_set.few_bits)

  -- a node counts the members below it
  pub counts : ((pairs : List (ℕ × ℕ)) → (sum pairs).count ≡ length pairs) → told.count ≡ length (keys_below (list_of set) level place)
  counts h = ap (λ s. s.count) node.tells ∙ h (pairs_of (weight_in set.pairs) (keys_below (list_of set) level place)) ∙ length-pairs_of (weight_in set.pairs) (keys_below (list_of set) level place)

  -- the top of a tree covers every key
  pub top_covers : level ≡ set.bits → place ≡ 0 → keys_below (list_of set) level place ≡ list_of set
  top_covers e f =
      ap (λ a. range_of (list_of set) a (end_key level place)) (top_first level place f) ∙ ap (λ b. range_of (list_of set) 0 b) (top_end level place set.bits e f) ∙ range_whole (list_of set) (2 ^ set.bits) members_below

module _ {A B : Type 0} {sum : List (ℕ × ℕ) → Summary A B} {set : SetFacts} {level place l p : ℕ} {told child : Summary A B} (totals : (pairs : List (ℕ × ℕ)) → (sum pairs).count ≡ length pairs) (node : IsNodeOf sum set level place told) (below : IsNodeOf sum set l p child) where
  -- what a left child leaves of its parent's count is in the right half
  pub left_leaves : l + 1 ≡ level → p ≡ 2 * place → told.count ≡ child.count + length (range_of (list_of set) (middle_key level place) (end_key level place))
  left_leaves e f =
      let inner : 1 ≤ level = omega arith in
      let cut = count_cut (list_of set) (first_key level place) (middle_key level place) (end_key level place) (members_rise node) (le_of_lt (low_middle level place inner)) (le_of_lt (middle_high level place inner)) in
      let half = ap (λ a. length (range_of (list_of set) a (end_key l p))) (left_low level place l p e f) ∙ ap (λ b. length (range_of (list_of set) (first_key level place) b)) (left_high level place l p e f) in
      omega (arith, counts node totals, counts below totals, cut, half)

  -- what a right child leaves is in the left half
  pub right_leaves : l + 1 ≡ level → p ≡ 2 * place + 1 → told.count ≡ length (range_of (list_of set) (first_key level place) (middle_key level place)) + child.count
  right_leaves e f =
      let inner : 1 ≤ level = omega arith in
      let cut = count_cut (list_of set) (first_key level place) (middle_key level place) (end_key level place) (members_rise node) (le_of_lt (low_middle level place inner)) (le_of_lt (middle_high level place inner)) in
      let half = ap (λ a. length (range_of (list_of set) a (end_key l p))) (right_low level place l p e f) ∙ ap (λ b. length (range_of (list_of set) (middle_key level place) b)) (right_high level place l p e f) in
      omega (arith, counts node totals, counts below totals, cut, half)

-- what the children of a node cover
pub left_covers : (keys : List ℕ) (level place l p : ℕ) → l + 1 ≡ level → p ≡ 2 * place → keys_below keys l p ≡ range_of keys (first_key level place) (middle_key level place)
left_covers keys level place l p e f = ap (λ a. range_of keys a (end_key l p)) (left_low level place l p e f) ∙ ap (λ b. range_of keys (first_key level place) b) (left_high level place l p e f)

pub right_covers : (keys : List ℕ) (level place l p : ℕ) → l + 1 ≡ level → p ≡ 2 * place + 1 → keys_below keys l p ≡ range_of keys (middle_key level place) (end_key level place)
right_covers keys level place l p e f = ap (λ a. range_of keys a (end_key l p)) (right_low level place l p e f) ∙ ap (λ b. range_of keys (middle_key level place) b) (right_high level place l p e f)

-- what a node covers, cut in the middle
pub node_cut : (keys : List ℕ) (level place : ℕ) → Rises keys → 1 ≤ level → keys_below keys level place ≡ range_of keys (first_key level place) (middle_key level place) ++ range_of keys (middle_key level place) (end_key level place)
node_cut keys level place h inner = range_cut keys (first_key level place) (middle_key level place) (end_key level place) h (le_of_lt (low_middle level place inner)) (le_of_lt (middle_high level place inner))
