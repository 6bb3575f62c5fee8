-- Loads of a tree one after another.
use Rattle.std.proofs.Common.{◌≡◌, ◌≢◌, ℕ, ◌+◌, ◌*◌, ◌/◌, ◌%◌, ◌^◌, ◌<◌, ◌≤◌, ◌==◌, Bool, true, false, if◌then◌else◌, List, length, add-one, refl, ap, sym, ◌∙◌, arith}
use Rattle.std.proofs.Math.Nat.{pow-suc, div-div-eq-div-mul, div-mul-le_self, mod-lt, mul-le-mul_right}
use Rattle.std.proofs.Math.Pow.{split}
use Rattle.std.proofs.lemmas.Bool.{eqb-true, eqb-false}
use Rattle.std.proofs.lemmas.Nat.{pow_pos}
use Rattle.aug_model.specs.Keys.{SetFacts}
use Rattle.aug_model.specs.Queries.{rank_of}
use Rattle.aug_model.proofs.Ranges.{Rises}
use Rattle.aug_model.specs.NodeKeys.{first_key, end_key, keys_below}
use Rattle.aug_query.specs.Descend.{Descends}
use Rattle.aug_query.proofs.Nodes.{node_width, left_low, right_high}
use Rattle.aug_query.proofs.Orders.{rank_cut}
use Rattle.aug_query.specs.declared.loaded.Loaded.{Loaded}

module _ {Tree Name : Type 0} {set_of : Tree → SetFacts} {loads_of : Tree → Loaded} {Names : Tree → ℕ → ℕ → Name → Type 0} {KeepsRest : Tree → Tree → Type 0} where
  -- nothing was loaded
  pub still : {n c s p : ℕ} {tree : Tree} → ((tree : Tree) → KeepsRest tree tree) → Descends set_of loads_of Names KeepsRest n c s p tree tree
  still {tree = tree} so = record {
    same_set = refl;
    few_nodes = omega arith;
    few_counts = omega arith;
    few_summaries = omega arith;
    few_passed = omega arith;
    keeps_names = λ level place name has. has;
    keeps_rest = so tree;
  }

  -- a descent, and then another
  pub further : {n c s p m d t q j k l o : ℕ} {old tree new : Tree} → ((first tree last : Tree) → KeepsRest first tree → KeepsRest tree last → KeepsRest first last)
      → Descends set_of loads_of Names KeepsRest n c s p old tree → Descends set_of loads_of Names KeepsRest m d t q tree new → n + m ≤ j → c + d ≤ k → s + t ≤ l → p + q ≤ o → Descends set_of loads_of Names KeepsRest j k l o old new
  further {old = old} {tree = tree} {new = new} on walk step a b e f = record {
    same_set = step.same_set ∙ walk.same_set;
    few_nodes = omega (arith, walk.few_nodes, step.few_nodes);
    few_counts = omega (arith, walk.few_counts, step.few_counts);
    few_summaries = omega (arith, walk.few_summaries, step.few_summaries);
    few_passed = omega (arith, walk.few_passed, step.few_passed);
    keeps_names = λ level place name has. step.keeps_names level place name (walk.keeps_names level place name has);
    keeps_rest = on old tree new walk.keeps_rest step.keeps_rest;
  }

  -- a child and its count
  pub counted : {old tree new : Tree} → ((first tree last : Tree) → KeepsRest first tree → KeepsRest tree last → KeepsRest first last)
      → Descends set_of loads_of Names KeepsRest 1 0 0 0 old tree → Descends set_of loads_of Names KeepsRest 0 1 0 0 tree new → Descends set_of loads_of Names KeepsRest 1 1 0 0 old new
  counted on child count = further on child count (omega arith) (omega arith) (omega arith) (omega arith)

  -- and then the other child
  pub counted_other : {old tree past new : Tree} → ((first tree last : Tree) → KeepsRest first tree → KeepsRest tree last → KeepsRest first last)
      → Descends set_of loads_of Names KeepsRest 1 0 0 0 old tree → Descends set_of loads_of Names KeepsRest 0 1 0 0 tree past → Descends set_of loads_of Names KeepsRest 1 0 0 0 past new → Descends set_of loads_of Names KeepsRest 2 1 0 0 old new
  counted_other on child count other = further on (counted on child count) other (omega arith) (omega arith) (omega arith) (omega arith)

  -- the same descent within a wider bound
  pub within : {n c s p j k l o : ℕ} {old new : Tree} → Descends set_of loads_of Names KeepsRest n c s p old new → n ≤ j → c ≤ k → s ≤ l → p ≤ o → Descends set_of loads_of Names KeepsRest j k l o old new
  within walk a b e f = record {
    same_set = walk.same_set;
    few_nodes = omega (arith, walk.few_nodes);
    few_counts = omega (arith, walk.few_counts);
    few_summaries = omega (arith, walk.few_summaries);
    few_passed = omega (arith, walk.few_passed);
    keeps_names = walk.keeps_names;
    keeps_rest = walk.keeps_rest;
  }

-- the node above one that covers a key covers it too, at half its place
pub half_place : (k level : ℕ) → k / 2 ^ (level + 1) ≡ k / 2 ^ level / 2
half_place k level = ap (λ (n : ℕ). k / 2 ^ n) (add-one level) ∙ ap (λ (n : ℕ). k / n) (pow-suc 2 level) ∙ sym (div-div-eq-div-mul k (2 ^ level) 2)

-- a key is covered by the node at its place, at each level
pub key_first : (k level : ℕ) → first_key level (k / 2 ^ level) ≤ k
key_first k level = div-mul-le_self k (2 ^ level)

pub key_end : (k level : ℕ) → k < end_key level (k / 2 ^ level)
key_end k level = let whole = split k level in let low = mod-lt k {m = 2 ^ level} (pow_pos level) in let wide = node_width level (k / 2 ^ level) in omega (arith, whole, low, wide)

-- where a key is in the lesser half, and where in the greater one
pub low_half : (k level : ℕ) → k / 2 ^ level % 2 ≡ 0 → 2 * (k / 2 ^ (level + 1)) ≡ k / 2 ^ level
low_half k level low = let half = half_place k level in omega arith

pub high_half : (k level : ℕ) → k / 2 ^ level % 2 ≢ 0 → 2 * (k / 2 ^ (level + 1)) + 1 ≡ k / 2 ^ level
high_half k level high = let half = half_place k level in omega arith

-- where the child on a key's side is
pub side_place : (k level : ℕ) (right : Bool) → right ≡ (k / 2 ^ level % 2 == 1) → (if right then 2 * (k / 2 ^ (level + 1)) + 1 else 2 * (k / 2 ^ (level + 1))) ≡ k / 2 ^ level
side_place k level true is = let odd = eqb-true (k / 2 ^ level % 2) 1 (sym is) in high_half k level (λ even. omega (arith, odd, even))
side_place k level false is = let even = eqb-false (k / 2 ^ level % 2) 1 (sym is) in low_half k level (omega (arith, even))

-- how many members come before a right child: those before the node, and those of the left one
pub rank_before_right : (keys : List ℕ) (level place n : ℕ) → Rises keys → n ≡ length (keys_below keys level (2 * place)) → rank_of keys (first_key level (2 * place + 1)) ≡ rank_of keys (first_key (level + 1) place) + n
rank_before_right keys level place n rises is =
    let cut = rank_cut keys (first_key level (2 * place)) (end_key level (2 * place)) rises (mul-le-mul_right (2 ^ level) (omega arith)) in
    let from = ap (rank_of keys) (left_low (level + 1) place level (2 * place) refl refl) in
    omega (arith, cut, from, is)

-- and after a left child: those after the node, and those of the right one
pub rank_after_left : (keys : List ℕ) (level place n : ℕ) → Rises keys → n ≡ length (keys_below keys level (2 * place + 1)) → rank_of keys (end_key level (2 * place)) + n ≡ rank_of keys (end_key (level + 1) place)
rank_after_left keys level place n rises is =
    let cut = rank_cut keys (first_key level (2 * place + 1)) (end_key level (2 * place + 1)) rises (mul-le-mul_right (2 ^ level) (omega arith)) in
    let to = ap (rank_of keys) (right_high (level + 1) place level (2 * place + 1) refl refl) in
    omega (arith, cut, to, is)

-- and before the child on a key's side, by what was passed
pub side_rank : (keys : List ℕ) (k level below n : ℕ) (right : Bool) → Rises keys → right ≡ (k / 2 ^ level % 2 == 1) → below ≡ rank_of keys (first_key (level + 1) (k / 2 ^ (level + 1)))
    → n ≡ (if right then length (keys_below keys level (2 * (k / 2 ^ (level + 1)))) else 0) → below + n ≡ rank_of keys (first_key level (k / 2 ^ level))
side_rank keys k level below n true rises is before count =
    let place = k / 2 ^ (level + 1) in
    let all = rank_before_right keys level place n rises count in
    omega (arith, before, all, ap (λ p. rank_of keys (first_key level p)) (side_place k level true is))
side_rank keys k level below n false rises is before count =
    let place = k / 2 ^ (level + 1) in
    let from = ap (rank_of keys) (left_low (level + 1) place level (2 * place) refl refl) in
    omega (arith, before, count, from, ap (λ p. rank_of keys (first_key level p)) (side_place k level false is))
