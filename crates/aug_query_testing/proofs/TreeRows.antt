-- The rows of a tree in memory.
use Rattle.std.proofs.Common.{Bool, true, false, if◌then◌else◌, eqb, Some, None, unwrap_or, ◌≢◌, ◌≡◌, ℕ, ◌+◌, ◌-◌, ◌*◌, ◌^◌, ◌<◌, ◌≤◌, List, [], ◌∷◌, ◌++◌, length, get_or, suc, inl, inr, refl, sym, ap, ◌∙◌, arith}
use Rattle.std.proofs.Math.Nat.{pow-suc, mul_comm}
use Rattle.std.proofs.lemmas.Bool.{cases_eq, eq-eqb, ne_eqb}
use Rattle.std.proofs.lemmas.List.{get_or-set_same, get_or-set_other}
use Rattle.std.proofs.Math.ListN.{set, length-set}
use Rattle.std.specs.List.{All}
use Rattle.aug_model.specs.Keys.{keys_of, pairs_of}
use Rattle.aug_model.specs.Queries.{range_of}
use Rattle.aug_model.specs.declared.summary.Summary.{Summary}
use Rattle.aug_monoid.specs.Weighted.{FitsPair}
use Rattle.aug_model.specs.Queries.{weight_of, weight_in}
use Rattle.aug_model.proofs.Pairs.{pairs_of-append}
use Rattle.aug_query.proofs.Cover.{range_fits, range_is_few}
use Rattle.aug_query.specs.Tree.{IsTreeSet, sum_of, IsNodeOf}
use Rattle.aug_model.specs.NodeKeys.{keys_below, first_key, end_key}
use Rattle.aug_query_testing.specs.inside.Rows.{IsRow, HoldsTree, JoinsPairs}
use Rattle.aug_model.proofs.Ranges.{AllBelow, added_same, added_other, rises_from}
use Rattle.aug_query.proofs.Nodes.{leaf_is}
use Rattle.aug_query.proofs.Placed.{place_in_row, children_cover}

module _ {A B : Type 0} {sum : List (ℕ × ℕ) → Summary A B} {bits : ℕ} {pairs : List (ℕ × ℕ)} {rows : List (List (Summary A B))} {weights : List ℕ} (tree : HoldsTree sum bits pairs rows weights) where
  -- the row of a level reaches to every node of it
  pub row_reaches : (level place : ℕ) (row : List (Summary A B)) → row ≡ get_or rows level row → level ≤ bits → end_key level place ≤ 2 ^ bits → place < length row
  row_reaches level place row e h l = omega (arith, place_in_row bits level place h l, (tree.each level row h).all, ap length e)

  -- what stands there is a node of the tree
  pub is_node : (level place : ℕ) (row : List (Summary A B)) (told : Summary A B) → row ≡ get_or rows level row → told ≡ get_or row place told → level ≤ bits → end_key level place ≤ 2 ^ bits → IsNodeOf sum (record { bits = bits; pairs = pairs }) level place told
  is_node level place row told e f h l = record {
    is_tree_set = tree.is_tree_set;
    level_fits = h;
    place_fits = l;
    tells = f ∙ ap (λ r. get_or r place told) e ∙ (tree.each level row h).tells place told (omega (arith, place_in_row bits level place h l, (tree.each level row h).all));
  }

-- a level has half as many nodes as the one below it
pub half_width : (bits level : ℕ) → level < bits → 2 ^ (bits - level) ≡ 2 * 2 ^ (bits - (level + 1))
half_width bits level h = let same : bits - level ≡ suc (bits - (level + 1)) = omega arith in ap (λ n. 2 ^ n) same ∙ pow-suc 2 (bits - (level + 1)) ∙ mul_comm (2 ^ (bits - (level + 1))) 2

-- the pairs below a node fit
pub covered_fit : (bits : ℕ) (pairs : List (ℕ × ℕ)) (level place : ℕ) → IsTreeSet (record { bits = bits; pairs = pairs }) → All FitsPair (pairs_of (weight_in pairs) (keys_below (keys_of pairs) level place))
covered_fit bits pairs level place set = range_fits set (first_key level place) (end_key level place)

-- and are few
pub covered_are_few : (bits : ℕ) (pairs : List (ℕ × ℕ)) (level place : ℕ) → IsTreeSet (record { bits = bits; pairs = pairs }) → length (pairs_of (weight_in pairs) (keys_below (keys_of pairs) level place)) ≤ 2 ^ 16
covered_are_few bits pairs level place set = range_is_few set (first_key level place) (end_key level place)

module _ {A B : Type 0} (sum : List (ℕ × ℕ) → Summary A B) where
  -- one more key put into a row of leaves
  pub leaf_put : (row : List (Summary A B)) (pairs : List (ℕ × ℕ)) (keys more : List ℕ) (k w : ℕ) (one : Summary A B) → weight_in pairs k ≡ w → more ≡ keys ++ k ∷ [] → AllBelow k keys → one ≡ sum ((k, w) ∷ []) → ((p : ℕ) (d : Summary A B) → p < length row → get_or row p d ≡ sum_of sum pairs (range_of keys p (p + 1)))
      → (p : ℕ) (d : Summary A B) → p < length (set row k one) → get_or (set row k one) p d ≡ sum_of sum pairs (range_of more p (p + 1))
  leaf_put row pairs keys more k w one weighs e below one_is' each p d h =
      let one_is : one ≡ sum_of sum pairs (k ∷ []) = one_is' ∙ ap (λ z. sum ((k, z) ∷ [])) (sym weighs) in
      let within : p < length row = omega (arith, h, length-set row k one) in
      let range = λ (xs : List ℕ). range_of xs p (p + 1) in
      elim (cases_eq p k) [
        | inl same ↦ ap (λ q. get_or (set row k one) q d) same ∙ get_or-set_same row k one d (omega (arith, within, same)) ∙ one_is ∙ ap (sum_of sum pairs) (sym (ap range e ∙ ap (λ q. range_of (keys ++ k ∷ []) q (q + 1)) same ∙ added_same keys k below))
        | inr other ↦ get_or-set_other row k p one d other ∙ each p d within ∙ ap (sum_of sum pairs) (sym (ap range e ∙ added_other keys k p other))
      ]

-- the weight of the last of pairs
weight_of_last : (pairs : List (ℕ × ℕ)) (k w : ℕ) → AllBelow k (keys_of pairs) → weight_in (pairs ++ (k, w) ∷ []) k ≡ w
weight_of_last [] k w below = ap (λ (b : Bool). unwrap_or (if b then Some w else None) 0) (eq-eqb k k refl)
weight_of_last (p ∷ ps) k w below = ap (λ (b : Bool). unwrap_or (if b then Some p.1 else weight_of (ps ++ (k, w) ∷ []) k) 0) (ne_eqb p.0 k (λ e. omega (arith, e, below.0))) ∙ weight_of_last ps k w below.1

-- and of another key
weight_of_other : (pairs : List (ℕ × ℕ)) (k w q : ℕ) → q ≢ k → weight_in (pairs ++ (k, w) ∷ []) q ≡ weight_in pairs q
weight_of_other [] k w q other = ap (λ (b : Bool). unwrap_or (if b then Some w else None) 0) (ne_eqb k q (λ e. other (sym e)))
weight_of_other (p ∷ ps) k w q other = either (eqb p.0 q) (weight_of_other ps k w q other)
  where
    either : (b : Bool) → weight_in (ps ++ (k, w) ∷ []) q ≡ weight_in ps q → unwrap_or (if b then Some p.1 else weight_of (ps ++ (k, w) ∷ []) q) 0 ≡ unwrap_or (if b then Some p.1 else weight_of ps q) 0
    either true rest = refl
    either false rest = rest

-- one more weight put into a list of them
pub weight_put : (weights : List ℕ) (pairs more : List (ℕ × ℕ)) (k w : ℕ) → more ≡ pairs ++ (k, w) ∷ [] → AllBelow k (keys_of pairs) → ((p d : ℕ) → p < length weights → get_or weights p d ≡ weight_in pairs p)
    → (p d : ℕ) → p < length (set weights k w) → get_or (set weights k w) p d ≡ weight_in more p
weight_put weights pairs more k w e below each p d h =
    let within : p < length weights = omega (arith, h, length-set weights k w) in
    elim (cases_eq p k) [
      | inl same ↦ ap (λ q. get_or (set weights k w) q d) same ∙ get_or-set_same weights k w d (omega (arith, within, same)) ∙ sym (ap (λ ps. weight_in ps p) e ∙ ap (weight_in (pairs ++ (k, w) ∷ [])) same ∙ weight_of_last pairs k w below)
      | inr other ↦ get_or-set_other weights k p w d other ∙ each p d within ∙ sym (ap (λ ps. weight_in ps p) e ∙ weight_of_other pairs k w p other)
    ]

-- a leaf covers its key
pub leaf_below : (keys : List ℕ) (k : ℕ) → range_of keys k (k + 1) ≡ keys_below keys 0 k
leaf_below keys k = sym (leaf_is keys 0 k refl)

module _ {A B : Type 0} (sum : List (ℕ × ℕ) → Summary A B) where
  -- a node has the two nodes at twice its place in a row as its children
  abbrev pub Joins : List (Summary A B) → ℕ → Summary A B → Type 0
  Joins row place told = (default : Summary A B) (xs ys : List (ℕ × ℕ)) → All FitsPair xs → All FitsPair ys → get_or row (2 * place) default ≡ sum xs → get_or row (2 * place + 1) default ≡ sum ys → told ≡ sum (xs ++ ys)

-- the nodes of a row count few members
pub row_counts_few : {A B : Type 0} {sum : List (ℕ × ℕ) → Summary A B} {bits level : ℕ} {pairs : List (ℕ × ℕ)} {row : List (Summary A B)} → ((xs : List (ℕ × ℕ)) → (sum xs).count ≡ length xs) → IsTreeSet (record { bits = bits; pairs = pairs }) → IsRow sum bits pairs level row → All (λ node. node.count < 2 ^ 31) row
row_counts_few {bits = bits} {level = level} {pairs = pairs} totals set is_row place default within =
    omega (arith, ap (λ s. s.count) (is_row.tells place default within), totals (pairs_of (weight_in pairs) (keys_below (keys_of pairs) level place)), covered_are_few bits pairs level place set)

-- what stands above a row of a tree is its next row
pub row_above : {A B : Type 0} {sum : List (ℕ × ℕ) → Summary A B} {bits level : ℕ} {pairs : List (ℕ × ℕ)} {row above : List (Summary A B)} → IsTreeSet (record { bits = bits; pairs = pairs }) → level < bits → IsRow sum bits pairs level row → JoinsPairs sum row above → IsRow sum bits pairs (level + 1) above
row_above {sum = sum} {bits = bits} {level = level} {pairs = pairs} set h is_row joined =
    let width = half_width bits level h in
    record {
      all = omega (arith, width, is_row.all, joined.all, joined.no_more);
      tells = λ place default within.
          joined.joins place default (pairs_of (weight_in pairs) (keys_below (keys_of pairs) level (2 * place))) (pairs_of (weight_in pairs) (keys_below (keys_of pairs) level (2 * place + 1))) within (covered_fit bits pairs level (2 * place) set) (covered_fit bits pairs level (2 * place + 1) set)
          (is_row.tells (2 * place) default (omega (arith, within, joined.all))) (is_row.tells (2 * place + 1) default (omega (arith, within, joined.all)))
          ∙ ap sum (sym (pairs_of-append (weight_in pairs) (keys_below (keys_of pairs) level (2 * place)) (keys_below (keys_of pairs) level (2 * place + 1)))) ∙ ap (sum_of sum pairs) (children_cover (keys_of pairs) level place (rises_from (keys_of pairs) set.is_key_set.rising));
    }
