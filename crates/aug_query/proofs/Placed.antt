-- Places of nodes in their level, and what is below a node by its children.
use Rattle.std.proofs.Common.{◌≡◌, ℕ, ◌+◌, ◌-◌, ◌*◌, ◌^◌, ◌<◌, ◌≤◌, List, [], ◌∷◌, ◌++◌, length, get_or, inl, inr, refl, sym, ap, ◌∙◌, subst, arith, le_of_eq}
use Rattle.std.proofs.Math.Nat.{le_trans, le_of_mul-le-mul_right, mul-le-mul_right}
use Rattle.std.proofs.lemmas.Nat.{pow_pos, pow-add}
use Rattle.std.proofs.lemmas.Bool.{cases_lt}
use Rattle.std.proofs.lemmas.List.{get_or_push, get_or_append_left}
use Rattle.aug_model.specs.Queries.{range_of}
use Rattle.aug_model.specs.NodeKeys.{keys_below, first_key, end_key}
use Rattle.aug_query.specs.inside.NodePlaces.{middle_key}
use Rattle.aug_model.proofs.Ranges.{Rises}
use Rattle.aug_query.proofs.Nodes.{left_covers, right_covers, node_cut}

-- how many nodes a level has, each so wide
widths : (bits level : ℕ) → level ≤ bits → 2 ^ bits ≡ 2 ^ (bits - level) * 2 ^ level
widths bits level h = let same : bits ≡ bits - level + level = omega arith in ap (λ n. 2 ^ n) same ∙ pow-add 2 (bits - level) level

-- a node that ends within the keys is one of its level
pub place_in_row : (bits level place : ℕ) → level ≤ bits → end_key level place ≤ 2 ^ bits → place < 2 ^ (bits - level)
place_in_row bits level place h e =
    let fits : place + 1 ≤ 2 ^ (bits - level) = le_of_mul-le-mul_right (le_trans e (le_of_eq (widths bits level h))) (pow_pos level) in omega arith

-- and the other way round
pub row_in_keys : (bits level place : ℕ) → level ≤ bits → place < 2 ^ (bits - level) → end_key level place ≤ 2 ^ bits
row_in_keys bits level place h e =
    let fits : place + 1 ≤ 2 ^ (bits - level) = omega arith in le_trans (mul-le-mul_right (2 ^ level) fits) (le_of_eq (sym (widths bits level h)))

-- a list of elements, each of which meets a fact of its place, with one more
pub pushed_each : {X : Type 0} (Fact : ℕ → X → Type 0) (xs ys : List X) (y : X) (n : ℕ) → ys ≡ xs ++ y ∷ [] → length xs ≡ n → ((j : ℕ) (d : X) → j < n → Fact j (get_or xs j d)) → Fact n y → (j : ℕ) (d : X) → j < n + 1 → Fact j (get_or ys j d)
pushed_each Fact xs ys y n e l each last j d h =
    elim (cases_lt j n) [
      | inl old ↦ subst (Fact j) (sym (ap (λ zs. get_or zs j d) e ∙ get_or_append_left xs (y ∷ []) d j (omega arith))) (each j d old)
      | inr new ↦ let same : j ≡ n = omega arith in subst (λ k. Fact k (get_or ys j d)) (sym same) (subst (Fact n) (sym (ap (λ zs. get_or zs j d) e ∙ get_or_push xs y d j (omega arith))) last)
    ]

-- the members below a node, by its children
pub children_cover : (keys : List ℕ) (level place : ℕ) → Rises keys → keys_below keys level (2 * place) ++ keys_below keys level (2 * place + 1) ≡ keys_below keys (level + 1) place
children_cover keys level place h =
    ap (λ xs. xs ++ keys_below keys level (2 * place + 1)) (left_covers keys (level + 1) place level (2 * place) refl refl) ∙ ap (λ ys. range_of keys (first_key (level + 1) place) (middle_key (level + 1) place) ++ ys) (right_covers keys (level + 1) place level (2 * place + 1) refl refl)
    ∙ sym (node_cut keys (level + 1) place h (omega arith))
