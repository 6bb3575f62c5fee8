-- What the five words of a record are.
use Rattle.std.proofs.Common.{◌≡◌, ℕ, List, [], ◌∷◌, length, get_or, refl}
use Rattle.aug_monoid.specs.Fold.{fold_of}
use Rattle.aug_monoid.specs.Parts.{Parts}
use Rattle.aug_core.specs.Faces.{face}

module _ {A B : Type 0} (parts_a : Parts A) (parts_b : Parts B) where
  abbrev both : ℕ → ℕ → List (ℕ × ℕ) → List ℕ
  both = face parts_a parts_b

  -- the first two name the children
  pub left_in : (l r : ℕ) (pairs : List (ℕ × ℕ)) → get_or (both l r pairs) 0 0 ≡ l
  unfolding face
  left_in l r pairs = refl

  pub right_in : (l r : ℕ) (pairs : List (ℕ × ℕ)) → get_or (both l r pairs) 1 0 ≡ r
  unfolding face
  right_in l r pairs = refl

  -- the third counts the pairs
  pub count_in : (l r : ℕ) (pairs : List (ℕ × ℕ)) → get_or (both l r pairs) 2 0 ≡ length pairs
  unfolding face
  count_in l r pairs = refl

  -- the last two are their folds
  pub a_in : (l r : ℕ) (pairs : List (ℕ × ℕ)) → get_or (both l r pairs) 3 0 ≡ parts_a.to_word (fold_of parts_a pairs)
  unfolding face
  a_in l r pairs = refl

  pub b_in : (l r : ℕ) (pairs : List (ℕ × ℕ)) → get_or (both l r pairs) 4 0 ≡ parts_b.to_word (fold_of parts_b pairs)
  unfolding face
  b_in l r pairs = refl

  -- and five words that are these are the record's
  pub face_is : (l r n x y : ℕ) (pairs : List (ℕ × ℕ)) → n ≡ length pairs → x ≡ parts_a.to_word (fold_of parts_a pairs) → y ≡ parts_b.to_word (fold_of parts_b pairs) → l ∷ r ∷ n ∷ x ∷ y ∷ [] ≡ both l r pairs
  unfolding face
  face_is l r n x y pairs a b c i = l ∷ r ∷ a i ∷ b i ∷ c i ∷ []
