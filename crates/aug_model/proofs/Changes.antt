-- What changed between two sets: in an interval that is cut in two, in one of one key, and where nothing did.
use Rattle.std.proofs.Common.{◌≡◌, ℕ, zero, suc, ◌+◌, ◌-◌, ◌<◌, ◌≤◌, ◌==◌, nat_le, Bool, true, false, not, leb, ltb, eqb, ◌&&◌, ⊎_elim, if◌then◌else◌, Option, Some, None, List, [], ◌∷◌, ◌++◌, map, filter, refl, ap, sym, ◌∙◌, arith, inl, inr}
use Rattle.std.specs.List.{range_with_len}
use Rattle.std.specs.Option.{option_eq}
use Rattle.std.proofs.lemmas.Bool.{cases_lt, cases_eq, eq-eqb, le-leb, lt-leb, lt-ltb, ne_eqb}
use Rattle.std.proofs.lemmas.List.{map-append}
use Rattle.std.proofs.lemmas.List.Elements.{filter-append}
use Rattle.aug_model.specs.Queries.{weight_of, weighted_range_of}
use Rattle.aug_model.specs.Differences.{weighs_otherwise, difference_at, differences_in}
use Rattle.aug_model.specs.declared.difference.Difference.{Difference}

-- so many numbers, and then so many more
pub range_append : (a n m : ℕ) → range_with_len a (n + m) ≡ range_with_len a n ++ range_with_len (a + n) m
range_append a zero m = let none : zero + m ≡ m = omega arith in let here : a + zero ≡ a = omega arith in
    ap (range_with_len a) none ∙ ap (λ (z : ℕ). range_with_len z m) (sym here)
range_append a (suc n) m = let next : suc n + m ≡ suc (n + m) = omega arith in let there : a + 1 + n ≡ a + suc n = omega arith in
    ap (range_with_len a) next ∙ ap (λ (z : List ℕ). a ∷ z) (range_append (a + 1) n m) ∙ ap (λ (z : ℕ). a ∷ (range_with_len (a + 1) n ++ range_with_len z m)) there

pub option_same : (v w : Option ℕ) → v ≡ w → option_eq (λ x y. x == y) v w ≡ true
option_same v w same = ap (option_eq (λ x y. x == y) v) (sym same) ∙ own v
  where
    own : (v : Option ℕ) → option_eq (λ x y. x == y) v v ≡ true
    own None = refl
    own (Some v) = eq-eqb v v refl

-- a key weighs in an interval that it is in what it weighs
pub weight_of-range : (ps : List (ℕ × ℕ)) (k a b : ℕ) → a ≤ k → k < b → weight_of (weighted_range_of ps a b) k ≡ weight_of ps k
weight_of-range [] k a b from to = refl
weight_of-range (p ∷ ps) k a b from to = ⊎_elim
    (λ (same : p.0 ≡ k). let inside : (leb a p.0 && ltb p.0 b) ≡ true = ap (λ (z : Bool). z && ltb p.0 b) (le-leb a p.0 (omega arith)) ∙ lt-ltb p.0 b (omega arith) in
    ap (λ (z : Bool). weight_of (if z then p ∷ weighted_range_of ps a b else weighted_range_of ps a b) k) inside
    ∙ ap (λ (z : Bool). if z then Some p.1 else weight_of (weighted_range_of ps a b) k) (eq-eqb p.0 k same) ∙ sym (ap (λ (z : Bool). if z then Some p.1 else weight_of ps k) (eq-eqb p.0 k same)))
    (λ ne. either (leb a p.0 && ltb p.0 b) (ne_eqb p.0 k ne) (weight_of-range ps k a b from to) ∙ sym (ap (λ (z : Bool). if z then Some p.1 else weight_of ps k) (ne_eqb p.0 k ne)))
    (cases_eq p.0 k)
  where
    either : (c : Bool) → eqb p.0 k ≡ false → weight_of (weighted_range_of ps a b) k ≡ weight_of ps k → weight_of (if c then p ∷ weighted_range_of ps a b else weighted_range_of ps a b) k ≡ weight_of ps k
    either true other rest = ap (λ (z : Bool). if z then Some p.1 else weight_of (weighted_range_of ps a b) k) other ∙ rest
    either false other rest = rest

module _ (p q : List (ℕ × ℕ)) where
  abbrev in_list : List ℕ → List Difference
  in_list keys = map (difference_at p q) (filter (weighs_otherwise p q) keys)

  -- nothing changed of keys that all weigh the same
  none_changed : (a n : ℕ) → ((k : ℕ) → a ≤ k → k < a + n → weight_of p k ≡ weight_of q k) → map (difference_at p q) (filter (weighs_otherwise p q) (range_with_len a n)) ≡ []
  none_changed a zero same = refl
  none_changed a (suc n) same =
      let here : weighs_otherwise p q a ≡ false = ap not (option_same (weight_of p a) (weight_of q a) (same a (omega arith) (omega arith))) in
      ap (λ (b : Bool). map (difference_at p q) (if b then a ∷ filter (weighs_otherwise p q) (range_with_len (a + 1) n) else filter (weighs_otherwise p q) (range_with_len (a + 1) n))) here
      ∙ none_changed (a + 1) n (λ k low high. same k (omega arith) (omega arith))

  pub differences_same : (a b : ℕ) → ((k : ℕ) → a ≤ k → k < b → weight_of p k ≡ weight_of q k) → differences_in p q a b ≡ []
  differences_same a b same = none_changed a (b - a) (λ k low high. same k low (omega arith))

  -- nothing is in an interval that ends where it begins
  pub differences_none : (a b : ℕ) → b ≤ a → differences_in p q a b ≡ []
  differences_none a b h = differences_same a b (λ k low high. absurd (omega arith))

  -- an interval that is cut in two
  pub differences_cut : (a m b : ℕ) → a ≤ m → m ≤ b → differences_in p q a b ≡ differences_in p q a m ++ differences_in p q m b
  differences_cut a m b low high =
      let long : b - a ≡ (m - a) + (b - m) = omega arith in let there : a + (m - a) ≡ m = omega arith in
      let xs = range_with_len a (m - a) in let ys = range_with_len m (b - m) in
      ap (λ (n : ℕ). map (difference_at p q) (filter (weighs_otherwise p q) (range_with_len a n))) long
      ∙ ap (λ (zs : List ℕ). map (difference_at p q) (filter (weighs_otherwise p q) zs)) (range_append a (m - a) (b - m) ∙ ap (λ (z : ℕ). xs ++ range_with_len z (b - m)) there)
      ∙ ap (map (difference_at p q)) (filter-append (weighs_otherwise p q) xs ys)
      ∙ map-append (difference_at p q) (filter (weighs_otherwise p q) xs) (filter (weighs_otherwise p q) ys)

  -- those from a key on, among some that are all below it, and among some that are not
  abbrev from_key : ℕ → List Difference → List Difference
  from_key k ds = filter (λ (d : Difference). nat_le k d.key) ds

  low_first : (k a : ℕ) (keys : List ℕ) → a < k → from_key k (map (difference_at p q) keys) ≡ [] → (b : Bool) → from_key k (map (difference_at p q) (if b then a ∷ keys else keys)) ≡ []
  low_first k a keys low none true = ap (λ (c : Bool). if c then difference_at p q a ∷ from_key k (map (difference_at p q) keys) else from_key k (map (difference_at p q) keys)) (lt-leb k a low) ∙ none
  low_first k a keys low none false = none

  low_out : (k a n : ℕ) → a + n ≤ k → from_key k (in_list (range_with_len a n)) ≡ []
  low_out k a zero low = refl
  low_out k a (suc n) low = low_first k a (filter (weighs_otherwise p q) (range_with_len (a + 1) n)) (omega arith) (low_out k (a + 1) n (omega arith)) (weighs_otherwise p q a)

  high_first : (k a : ℕ) (keys : List ℕ) → k ≤ a → from_key k (map (difference_at p q) keys) ≡ map (difference_at p q) keys → (b : Bool) → from_key k (map (difference_at p q) (if b then a ∷ keys else keys)) ≡ map (difference_at p q) (if b then a ∷ keys else keys)
  high_first k a keys high all true = ap (λ (c : Bool). if c then difference_at p q a ∷ from_key k (map (difference_at p q) keys) else from_key k (map (difference_at p q) keys)) (le-leb k a high) ∙ ap (λ (z : List Difference). difference_at p q a ∷ z) all
  high_first k a keys high all false = all

  high_in : (k a n : ℕ) → k ≤ a → from_key k (in_list (range_with_len a n)) ≡ in_list (range_with_len a n)
  high_in k a zero high = refl
  high_in k a (suc n) high = high_first k a (filter (weighs_otherwise p q) (range_with_len (a + 1) n)) high (high_in k (a + 1) n (omega arith)) (weighs_otherwise p q a)

  -- those from a key on are those of an interval
  pub differences_from : (k n : ℕ) → filter (λ (d : Difference). nat_le k d.key) (differences_in p q 0 n) ≡ differences_in p q k n
  differences_from k n = elim (cases_lt k n) [
    | inl within ↦
        ap (filter (λ (d : Difference). nat_le k d.key)) (differences_cut 0 k n (omega arith) (omega arith)) ∙ filter-append (λ (d : Difference). nat_le k d.key) (differences_in p q 0 k) (differences_in p q k n)
        ∙ (λ i. low_out k 0 (k - 0) (omega arith) i ++ high_in k k (n - k) (omega arith) i)
    | inr past ↦ low_out k 0 (n - 0) (omega arith) ∙ sym (differences_none k n past)
  ]
