-- `spanned_by` makes bounds of bounds and is associative, and words give back the bounds that they were made of.
use Rattle.std.specs.Prelude.{◌≡◌, ℕ, ◌+◌, ◌*◌, ◌/◌, ◌%◌, ◌^◌, ◌<◌, ◌≤◌, min, max, Bool, true, false, Option, Some, None, nat_le, if◌then◌else◌, refl}
use Rattle.std.proofs.Common.{arith, inl, inr}
use Rattle.std.proofs.lemmas.Bool.{le-leb, leb-true}
use Rattle.aug_monoid.specs.Extent.{IsBoundsOrNone, word_of_bounds, bounds_of, bounds_of_word}
use Rattle.aug_monoid.specs.inside.HeldBounds.{held_bounds, AreHeld}
use Rattle.aug_monoid.specs.inside.JoinedLaws.{min-assoc, max-assoc}

-- the smaller least and the greater greatest
abbrev pub spanned_by : ℕ × ℕ → ℕ × ℕ → ℕ × ℕ
spanned_by x y = (min x.0 y.0, max x.1 y.1)

-- one key is its own least and greatest
pub one_key-is_bounds : (k : ℕ) → k < 2 ^ 32 → IsBoundsOrNone (Some (k, k))
one_key-is_bounds k is_key = (omega arith, is_key, is_key)

pub spanned_by-is_bounds : (x y : ℕ × ℕ) → IsBoundsOrNone (Some x) → IsBoundsOrNone (Some y) → IsBoundsOrNone (Some (spanned_by x y))
spanned_by-is_bounds x y x_is y_is = (omega arith, omega arith, omega arith)

pub spanned_by-assoc : (x y z : ℕ × ℕ) → spanned_by (spanned_by x y) z ≡ spanned_by x (spanned_by y z)
spanned_by-assoc x y z = λ i. (min-assoc x.0 y.0 z.0 i, max-assoc x.1 y.1 z.1 i)

-- a word gives bounds or none
pub bounds_of_word-is_bounds : (w : ℕ) → w < 2 ^ 64 → IsBoundsOrNone (bounds_of_word w)
bounds_of_word-is_bounds w fits = chosen (nat_le (w / 2 ^ 32) (w % 2 ^ 32)) (leb-true (w / 2 ^ 32) (w % 2 ^ 32))
  where
    chosen : (ordered : Bool) → (ordered ≡ true → w / 2 ^ 32 ≤ w % 2 ^ 32) → IsBoundsOrNone (if ordered then Some (w / 2 ^ 32, w % 2 ^ 32) else None)
    chosen true is_ordered = (is_ordered refl, omega arith, omega arith)
    chosen false _ = tt

pub word_of_bounds-fits : (b : Option (ℕ × ℕ)) → IsBoundsOrNone b → word_of_bounds b < 2 ^ 64
word_of_bounds-fits None _ = omega arith
word_of_bounds-fits (Some b) is_bounds = omega arith

pub bounds_of_word-word_of_bounds : (b : Option (ℕ × ℕ)) → IsBoundsOrNone b → bounds_of_word (word_of_bounds b) ≡ b
bounds_of_word-word_of_bounds None _ = refl
bounds_of_word-word_of_bounds (Some b) is_bounds =
    let upper : (b.0 * 2 ^ 32 + b.1) / 2 ^ 32 ≡ b.0 = omega arith in
    let lower : (b.0 * 2 ^ 32 + b.1) % 2 ^ 32 ≡ b.1 = omega arith in
    rw (upper, lower, le-leb b.0 b.1 is_bounds.0)

-- what is held for bounds is what they give back
pub held_bounds-bounds_of : (least greatest : ℕ) → AreHeld least greatest → held_bounds (bounds_of least greatest) ≡ (least, greatest)
held_bounds-bounds_of least greatest (inl ordered) = rw (le-leb least greatest ordered)
held_bounds-bounds_of least greatest (inr none) = rw (none.0, none.1)
