-- The least and the greatest key of two folds, together, and the word that stands for them. In the example the extent has the word `2^32 + 3`.
use Rattle.std.specs.Prelude.{ℕ, ◌+◌, ◌*◌, ◌/◌, ◌%◌, ◌^◌, ◌<◌, ◌≤◌, min, max, Option, Some, None, nat_le, if◌then◌else◌}
use Rattle.aug_monoid.specs.Parts.{Parts, joined_by}

-- there are no bounds, or they are two keys of 32 bits and the least is no greater than the greatest
abbrev pub IsBoundsOrNone : Option (ℕ × ℕ) → Type 0
IsBoundsOrNone None = Unit {0}
IsBoundsOrNone (Some b) = (b.0 ≤ b.1) × (b.0 < 2 ^ 32) × (b.1 < 2 ^ 32)

-- the least in the upper half and the greatest in the lower; 2^32, which is the word of no bounds, for none
abbrev pub word_of_bounds : Option (ℕ × ℕ) → ℕ
word_of_bounds None = 2 ^ 32
word_of_bounds (Some b) = b.0 * 2 ^ 32 + b.1

-- two numbers as bounds, and none where the first is greater than the second
abbrev pub bounds_of : ℕ → ℕ → Option (ℕ × ℕ)
bounds_of least greatest = if nat_le least greatest then Some (least, greatest) else None

-- the two halves of a word, and none where the upper half is greater than the lower
abbrev pub bounds_of_word : ℕ → Option (ℕ × ℕ)
bounds_of_word w = bounds_of (w / 2 ^ 32) (w % 2 ^ 32)

-- the least and the greatest of the keys, or none
abbrev pub extent_parts : Parts (Option (ℕ × ℕ))
extent_parts = record {
  IsProper = IsBoundsOrNone;
  unit = None;
  of_key = λ k _. Some (k, k);
  join = joined_by (λ x y. (min x.0 y.0, max x.1 y.1));
  to_word = word_of_bounds;
  from_word = bounds_of_word;
}
