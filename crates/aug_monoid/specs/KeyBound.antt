-- The least or the greatest key of two folds.
use Rattle.std.specs.Prelude.{ℕ, min, max, Option, Some, None}
use Rattle.aug_monoid.specs.KeyWord.{IsKeyOrNone, word_of_key, key_of_word}
use Rattle.aug_monoid.specs.Parts.{Parts, joined_by}

-- the key that a function picks, of two keys at a time, or none; a key is its own word, and 2^32 the word of none
abbrev pub key_parts : (ℕ → ℕ → ℕ) → Parts (Option ℕ)
key_parts pick = record {
  IsProper = IsKeyOrNone;
  unit = None;
  of_key = λ k _. Some k;
  join = joined_by pick;
  to_word = word_of_key;
  from_word = key_of_word;
}

-- the least of the keys, or none
abbrev pub least_parts : Parts (Option ℕ)
least_parts = key_parts min

-- the greatest of the keys, or none
abbrev pub greatest_parts : Parts (Option ℕ)
greatest_parts = key_parts max
