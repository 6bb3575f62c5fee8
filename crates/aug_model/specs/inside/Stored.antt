-- How a set of keys is kept in memory.
use Rattle.std.specs.Prelude.{ℕ, ◌^◌, ◌≤◌, List, All}
use Rattle.aug_monoid.specs.Weighted.{FitsPair}
use Rattle.aug_model.specs.Keys.{IsKeySet, keys_of}

-- a set of keys of 1 to 16 bits, each with its weight, with room for every key
pub record IsStored (bits : ℕ) (pairs : List (ℕ × ℕ)) (capacity : ℕ) : Type 0 where
  pub set : IsKeySet bits (keys_of pairs)
  pub fit : All FitsPair pairs
  pub at_least : 1 ≤ bits
  pub at_most : bits ≤ 16
  pub room : 2 ^ bits ≤ capacity
