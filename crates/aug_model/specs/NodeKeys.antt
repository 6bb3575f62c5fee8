-- The keys that the node at a level and a place of a tree covers, and the members of a set among them. Node 0 on level 1 covers the keys from 0 up
-- to, but not including, 2. In the example its one member is 1.
use Rattle.std.specs.Prelude.{ℕ, ◌+◌, ◌*◌, ◌^◌, List}
use Rattle.aug_model.specs.Queries.{range_of, weighted_range_of}

-- the least key that the node covers
abbrev pub first_key : ℕ → ℕ → ℕ
first_key level place = place * 2 ^ level

-- one more than the greatest key that it covers
abbrev pub end_key : ℕ → ℕ → ℕ
end_key level place = (place + 1) * 2 ^ level

-- the members that it covers
abbrev pub keys_below : List ℕ → ℕ → ℕ → List ℕ
keys_below keys level place = range_of keys (first_key level place) (end_key level place)

-- the same, each with its weight
abbrev pub pairs_below : List (ℕ × ℕ) → ℕ → ℕ → List (ℕ × ℕ)
pairs_below pairs level place = weighted_range_of pairs (first_key level place) (end_key level place)
