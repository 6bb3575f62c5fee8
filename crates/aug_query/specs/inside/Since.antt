-- How much a node gives to a comparison of two sets.
use Rattle.std.specs.Prelude.{ℕ, ◌+◌, ◌-◌, List, length, max, min}
use Rattle.aug_model.specs.NodeKeys.{first_key, end_key}
use Rattle.aug_model.specs.Queries.{weighted_range_of}

-- how many members from k on the node at a level and a place covers in both, and one more if it covers keys on either side of k
abbrev pub below_both : List (ℕ × ℕ) → List (ℕ × ℕ) → ℕ → ℕ → ℕ → ℕ
below_both earlier later k level place =
    length (weighted_range_of earlier (max (first_key level place) k) (end_key level place)) + length (weighted_range_of later (max (first_key level place) k) (end_key level place))
    + min 1 (min (k - first_key level place) (end_key level place - k))
