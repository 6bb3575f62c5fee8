-- What a cursor yields: the members on either side of its gap, one after the other.
use Rattle.std.specs.Prelude.{◌≡◌, ℕ, ◌+◌, ◌^◌, Option, Some, None, List, [], ◌∷◌, ◌++◌}
use Rattle.aug_model.specs.Keys.{SetFacts}
use Rattle.aug_model.specs.Queries.{weighted_range_of}

-- the members of a set from a key on, rising, each with its weight
abbrev pub members_from : SetFacts → ℕ → List (ℕ × ℕ)
members_from set k = weighted_range_of set.pairs k (2 ^ set.bits)

-- and those below it
abbrev pub members_below : SetFacts → ℕ → List (ℕ × ℕ)
members_below set k = weighted_range_of set.pairs 0 k

-- a cursor that went on: the first member behind the old gap was yielded, and the new gap is behind that; or there is none, and the gap stayed
abbrev pub YieldsNext : SetFacts → ℕ → ℕ → Option (ℕ × ℕ) → Type 0
YieldsNext set old new None = (members_from set old ≡ []) × (new ≡ old)
YieldsNext set old new (Some p) = (members_from set old ≡ p ∷ members_from set new) × (new ≡ p.0 + 1)

-- a cursor that went back: the last member before the old gap was yielded, and the new gap is before that; or there is none, and the gap stayed
abbrev pub YieldsPrevious : SetFacts → ℕ → ℕ → Option (ℕ × ℕ) → Type 0
YieldsPrevious set old new None = (members_below set old ≡ []) × (new ≡ old)
YieldsPrevious set old new (Some p) = (members_below set old ≡ members_below set new ++ p ∷ []) × (new ≡ p.0)
