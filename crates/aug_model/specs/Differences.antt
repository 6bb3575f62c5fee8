-- What changed between two sets of keys with weights: the rising list of the keys whose weights differ, each with its earlier and its later weight. A
-- key that is no member has none. If the example is the earlier set, and in the later one 0 was put in with the weight 5, 1 was removed, and 3 has its
-- weight still, the list has 0 with no weight and 5, and 1 with 1 and no weight.
use Rattle.std.specs.Prelude.{ℕ, ◌-◌, ◌^◌, ◌==◌, not, nat_le, Bool, List, filter, map}
use Rattle.std.specs.List.{range_with_len}
use Rattle.std.specs.Option.{option_eq}
use Rattle.aug_model.specs.Keys.{SetFacts}
use Rattle.aug_model.specs.Queries.{weight_of}
use Rattle.aug_model.specs.declared.difference.Difference.{Difference}

-- whether a key has another weight among the later pairs than among the earlier ones
abbrev pub weighs_otherwise : List (ℕ × ℕ) → List (ℕ × ℕ) → ℕ → Bool
weighs_otherwise earlier later k = not (option_eq (λ v w. v == w) (weight_of earlier k) (weight_of later k))

-- a key with both of its weights
abbrev pub difference_at : List (ℕ × ℕ) → List (ℕ × ℕ) → ℕ → Difference
difference_at earlier later k = record { key = k; before = weight_of earlier k; after = weight_of later k }

-- what changed of the keys k with a <= k and k < b, rising
abbrev pub differences_in : List (ℕ × ℕ) → List (ℕ × ℕ) → ℕ → ℕ → List Difference
differences_in earlier later a b = map (difference_at earlier later) (filter (weighs_otherwise earlier later) (range_with_len a (b - a)))

-- all that changed between two sets
abbrev pub changes_between : SetFacts → SetFacts → List Difference
changes_between earlier later = differences_in earlier.pairs later.pairs 0 (2 ^ later.bits)

-- and what changed of the keys from k on
abbrev pub changes_from : SetFacts → SetFacts → ℕ → List Difference
changes_from earlier later k = filter (λ d. nat_le k d.key) (changes_between earlier later)
