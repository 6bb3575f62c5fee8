-- What members weigh together, and the member with which the weights, added up from the least one on, exceed a number.
use Rattle.std.specs.Prelude.{ℕ, nat_le, nat_lt, List, filter, find, sum_by, Option}
use Rattle.aug_model.specs.Keys.{keys_of}

-- what pairs weigh together
abbrev pub sum_of_weights : List (ℕ × ℕ) → ℕ
sum_of_weights pairs = sum_by (λ p. p.1) pairs

-- what the members up to k weigh together, k among them
abbrev pub weight_up_to : List (ℕ × ℕ) → ℕ → ℕ
weight_up_to pairs k = sum_of_weights (filter (λ p. nat_le p.0 k) pairs)

-- the least member up to which all members weigh more than n together, if there is one
abbrev pub select_by_weight_of : List (ℕ × ℕ) → ℕ → Option ℕ
select_by_weight_of pairs n = find (λ k. nat_lt n (weight_up_to pairs k)) (keys_of pairs)
