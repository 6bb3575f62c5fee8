-- Where the sum of weights, taken off a number member by member, exceeds it.
use Rattle.std.specs.Prelude.{ℕ, ◌-◌, nat_lt, if◌then◌else◌, List, [], ◌∷◌, Option, Some, None}

-- the first key with which the weights of all pairs so far add up to more than n, if there is one
abbrev pub first_over : List (ℕ × ℕ) → ℕ → Option ℕ
first_over [] n = None
first_over (p ∷ ps) n = if nat_lt n p.1 then Some p.0 else first_over ps (n - p.1)
