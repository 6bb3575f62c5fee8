-- What a leaf's word says, for the clauses that count steps.
use Rattle.std.specs.Prelude.{ℕ, ◌/◌, ◌%◌, ◌^◌}

-- its serial
abbrev pub serial_in_word : ℕ → ℕ
serial_in_word word = word / 2 ^ 32

-- and its weight
abbrev pub weight_in_word : ℕ → ℕ
weight_in_word word = word % 2 ^ 32
