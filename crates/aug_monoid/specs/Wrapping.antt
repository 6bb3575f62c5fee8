-- Sums modulo 2^64, as `Count` and `Sum` make them.
use Rattle.std.specs.Prelude.{ℕ, ◌+◌, ◌%◌, ◌^◌}

-- two numbers added in one word
abbrev pub wrapped_sum : ℕ → ℕ → ℕ
wrapped_sum x y = (x + y) % 2 ^ 64
