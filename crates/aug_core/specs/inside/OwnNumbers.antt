-- The opening records where each node has one of its own.
use Rattle.std.specs.Prelude.{ℕ, ◌+◌, ◌-◌, ◌^◌}
use Rattle.aug_core.specs.Places.{Shape}

-- the number of an inner node's own record
abbrev pub own_number : Shape → ℕ → ℕ
own_number s q = s.bits + (q - 2 ^ s.bits)
