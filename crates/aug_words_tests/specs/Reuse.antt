-- The table in which the tests use records again.
use Rattle.std.specs.Prelude.{◌≡◌, ◌≤◌}
use Rattle.aug_core.specs.Places.{Shape}

-- it has 1 bit and two lanes, with a reservation each
pub record IsSmall (s : Shape) : Type 0 where
  pub bits : s.bits ≡ 1
  pub lanes : s.workers ≡ 2
  pub slots : s.workers ≤ s.reservations
