-- What a layout keeps.
use Rattle.std.specs.Prelude.{◌≡◌, ◌≤◌, ℕ}
use Rattle.aug_core.specs.Places.{Shape, opening_count}
use Rattle.aug_core.specs.Layout.{IsLayout}

-- a table can be laid out, with no more reservations than lanes, and it has `records` opening records
pub record IsCounted (s : Shape) (records : ℕ) : Type 0 where
  pub laid_out : IsLayout s
  pub few : s.reservations ≤ s.workers
  pub opening : records ≡ opening_count s
