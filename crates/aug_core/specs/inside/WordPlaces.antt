-- Which word is the one at a level and a place.
use Rattle.std.specs.Prelude.{◌≡◌, ℕ, ◌-◌, ◌^◌, ◌<◌, ◌≤◌}
use Rattle.aug_core.specs.Places.{Shape, node_place}

-- the word is that of the leaf or the inner node at the place on the level
pub record IsWord (s : Shape) (level place q : ℕ) : Type 0 where
  pub level_fits : level ≤ s.bits
  pub place_fits : place < 2 ^ (s.bits - level)
  pub is : q ≡ node_place s level place
