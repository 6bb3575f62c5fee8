-- What a seat has to know before it reserves an era.
use Rattle.std.specs.Prelude.{◌≡◌, ℕ, ◌<◌}
use Rattle.aug_core.specs.Effects.{HoldsOnly}
use Rattle.aug_core.specs.Records.{lane_of}
use Rattle.aug_core.specs.declared.view.Held.{Held}
use Rattle.aug_core.specs.declared.view.SeatView.{SeatView}

-- the view holds one lane, whose reservation this is
pub record MayReserve (v : SeatView) (slot : ℕ) : Type 0 where
  pub lane : Held
  pub only : HoldsOnly v lane
  pub own : lane_of v.shape slot ≡ lane.lane
  pub exists : slot < v.shape.reservations
