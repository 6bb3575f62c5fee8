-- What a seat with one lane is before that lane is taken, and after it.
use Rattle.std.specs.Prelude.{◌≡◌}
use Rattle.aug_core.specs.Effects.{HoldsOnly}
use Rattle.aug_core.specs.declared.view.Held.{Held}
use Rattle.aug_core.specs.declared.view.LaneState.TheVariants.{Free, Taken}
use Rattle.aug_core.specs.declared.view.SeatView.{SeatView}

-- the view holds one lane, and it is free
pub record MayTake (v : SeatView) : Type 0 where
  pub lane : Held
  pub only : HoldsOnly v lane
  pub free : lane.state ≡ Free

-- the view holds one lane, and it is taken
pub record HasTakenLane (v : SeatView) : Type 0 where
  pub lane : Held
  pub only : HoldsOnly v lane
  pub taken : lane.state ≡ Taken
