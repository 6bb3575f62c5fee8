-- What the steps of a pass tell at a table that uses records again: each is a definition of `Reclaiming` over the pass's view.
use Rattle.std.specs.Prelude.{◌≡◌, ℕ, ◌+◌, ◌≤◌, ◌↔◌, ◌==◌, Bool, IsTrue, if◌then◌else◌}
use Rattle.aug_core.specs.Places.{era_place, reservation_place}
use Rattle.aug_core.specs.Kinds.{load_era, turn_era, load_reservation}
use Rattle.aug_core.specs.Effects.{HoldsOnly}
use Rattle.aug_core.specs.Reclaiming.{reaching, retiring, scanning, ShowsLater}
use Rattle.aug_core.specs.declared.view.Held.{Held}
use Rattle.aug_core.specs.declared.view.SeatView.{SeatView}

-- each lane has a reservation
abbrev pub HasReservations : SeatView → Type 0
HasReservations v = v.shape.workers ≤ v.shape.reservations

-- the era was loaded, and is no earlier than one that was known
pub record LoadsEra (v : SeatView) (r : ℕ) (w : SeatView) : Type 0 where
  pub stepped : w ≡ reaching v r (load_era (era_place v.shape) r)
  pub later : v.reached ≤ r

-- the answer says whether the era went from this one to the next
pub record TurnsEra (v : SeatView) (era : ℕ) (done : Bool) (w : SeatView) : Type 0 where
  pub found : ℕ
  pub decided : IsTrue done ↔ (found ≡ era)
  pub stepped : w ≡ reaching v (if found == era then found + 1 else found) (turn_era (era_place v.shape) era found)
  pub later : v.reached ≤ found

-- what was replaced from the pass's lane became its own, in the era that was loaded
pub record Retires (v : SeatView) (r : ℕ) (w : SeatView) : Type 0 where
  pub stepped : w ≡ retiring v r (load_era (era_place v.shape) r)
  pub later : v.reached ≤ r

-- the view has seen the root show later entries than those that were replaced from its lane
pub record MayRetire (v : SeatView) : Type 0 where
  pub lane : Held
  pub only : HoldsOnly v lane
  pub later : ShowsLater v lane

-- a reservation was loaded
abbrev pub PassesReservation : SeatView → ℕ → ℕ → SeatView → Type 0
PassesReservation v slot r w = w ≡ scanning v slot r (load_reservation (reservation_place v.shape slot) r)
