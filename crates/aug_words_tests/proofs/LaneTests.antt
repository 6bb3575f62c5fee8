-- What the tests of several passes need: a table of 2 bits, 3 workers, 2 updates and 2 members has 5 opening records, and its lanes have 4
-- each behind them. One of 1 bit, 1 worker, 1 update and 1 member has 2, and one more behind them.
use Rattle.std.proofs.Common.{◌≡◌, ℕ, List, ◌+◌, ◌*◌, ◌<◌, ◌≤◌, refl, sym, ap, subst, arith}
use Rattle.aug_core.specs.Places.{Shape, shape_of, with_reservations, own_records, record_count}
use Rattle.aug_core.specs.Lanes.{first_record, lane_records}
use Rattle.aug_core.specs.declared.view.SeatView.{SeatView}
use Rattle.aug_words.specs.Leads.{TakesLaneBack}

-- the number is that of one of the lane's records
abbrev pub IsOfLane : Shape → ℕ → ℕ → Type 0
IsOfLane s lane n = (k : ℕ) × (k < lane_records s) × (n ≡ first_record s lane + k)

own_of_small : own_records 2 2 2 ≡ 3
unfolding own_records
own_of_small = refl

pub small_lane : (s : Shape) → s ≡ shape_of 2 3 2 2 → (lane n k : ℕ) → k < 4 → n ≡ 5 + lane * 4 + k → IsOfLane s lane n
small_lane s e lane n k low is = subst (λ (z : Shape). IsOfLane z lane n) (sym e) (let own = own_of_small in (k, low, omega arith))

pub records_of_small : (s : Shape) → s ≡ shape_of 2 3 2 2 → 15 ≤ record_count s
records_of_small s e = subst (λ (z : Shape). 15 ≤ record_count z) (sym e) (let own = own_of_small in omega arith)

own_of_least : own_records 1 1 1 ≡ 1
unfolding own_records
own_of_least = refl

pub only_lane : (s : Shape) → s ≡ shape_of 1 1 1 1 → IsOfLane s 0 2
only_lane s e = subst (λ (z : Shape). IsOfLane z 0 2) (sym e) (let own = own_of_least in (0, omega arith, omega arith))

own_of_two : own_records 1 2 1 ≡ 1
unfolding own_records
own_of_two = refl

-- and so has one of 1 bit and 2 workers that uses records again
pub reclaiming_lane : (s : Shape) → s ≡ with_reservations 1 2 1 2 2 → (lane : ℕ) → IsOfLane s lane (2 + lane)
reclaiming_lane s e lane = subst (λ (z : Shape). IsOfLane z lane (2 + lane)) (sym e) (let own = own_of_two in (0, omega arith, omega arith))

-- a lane that is taken back leaves how the table is laid out
module _ (face : ℕ → ℕ → List (ℕ × ℕ) → List ℕ) (lead pass after : SeatView) (h : TakesLaneBack face lead pass after) where
  pub shape_back : after.shape ≡ lead.shape
  shape_back = ap (λ (z : SeatView). z.shape) h.loaded.stepped
