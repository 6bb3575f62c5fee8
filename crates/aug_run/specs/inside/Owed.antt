-- What the threads of a round owe.
use Rattle.std.specs.Prelude.{◌≡◌, ℕ, ◌<◌, List, length, slice_index_or}
use Rattle.std.specs.declared.thread.PromisedHandle.{PromisedHandle}
use Rattle.aug_trie.specs.Round.{RoundFacts}
use Rattle.aug_script.specs.declared.row.Row.{Row}
use Rattle.aug_run.specs.declared.lanes.start.LaneOf.{LaneOf}
use Rattle.aug_run.specs.declared.lanes.work.Done.{Done}

-- the thread of this handle owes this lane of the round
pub record Owes (round : RoundFacts) (rows : List Row) (lane : ℕ) (h : PromisedHandle Done LaneOf) : Type 0 where
  pub lane_is : h.promise.lane ≡ lane
  pub rows_are : h.promise.rows.now ≡ rows
  pub round_is : h.promise.round.now ≡ round

abbrev pub AllPromised : RoundFacts → List Row → List (PromisedHandle Done LaneOf) → Type 0
AllPromised round rows all = (k : ℕ) (d : PromisedHandle Done LaneOf) → k < length all → Owes round rows k (slice_index_or all k d)
