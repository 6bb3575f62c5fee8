use Rattle.aug_report.proofs.OneLane.{one_lane_in_turn}
use Rattle.aug_report.proofs.RowsInTurn.{in_turn_allowed}
use Rattle.aug_report.proofs.theorems.one_lane.Goals as goal

pub returns : goal.returns
returns c = record {
  one_report = one_lane_in_turn;
  allowed = in_turn_allowed;
}
