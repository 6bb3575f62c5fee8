use Rattle.aug_report.proofs.OwnUpdates.{sees_its_insertion, snapshots_show}
use Rattle.aug_report.proofs.theorems.own_updates.Goals as goal

pub returns : goal.returns
returns c = record {
  seen = sees_its_insertion;
  shown = snapshots_show;
}
