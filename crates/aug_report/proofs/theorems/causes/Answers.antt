use Rattle.aug_report.proofs.OwnUpdates.{new_changes, old_has_cause}
use Rattle.aug_report.proofs.theorems.causes.Goals as goal

pub returns : goal.returns
returns c = record {
  new_changes = new_changes;
  old_has_cause = old_has_cause;
}
