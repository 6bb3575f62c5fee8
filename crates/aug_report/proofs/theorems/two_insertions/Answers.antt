use Rattle.aug_report.proofs.TwoInsertions.{new_then_old, old_then_new, both_new, both_old}
use Rattle.aug_report.proofs.theorems.two_insertions.Goals as goal

pub returns : goal.returns
returns c = record {
  either = λ bits k fits. (new_then_old bits k fits, old_then_new bits k fits);
  not_both_new = both_new;
  not_both_old = both_old;
}
