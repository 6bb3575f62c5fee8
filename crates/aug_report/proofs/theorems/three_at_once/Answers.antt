use Rattle.aug_report.proofs.ThreeAtOnce.{three_allowed}
use Rattle.aug_report.proofs.theorems.three_at_once.Goals as goal

pub returns : goal.returns
returns c = record { allowed = three_allowed }
