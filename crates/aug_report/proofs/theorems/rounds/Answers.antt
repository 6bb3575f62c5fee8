use Rattle.aug_report.proofs.OwnUpdates.{next_round_goes_on}
use Rattle.aug_report.proofs.theorems.rounds.Goals as goal

pub returns : goal.returns
returns c = record { goes_on = next_round_goes_on }
