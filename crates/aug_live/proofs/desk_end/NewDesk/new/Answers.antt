use Rattle.aug_live.proofs.DeskSteps.{learns}
use Rattle.aug_live.proofs.desk_end.NewDesk.new.Goals as goal

pub take-requires-clause-rule : goal.take-requires-clause-rule
take-requires-clause-rule g c = learns _ _
