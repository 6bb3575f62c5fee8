use Rattle.aug_live.proofs.Tied.{learns}
use Rattle.aug_live.proofs.end.End.take.Goals as goal

pub take-requires-clause-rule : goal.take-requires-clause-rule
take-requires-clause-rule g c = learns _ _
