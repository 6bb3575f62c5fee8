use Rattle.aug_live.proofs.Lanes.{keeps_self}
use Rattle.aug_live.proofs.desk.Working.settle.Goals as goal

pub returns-then-is_empty-clause-goes_on : goal.returns-then-is_empty-clause-goes_on
returns-then-is_empty-clause-goes_on g c = keeps_self c.args.self
