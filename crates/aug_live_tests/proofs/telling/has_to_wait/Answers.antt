use Rattle.aug_live.proofs.Lanes.{ids_more}
use Rattle.aug_live_tests.proofs.telling.has_to_wait.Goals as goal

pub returns-clause-ids : goal.returns-clause-ids
returns-clause-ids c = ids_more c.args.live.now c.try_roll.new.self c.try_roll.ensures.goes_on.more
