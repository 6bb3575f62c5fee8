use Rattle.aug_live.proofs.Lanes.{ids_more}
use Rattle.aug_live_tests.proofs.telling.back.Goals as goal

pub returns-clause-ids : goal.returns-clause-ids
returns-clause-ids g c = ids_more c.args.live.now c.back.new.self c.back.ensures.goes_on.more
