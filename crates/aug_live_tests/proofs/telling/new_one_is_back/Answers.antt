use Rattle.std.proofs.Common.{◌∙◌}
use Rattle.aug_live.proofs.Lanes.{ids_more}
use Rattle.aug_live_tests.proofs.telling.new_one_is_back.Goals as goal

pub returns-clause-ids : goal.returns-clause-ids
returns-clause-ids g c = c.back.ensures.ids ∙ ids_more c.args.live.now c.handle.new.self c.handle.ensures.more
