use Rattle.std.proofs.Common.{◌∙◌}
use Rattle.aug_live.proofs.desk_end.DeskEnd.prepare.Goals as goal

pub returns : goal.returns
returns g c = c.prepare_on.ensures.view ∙ c.self.view_is
