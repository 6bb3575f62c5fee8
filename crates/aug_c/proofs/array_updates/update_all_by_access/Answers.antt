use Rattle.aug_c.proofs.Owning.{each_lane}
use Rattle.aug_c.proofs.array_updates.update_all_by_access.Goals as goal

pub returns-clause-lane : goal.returns-clause-lane
returns-clause-lane c = each_lane _ _ _ _ _ _ _ c.update_each-code.ensures
