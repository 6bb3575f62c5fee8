use Rattle.std.proofs.Common.{refl}
use Rattle.ruled_lock.specs.Locks.{client_of}
use Rattle.aug_live.proofs.DeskSteps.{desk_self, learns, stays}
use Rattle.aug_live.proofs.desk_end.DeskEnd.take_slot.Goals as goal

pub take-requires-clause-rule : goal.take-requires-clause-rule
take-requires-clause-rule g c = learns _ _

pub put-requires-clause-holds : goal.put-requires-clause-holds
put-requires-clause-holds g c = let desk = c.in-Ok.desk in (desk, c.in-Ok.ensures.holds, λ views rule at. stays _ (client_of c.take.new.key) desk desk views rule at refl (desk_self desk.working))
