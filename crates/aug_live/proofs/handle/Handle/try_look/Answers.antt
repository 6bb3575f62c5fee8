use Rattle.aug_live.proofs.Carries.{follows_same}
use Rattle.aug_live.proofs.handle.Handle.try_look.Goals as goal

pub returns-in-Err-Refused-clause-not_made : goal.returns-in-Err-Refused-clause-not_made
returns-in-Err-Refused-clause-not_made g c = follows_same c.args.self.now c.take_slot.new.self c.take_slot.ensures.same

pub returns-in-Err-Again-clause-not_made : goal.returns-in-Err-Again-clause-not_made
returns-in-Err-Again-clause-not_made g c = follows_same c.args.self.now c.take_slot.new.self c.take_slot.ensures.same
