use Rattle.aug_live.proofs.Carries.{nothing_made, same_nothing}
use Rattle.aug_live.proofs.handle.Handle.try_room.Goals as goal

pub returns-clause-follows : goal.returns-clause-follows
returns-clause-follows g c = nothing_made c.try_make.result _ c.args.self.now c.try_make.new.self (λ _ x y did. same_nothing x y did.1) c.try_make.ensures.made c.try_make.ensures.not_made
