use Rattle.aug_live.proofs.Carries.{nothing_made}
use Rattle.aug_live.proofs.handle.Handle.learn.Goals as goal

pub returns-in-Ok-clause-follows : goal.returns-in-Ok-clause-follows
returns-in-Ok-clause-follows g c = nothing_made c.make.result _ c.args.self.now c.make.new.self (λ _ _ _ did. did.1) c.make.ensures.made c.make.ensures.not_made
