use Rattle.std.proofs.Common.{subst, sym}
use Rattle.aug_live.specs.LiveHandles.{HandleFacts, Runs}
use Rattle.aug_live.proofs.Carries.{follows_on, runs_on}
use Rattle.aug_live.proofs.handle.Handle.try_again.Goals as goal

pub returns-in-Ok-clause-made : goal.returns-in-Ok-clause-made
returns-in-Ok-clause-made g c = subst (λ (h : HandleFacts). Runs (g.O.Operation.Does c.args.op.now c.attempt.new.op c.in-Ok.answer) c.args.self.now h) (sym c.count.ensures)
    (runs_on _ c.args.self.now c.try_to_refill.new.self _ c.try_to_refill.ensures.follows c.in-Ok.ensures.made)

pub returns-in-Err-attempt-clause-not_made : goal.returns-in-Err-attempt-clause-not_made
returns-in-Err-attempt-clause-not_made g c = follows_on c.args.self.now c.try_to_refill.new.self c.attempt.new.self c.try_to_refill.ensures.follows c.in-Err-attempt.ensures.not_made
