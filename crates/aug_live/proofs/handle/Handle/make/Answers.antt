use Rattle.std.proofs.Common.{◌∙◌, refl, subst, sym}
use Rattle.aug_live.specs.LiveHandles.{HandleFacts, Runs}
use Rattle.aug_live.proofs.Carries.{follows_self, follows_on, runs_on}
use Rattle.aug_live.proofs.handle.Handle.make.Goals as goal

pub loop-init : goal.loop-init
loop-init g c = (follows_self c.args.self.now, refl)

pub loop-preserved : goal.loop-preserved
loop-preserved g c = (follows_on c.args.self.now c.attempt.new.self c.wait_to_refill.new.self (follows_on c.args.self.now c.loop.self c.attempt.new.self c.loop.invariant.0 c.in-Err.ensures.not_made) c.wait_to_refill.ensures.follows, c.in-Err.ensures.kept ∙ c.loop.invariant.1)

pub returns-in-Err-wait_to_refill-clause-not_made : goal.returns-in-Err-wait_to_refill-clause-not_made
returns-in-Err-wait_to_refill-clause-not_made g c = follows_on c.args.self.now c.attempt.new.self c.wait_to_refill.new.self (follows_on c.args.self.now c.loop.self c.attempt.new.self c.loop.invariant.0 c.in-Err.ensures.not_made) c.wait_to_refill.ensures.follows

pub returns-in-Ok-clause-made : goal.returns-in-Ok-clause-made
returns-in-Ok-clause-made g c = subst (λ (h : HandleFacts). Runs (g.O.Operation.Does c.args.op.now c.attempt.new.op c.in-Ok.answer) c.args.self.now h) (sym c.count.ensures)
    (subst (λ (z : g.row.O.Denot). Runs (g.O.Operation.Does z c.attempt.new.op c.in-Ok.answer) c.args.self.now c.attempt.new.self) c.loop.invariant.1
    (runs_on _ c.args.self.now c.loop.self c.attempt.new.self c.loop.invariant.0 c.in-Ok.ensures.made))
