use Rattle.std.proofs.Common.{◌∙◌, subst, sym}
use Rattle.aug_live.specs.LiveHandles.{HandleFacts, Runs}
use Rattle.aug_live.proofs.Carries.{err_map, follows_on, ok_map, runs_on}
use Rattle.aug_live.proofs.handle.Handle.try_make.Goals as goal

pub returns-in-Err-clause-made : goal.returns-in-Err-clause-made
returns-in-Err-clause-made g c = ok_map _ (λ (answer : _). Runs (g.O.Operation.Does c.args.op.now c.try_again.new.op answer) c.args.self.now c.try_again.new.self) c.try_again.result
    (λ answer made. subst (λ (z : g.row.O.Denot). Runs (g.O.Operation.Does z c.try_again.new.op answer) c.args.self.now c.try_again.new.self) c.in-Err.ensures.kept
    (runs_on _ c.args.self.now c.attempt.new.self c.try_again.new.self c.in-Err.ensures.not_made made)) c.try_again.ensures.made

pub returns-in-Err-clause-not_made : goal.returns-in-Err-clause-not_made
returns-in-Err-clause-not_made g c = err_map _ _ c.try_again.result (λ _ later. follows_on c.args.self.now c.attempt.new.self c.try_again.new.self c.in-Err.ensures.not_made later) c.try_again.ensures.not_made

pub returns-in-Ok-clause-made : goal.returns-in-Ok-clause-made
returns-in-Ok-clause-made g c = subst (λ (h : HandleFacts). Runs (g.O.Operation.Does c.args.op.now c.attempt.new.op c.in-Ok.answer) c.args.self.now h) (sym c.count.ensures) c.in-Ok.ensures.made

pub returns-in-Err-clause-kept : goal.returns-in-Err-clause-kept
returns-in-Err-clause-kept g c = err_map _ _ c.try_again.result (λ _ kept. kept ∙ c.in-Err.ensures.kept) c.try_again.ensures.kept
