use Rattle.std.proofs.Common.{◌∙◌, sym, subst}
use Rattle.aug_live.specs.LiveTries.{KeepsHandles, KnowsMore, TrieFacts}
use Rattle.aug_live.proofs.Counted.{rolls_on}
use Rattle.aug_live.proofs.DeskSteps.{keeps_from}
use Rattle.aug_live.proofs.Lanes.{keeps_by, keeps_on, keeps_self}
use Rattle.aug_live.proofs.live.Live.roll_over.Goals as goal

pub lay_on-requires-clause-goes_on : goal.lay_on-requires-clause-goes_on
lay_on-requires-clause-goes_on g c = keeps_from _ _ _ c.in-Ok.ensures.takes c.roll-working.ensures.goes_on

pub returns-in-Ok-clause-goes_on : goal.returns-in-Ok-clause-goes_on
returns-in-Ok-clause-goes_on g c = keeps_by _ _ _ _ c.self.view_is (keeps_on _ _ _ c.in-Ok.ensures.goes_on c.roll-working.ensures.goes_on) c.lay_on.ensures.view

pub returns-in-Err-clause-goes_on : goal.returns-in-Err-clause-goes_on
returns-in-Err-clause-goes_on g c = subst (KeepsHandles c.args.self.now) (sym (c.take_own.ensures.view ∙ c.self.view_is)) (keeps_self c.args.self.now)

pub returns-in-Ok-clause-rolls : goal.returns-in-Ok-clause-rolls
returns-in-Ok-clause-rolls g c = rolls_on c.roll-working.result.1 c.args.self.now c.in-Ok.working c.roll-working.result.0 _ (subst (λ (z : TrieFacts). KnowsMore z c.in-Ok.working) c.self.view_is c.in-Ok.ensures.goes_on.more) c.lay_on.ensures.view c.roll-working.ensures.rolls
