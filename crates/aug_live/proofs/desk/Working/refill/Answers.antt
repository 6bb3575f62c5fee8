use Rattle.aug_live.proofs.Lanes.{keeps_on}
use Rattle.aug_live.proofs.desk.Working.refill.Goals as goal

pub returns-in-Ok-true-clause-goes_on : goal.returns-in-Ok-true-clause-goes_on
returns-in-Ok-true-clause-goes_on g c = keeps_on _ _ _ c.settle-working.ensures.goes_on c.goes_on.ensures.goes_on

pub returns-in-Ok-false-clause-goes_on : goal.returns-in-Ok-false-clause-goes_on
returns-in-Ok-false-clause-goes_on g c = keeps_on _ _ _ c.settle-working.ensures.goes_on (keeps_on _ _ _ c.goes_on.ensures.goes_on c.roll.ensures.goes_on)

pub returns-in-Err-goes_on-clause-goes_on : goal.returns-in-Err-goes_on-clause-goes_on
returns-in-Err-goes_on-clause-goes_on g c = keeps_on _ _ _ c.settle-working.ensures.goes_on c.goes_on.ensures.goes_on
