use Rattle.std.specs.Prelude.{Ok}
use Rattle.std.proofs.Common.{refl}
use Rattle.aug_live.proofs.Counted.{rolls_on}
use Rattle.aug_live.proofs.Lanes.{keeps_on, keeps_self}
use Rattle.aug_live.proofs.live.Live.roll.Goals as goal

pub loop-init : goal.loop-init
loop-init g c = keeps_self c.args.self.now

pub loop-preserved : goal.loop-preserved
loop-preserved g c = keeps_on _ _ _ c.loop.invariant c.roll_over.ensures.goes_on

pub returns-in-Err-Refused-clause-goes_on : goal.returns-in-Err-Refused-clause-goes_on
returns-in-Err-Refused-clause-goes_on g c = keeps_on _ _ _ c.loop.invariant c.roll_over.ensures.goes_on

pub returns-then-rolled-clause-goes_on : goal.returns-then-rolled-clause-goes_on
returns-then-rolled-clause-goes_on g c = keeps_on _ _ _ c.loop.invariant c.roll_over.ensures.goes_on

pub returns-then-rolled-clause-rolls : goal.returns-then-rolled-clause-rolls
returns-then-rolled-clause-rolls g c = rolls_on {E = Unit {0}} (Ok c.in-Ok.rolled) c.args.self.now c.loop.self c.roll_over.new.self c.roll_over.new.self c.loop.invariant.more refl c.in-Ok.ensures.rolls c.if-rolled.true
