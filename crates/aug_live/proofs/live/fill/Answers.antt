use Rattle.std.proofs.Common.{arith}
use Rattle.aug_live.specs.inside.Desks.{IsNewBerth}
use Rattle.aug_live.proofs.Moving.{one_more}
use Rattle.aug_live.proofs.live.fill.Goals as goal

pub loop-preserved : goal.loop-preserved
loop-preserved g c = (
  one_more IsNewBerth c.loop.berths.items c.push_reserved.new.self.items c.in_ok-new.field-0 c.push_reserved.ensures.items c.loop.invariant.0 (c.in_ok-new.ensures.known, c.in_ok-new.ensures.number),
  omega (arith, c.push_reserved.ensures.len, c.loop.invariant.1),
  omega (arith, c.push_reserved.ensures.capacity, c.loop.invariant.2),
)
