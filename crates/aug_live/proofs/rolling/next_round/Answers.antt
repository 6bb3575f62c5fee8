use Rattle.std.proofs.Common.{◌≡◌, arith}
use Rattle.std.specs.Prelude.{Some}
use Rattle.std.specs.Arc.{arc_value}
use Rattle.aug_live.proofs.Moving.{one_more}
use Rattle.aug_live.proofs.rolling.next_round.Goals as goal

pub loop-preserved : goal.loop-preserved
loop-preserved g c = (
  one_more (λ s. s ≡ (arc_value c.in-Ok.round, (arc_value c.args.desk.now).table.shared.table_id)) c.loop.shares.items c.push_reserved.new.self.items c.in-Ok-make_share.share c.push_reserved.ensures.items c.loop.invariant.0 c.in-Ok-make_share.ensures.share,
  omega (arith, c.push_reserved.ensures.len, c.loop.invariant.1),
  omega (arith, c.push_reserved.ensures.capacity, c.loop.invariant.2),
  one_more (λ s. s ≡ Some (arc_value c.in-Ok.round)) c.loop.slots.items c.push_reserved-in-Ok-make_share.new.self.items c.in-Ok-make_share.slot c.push_reserved-in-Ok-make_share.ensures.items c.loop.invariant.3 c.in-Ok-make_share.ensures.slot,
  omega (arith, c.push_reserved-in-Ok-make_share.ensures.len, c.loop.invariant.4),
  omega (arith, c.push_reserved-in-Ok-make_share.ensures.capacity, c.loop.invariant.5),
)
