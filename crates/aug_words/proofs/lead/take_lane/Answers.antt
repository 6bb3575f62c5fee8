use Rattle.std.proofs.Common.{refl}
use Rattle.aug_core.specs.Effects.{own_lane_place}
use Rattle.aug_core.proofs.EraSteps.{takes_lane}
use Rattle.aug_words.proofs.lead.take_lane.Goals as goal

pub compare_exchange-requires : goal.compare_exchange-requires
compare_exchange-requires g c = (c.requires.table, c.requires.inside, takes_lane _ _ _ _ (own_lane_place c.args.seat.now.me.0) _ _ c.requires.live c.requires.no_slot c.requires.exists c.requires.own c.requires.free refl)

pub returns-clause-no_slot : goal.returns-clause-no_slot
returns-clause-no_slot g c = (c.compare_exchange.ensures.2 (own_lane_place c.args.seat.now.me.0) c.requires.own).0

pub returns-clause-view : goal.returns-clause-view
returns-clause-view g c = (c.compare_exchange.ensures.2 (own_lane_place c.args.seat.now.me.0) c.requires.own).2
