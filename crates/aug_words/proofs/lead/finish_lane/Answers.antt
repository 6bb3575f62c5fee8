use Rattle.std.proofs.Common.{refl}
use Rattle.aug_core.specs.Effects.{own_lane_place}
use Rattle.aug_core.proofs.EraSteps.{finishes_lane}
use Rattle.aug_words.proofs.lead.finish_lane.Goals as goal

pub store-requires : goal.store-requires
store-requires g c = (c.requires.table, c.requires.inside, finishes_lane _ _ _ _ (own_lane_place c.args.seat.now.me.0) _ _ c.requires.live c.requires.no_slot c.requires.exists c.requires.own c.requires.taken refl)

pub returns-clause-no_slot : goal.returns-clause-no_slot
returns-clause-no_slot g c = (c.store.ensures.2 (own_lane_place c.args.seat.now.me.0) c.requires.own).0

pub returns-clause-view : goal.returns-clause-view
returns-clause-view g c = (c.store.ensures.2 (own_lane_place c.args.seat.now.me.0) c.requires.own).1
