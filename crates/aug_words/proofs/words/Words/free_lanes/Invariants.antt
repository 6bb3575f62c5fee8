use Rattle.std.proofs.Common.{◌≤◌}
use Rattle.aug_words.specs.inside.Laying.{ChangesPart, FreesLanes, MayLay, words_in}
use Rattle.aug_words.proofs.words.Words.free_lanes.Given as goal

abbrev pub invariant-loop-lane : goal.invariant-loop-lane
invariant-loop-lane g l = record {
  in_range : l.lane ≤ l.self.shape.workers;
  may : MayLay l.seat.table_id l.self.table l.fn.base l.self.shape l.seat.me;
  changes : ChangesPart l.fn.base l.self.shape l.fn.seat.me.0 l.seat.me.0;
  frees : FreesLanes l.self.shape l.lane (words_in l.fn.base l.self.shape l.fn.seat.me.0) (words_in l.fn.base l.self.shape l.seat.me.0);
}
