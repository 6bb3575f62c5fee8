use Rattle.std.proofs.Common.{◌≤◌}
use Rattle.aug_core.specs.Faces.{face}
use Rattle.aug_words.specs.inside.Laying.{ChangesPart, MayLay, SharesRecords, words_in}
use Rattle.aug_words.proofs.words.Words.lay_shared.Given as goal

abbrev pub invariant-loop-level : goal.invariant-loop-level
invariant-loop-level g l = record {
  in_range : l.level ≤ l.self.shape.bits;
  may : MayLay l.seat.table_id l.self.table l.fn.base l.self.shape l.seat.me;
  changes : ChangesPart l.fn.base l.self.shape l.fn.seat.me.0 l.seat.me.0;
  shares : SharesRecords (face g.A.Monoid.parts g.B.Monoid.parts) l.self.shape l.level (words_in l.fn.base l.self.shape l.fn.seat.me.0) (words_in l.fn.base l.self.shape l.seat.me.0);
}
