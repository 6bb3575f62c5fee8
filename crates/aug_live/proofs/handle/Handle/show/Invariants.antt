use Rattle.std.specs.Prelude.{◌≡◌}
use Rattle.aug_live.specs.LiveHandles.{Follows}
use Rattle.aug_live.specs.inside.Looks.{HasReaders}
use Rattle.aug_live.proofs.handle.Handle.show.Given as goal

abbrev pub invariant-loop : goal.invariant-loop
invariant-loop g l = Follows l.initial.self l.self × (l.show.reader ≡ l.initial.show.reader) × HasReaders l.show.reader l.show.left l.initial.self.half.round.table
