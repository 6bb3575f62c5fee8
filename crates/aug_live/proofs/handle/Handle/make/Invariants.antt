use Rattle.std.specs.Prelude.{◌≡◌}
use Rattle.aug_live.specs.LiveHandles.{Follows}
use Rattle.aug_live.proofs.handle.Handle.make.Given as goal

abbrev pub invariant-loop : goal.invariant-loop
invariant-loop g l = Follows l.initial.self l.self × (l.op ≡ l.initial.op)
