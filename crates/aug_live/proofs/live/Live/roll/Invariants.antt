use Rattle.aug_live.specs.LiveTries.{KeepsHandles}
use Rattle.aug_live.proofs.live.Live.roll.Given as goal

abbrev pub invariant-loop : goal.invariant-loop
invariant-loop g l = KeepsHandles l.initial.self l.self
