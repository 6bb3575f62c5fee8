use Rattle.std.proofs.Common.{length, take, ◌-◌, ◌≤◌}
use Rattle.aug_script.specs.Devices.{Writes}
use Rattle.aug_script.proofs.sending.write_pieces.Given as goal

-- the bytes before `taken` went out, with no fault and no call of `finish`
abbrev pub invariant-loop-taken : goal.invariant-loop-taken
invariant-loop-taken g l = record {
  within : l.taken ≤ length l.bytes;
  wrote : Writes (g.W.Sink.state l.initial.sink) (g.W.Sink.state l.sink) (take l.taken l.bytes) 0;
}

abbrev pub decreases-loop-taken : goal.decreases-loop-taken
decreases-loop-taken g l = length l.bytes - l.taken
