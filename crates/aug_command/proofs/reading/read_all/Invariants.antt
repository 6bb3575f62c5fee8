use Rattle.std.proofs.Common.{◌≡◌, ◌+◌, ◌-◌, ◌≤◌, vec_len}
use Rattle.std.specs.Io.KnownBytes.{Consumes}
use Rattle.aug_command.specs.Reading.{script_limit}
use Rattle.aug_command.proofs.reading.read_all.Given as goal

-- what was read is in `bytes`, with no fault and at most one byte too many
abbrev pub invariant-loop-piece : goal.invariant-loop-piece
invariant-loop-piece g l = record {
  read : Consumes (g.S.Source.remaining l.initial.source) (g.S.Source.remaining l.source) l.bytes.items;
  fits : vec_len l.bytes ≤ script_limit + 1;
  no_fault : g.S.Source.fault_count l.source ≡ g.S.Source.fault_count l.initial.source;
}

abbrev pub decreases-loop-piece : goal.decreases-loop-piece
decreases-loop-piece g l = script_limit + 1 - vec_len l.bytes
