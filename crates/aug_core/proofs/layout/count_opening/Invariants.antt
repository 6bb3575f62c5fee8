use Rattle.std.proofs.Common.{◌≡◌, ◌+◌, ◌*◌, ◌≤◌}
use Rattle.aug_core.specs.Places.{own_records}
use Rattle.aug_core.proofs.layout.count_opening.Given as goal

abbrev pub invariant-loop-level : goal.invariant-loop-level
invariant-loop-level l = record {
  in_range : l.level ≤ l.bits;
  counted : l.records ≡ l.bits + own_records l.bits l.members l.level;
  few : l.records ≤ 16 + l.level * 65536;
}
