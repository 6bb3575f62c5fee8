use Rattle.std.proofs.Common.{◌≡◌, ◌+◌, ◌++◌, map, take, drop}
use Rattle.aug_c.specs.ChangeCalls.{change_of}
use Rattle.aug_c.proofs.changes.write_changes.Given as goal

abbrev pub invariant-loop-i : goal.invariant-loop-i
invariant-loop-i l = l.out ≡ (take l.at l.fn.out ++ map change_of (take l.i l.page)) ++ drop (l.at + l.i) l.fn.out
