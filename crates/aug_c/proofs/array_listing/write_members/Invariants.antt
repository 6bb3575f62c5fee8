use Rattle.std.proofs.Common.{◌≡◌, ◌+◌, ◌++◌, map, take, drop}
use Rattle.aug_c.specs.inside.KeyRequests.{member_part}
use Rattle.aug_c.proofs.array_listing.write_members.Given as goal

abbrev pub invariant-loop-i : goal.invariant-loop-i
invariant-loop-i l = l.out ≡ (take l.at l.fn.out ++ map (member_part l.weights) (take l.i l.page)) ++ drop (l.at + l.i) l.fn.out
