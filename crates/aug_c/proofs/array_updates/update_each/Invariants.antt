use Rattle.std.proofs.Common.{◌≤◌}
use Rattle.aug_c.specs.inside.KeyRequests.{requests_of}
use Rattle.aug_c.proofs.Turns.{Came}
use Rattle.aug_c.proofs.array_updates.update_each.Given as goal

abbrev pub invariant-loop-place : goal.invariant-loop-place
invariant-loop-place l = record { came : Came (requests_of l.each l.weights) l.keys l.fn.before l.initial.access l.so_far l.access; past : l.place ≤ l.so_far.made }
