use Rattle.std.proofs.Common.{◌≡◌, length}
use Rattle.aug_c.specs.ArrayCalls.{AsksFrom}
use Rattle.aug_c.specs.inside.KeyRequests.{requests_of}
use Rattle.aug_c.proofs.array_updates.requests_from.Given as goal

abbrev pub invariant-loop-place : goal.invariant-loop-place
invariant-loop-place l = record { asks : AsksFrom (requests_of l.each l.weights) l.first l.place l.requests; long : length l.requests ≡ 32 }
