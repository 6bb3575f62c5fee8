use Rattle.std.proofs.Common.{◌≡◌, ◌≤◌, take}
use Rattle.aug_c.specs.ArrayCalls.{changes}
use Rattle.aug_c.proofs.array_updates.changed_in.Given as goal

abbrev pub invariant-loop-place : goal.invariant-loop-place
invariant-loop-place l = record { is : l.changed ≡ changes (take l.place l.outcomes); few : l.changed ≤ l.place }
