use Rattle.std.proofs.Common.{◌<◌, ℕ, All, take}
use Rattle.aug_c.proofs.array_updates.are_below.Given as goal

abbrev pub invariant-loop-place : goal.invariant-loop-place
invariant-loop-place l = All (λ (k : ℕ). k < l.bound) (take l.place l.keys)
