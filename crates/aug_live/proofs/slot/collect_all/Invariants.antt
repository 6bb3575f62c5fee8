use Rattle.std.specs.Prelude.{◌≡◌, All, Some, vec_len}
use Rattle.aug_live.proofs.slot.collect_all.Given as goal

abbrev pub invariant-loop-i : goal.invariant-loop-i
invariant-loop-i g l = All (λ s. s ≡ Some l.fn.round) l.slots.items × (l.crew ≡ l.fn.crew) × (vec_len l.slots ≡ vec_len l.fn.slots)
