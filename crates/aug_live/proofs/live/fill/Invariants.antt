use Rattle.std.specs.Prelude.{◌≡◌, ◌≤◌, All, vec_len, vec_capacity}
use Rattle.aug_live.specs.inside.Desks.{IsNewBerth}
use Rattle.aug_live.proofs.live.fill.Given as goal

abbrev pub invariant-loop : goal.invariant-loop
invariant-loop g l = All IsNewBerth l.berths.items × (vec_len l.berths ≡ l.counter) × (l.handles ≤ vec_capacity l.berths)
