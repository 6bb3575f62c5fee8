use Rattle.std.specs.Prelude.{◌≡◌, ◌+◌, ◌++◌, reverse, vec_len, vec_capacity}
use Rattle.aug_live.proofs.rolling.put_all_back.Given as goal

abbrev pub invariant-loop-one : goal.invariant-loop-one
invariant-loop-one g l =
    (l.ports.items ++ reverse l.held.items ≡ l.fn.ports.items ++ reverse l.fn.held.items)
    × (vec_len l.ports + vec_len l.held ≡ vec_len l.fn.ports + vec_len l.fn.held)
    × (vec_capacity l.ports ≡ vec_capacity l.fn.ports)
    × (vec_capacity l.held ≡ vec_capacity l.fn.held)

abbrev pub decreases-loop-one : goal.decreases-loop-one
decreases-loop-one g l = vec_len l.held
