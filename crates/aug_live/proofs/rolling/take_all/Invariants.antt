use Rattle.std.specs.Prelude.{◌≡◌, ◌+◌, ◌<◌, ◌++◌, All, reverse, true, vec_len, vec_capacity}
use Rattle.aug_live.specs.inside.LaneKnowledge.{EndFacts, rolls}
use Rattle.aug_live.proofs.rolling.take_all.Given as goal

abbrev pub invariant-loop-port : goal.invariant-loop-port
invariant-loop-port g l =
    (l.ports.items ++ reverse l.held.items ≡ l.fn.ports.items ++ reverse l.fn.held.items)
    × (vec_len l.ports + vec_len l.held ≡ vec_len l.fn.ports + vec_len l.fn.held)
    × All (λ (e : EndFacts). (rolls e.known.whose ≡ true) × (0 < e.known.at.era)) l.ports.items
    × (vec_capacity l.ports ≡ vec_capacity l.fn.ports)
    × (vec_capacity l.held ≡ vec_capacity l.fn.held)

abbrev pub decreases-loop-port : goal.decreases-loop-port
decreases-loop-port g l = vec_len l.ports
