use Rattle.std.specs.Prelude.{◌≡◌, ℕ, ◌+◌, ◌<◌, ◌≤◌, get_or, map, All, vec_len, vec_capacity}
use Rattle.std.specs.Vec.Iter.{into_iter_items, into_iter_len}
use Rattle.aug_live.specs.inside.Desks.{IsNewBerth}
use Rattle.aug_live.specs.inside.LaneKnowledge.{EndFacts}
use Rattle.aug_live.specs.inside.Rolls.{IsOf, IsOpenedLane, Starts, rounds_in}
use Rattle.aug_live.proofs.live.open_lanes.Given as goal

abbrev pub invariant-loop-berth : goal.invariant-loop-berth
invariant-loop-berth g l =
    let n = vec_len l.ports in let rest = l.berth-iterator in let all = l.initial.berth-iterator in
    (n + into_iter_len rest ≡ into_iter_len all)
    × ((k : ℕ) (d : _) → k < into_iter_len rest → IsNewBerth (get_or (into_iter_items rest) k d))
    × All (IsOf (rounds_in l.initial.crew) 1) l.ports.items
    × (rounds_in l.crew ≡ rounds_in l.initial.crew)
    × (into_iter_len all ≤ vec_capacity l.ports)
    × (l.crew.handed ≡ n)
    × (l.crew.back ≡ l.initial.crew.back)
    × All (Starts (rounds_in l.initial.crew)) l.ends.items
    × (vec_len l.ends ≡ n)
    × (into_iter_len all ≤ vec_capacity l.ends)
    × All IsOpenedLane l.ports.items
    × (map (λ (e : EndFacts). e.lock) l.ends.items ≡ map (λ (e : EndFacts). e.lock) l.ports.items)
    × (l.crew.knows.accepted ≡ l.initial.crew.knows.accepted)
