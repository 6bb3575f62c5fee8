use Rattle.std.specs.Prelude.{◌≡◌, ℕ, ◌+◌, ◌<◌, ◌≤◌, get_or, map, vec_len, vec_capacity}
use Rattle.std.specs.Vec.Iter.{into_iter_items, into_iter_len}
use Rattle.aug_run.specs.inside.Returns.{WentBack}
use Rattle.aug_run.specs.inside.Workers.{IsDone}
use Rattle.aug_run.proofs.lanes.returning.take_back.Given as goal

abbrev pub invariant-loop-one : goal.invariant-loop-one
invariant-loop-one l =
    let n = vec_len l.lanes in let rest = l.one-iterator in let first = l.initial.one-iterator in
    (n + into_iter_len rest ≡ into_iter_len first)
    × ((k : ℕ) (d : _) → k < into_iter_len rest → IsDone l.round l.rows (n + k) (get_or (into_iter_items rest) k d))
    × (into_iter_len first ≤ vec_capacity l.lanes)
    × WentBack l.round l.rows (map (λ lane. into_iter_items lane) l.lanes.items) l.initial.crew.knows l.crew.knows
    × (l.crew.round ≡ l.round)
    × (l.crew.handed ≡ l.initial.crew.handed)
    × (l.crew.back ≡ l.initial.crew.back + n)
