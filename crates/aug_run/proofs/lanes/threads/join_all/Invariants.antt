use Rattle.std.specs.Prelude.{◌≡◌, ℕ, ◌+◌, ◌<◌, ◌≤◌, get_or, vec_items, vec_len, vec_capacity}
use Rattle.std.specs.Vec.Iter.{into_iter_items, into_iter_len}
use Rattle.aug_run.specs.inside.Owed.{Owes}
use Rattle.aug_run.specs.inside.Workers.{IsDone}
use Rattle.aug_run.proofs.lanes.threads.join_all.Given as goal

abbrev pub invariant-loop-child : goal.invariant-loop-child
invariant-loop-child g l =
    let n = vec_len l.done in let rest = l.child-iterator in let first = l.initial.child-iterator in
    (n + into_iter_len rest ≡ into_iter_len first)
    × ((k : ℕ) (d : _) → k < into_iter_len rest → Owes l.round l.rows (n + k) (get_or (into_iter_items rest) k d))
    × ((k : ℕ) (d : _) → k < n → IsDone l.round l.rows k (get_or (vec_items l.done) k d))
    × (into_iter_len first ≤ vec_capacity l.done)
