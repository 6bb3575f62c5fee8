use Rattle.std.specs.Prelude.{◌≡◌, ℕ, ◌+◌, ◌<◌, ◌≤◌, get_or, vec_items, vec_len, vec_capacity}
use Rattle.std.specs.Vec.Iter.{into_iter_items, into_iter_len}
use Rattle.aug_run.specs.inside.Owed.{Owes}
use Rattle.aug_run.specs.inside.Workers.{MayBegin}
use Rattle.aug_run.proofs.lanes.threads.start_all.Given as goal

abbrev pub invariant-loop-job : goal.invariant-loop-job
invariant-loop-job g l =
    let n = vec_len l.started in let rest = l.job-iterator in let first = l.initial.job-iterator in
    (n + into_iter_len rest ≡ into_iter_len first)
    × ((k : ℕ) (d : _) → k < into_iter_len rest → MayBegin l.round l.rows (n + k) (get_or (into_iter_items rest) k d))
    × ((k : ℕ) (d : _) → k < n → Owes l.round l.rows k (get_or (vec_items l.started) k d))
    × (into_iter_len first ≤ vec_capacity l.started)
