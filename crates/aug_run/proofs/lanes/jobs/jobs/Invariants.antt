use Rattle.std.specs.Prelude.{◌≡◌, ℕ, ◌<◌, [], ◌∷◌, get_or, vec_len}
use Rattle.aug_core.specs.Prefixes.{IsPrefix}
use Rattle.aug_run.specs.inside.Workers.{MayBegin, opening_cut_of}
use Rattle.aug_run.proofs.lanes.jobs.jobs.Given as goal

abbrev pub invariant-loop-lane : goal.invariant-loop-lane
invariant-loop-lane l =
    (vec_len l.jobs ≡ l.lane)
    × ((k : ℕ) (d : _) → k < l.lane → MayBegin l.round l.rows k (get_or l.jobs.items k d))
    × (l.crew.round ≡ l.round)
    × (l.crew.handed ≡ l.lane)
    × (l.crew.back ≡ l.initial.crew.back)
    × (l.crew.knows.accepted ≡ l.initial.crew.knows.accepted)
    × IsPrefix (opening_cut_of l.round ∷ []) l.crew.knows.history
