use Rattle.std.specs.Prelude.{◌≡◌, ◌+◌, ◌++◌, All, flat_map, map, reverse, vec_len, vec_capacity}
use Rattle.aug_core.specs.Prefixes.{IsPrefix}
use Rattle.aug_live.specs.inside.Rolls.{IsOf, IsBackIn, accepted_by, kept_of, rounds_in}
use Rattle.aug_live.proofs.rolling.give_all.Given as goal

abbrev pub invariant-loop-one : goal.invariant-loop-one
invariant-loop-one g l =
    (vec_len l.idle + vec_len l.held ≡ vec_len l.fn.held)
    × All (IsOf (rounds_in l.fn.crew) l.era) l.held.items
    × All (IsBackIn (rounds_in l.fn.crew) l.era l.crew.knows.history) l.idle.items
    × (rounds_in l.crew ≡ rounds_in l.fn.crew)
    × (vec_capacity l.idle ≡ vec_capacity l.fn.idle)
    × (vec_capacity l.held ≡ vec_capacity l.fn.held)
    × (l.crew.handed ≡ l.fn.crew.handed)
    × (l.crew.back ≡ l.fn.crew.back + vec_len l.idle)
    × IsPrefix l.fn.crew.knows.history l.crew.knows.history
    × (map kept_of l.held.items ++ map kept_of (reverse l.idle.items) ≡ map kept_of (reverse l.fn.held.items))
    × (l.crew.knows.accepted ≡ l.fn.crew.knows.accepted ++ flat_map accepted_by l.idle.items)
    × (l.crew.free ≡ l.fn.crew.free)

abbrev pub decreases-loop-one : goal.decreases-loop-one
decreases-loop-one g l = vec_len l.held
