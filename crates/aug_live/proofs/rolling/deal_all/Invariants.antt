use Rattle.std.specs.Prelude.{◌≡◌, ◌+◌, ◌++◌, All, map, reverse, vec_len, vec_capacity}
use Rattle.aug_trie.specs.Round.{table_of}
use Rattle.aug_core.specs.Prefixes.{IsPrefix}
use Rattle.aug_live.specs.inside.Rolls.{IsOf, HasEnded, given_all, kept_of, rounds_in}
use Rattle.aug_live.proofs.rolling.deal_all.Given as goal

abbrev pub invariant-loop-one : goal.invariant-loop-one
invariant-loop-one g l =
    (vec_len l.ports + vec_len l.idle ≡ vec_len l.fn.idle)
    × All (HasEnded (table_of l.fn.crew.round) l.fn.crew.past l.era) l.idle.items
    × All (IsOf (rounds_in l.fn.crew) (l.era + 1)) l.ports.items
    × (rounds_in l.crew ≡ rounds_in l.fn.crew)
    × (vec_capacity l.ports ≡ vec_capacity l.fn.ports)
    × (vec_capacity l.idle ≡ vec_capacity l.fn.idle)
    × (l.crew.handed ≡ vec_len l.ports)
    × (l.crew.back ≡ l.fn.crew.back)
    × IsPrefix l.fn.crew.knows.history l.crew.knows.history
    × (map kept_of l.ports.items ++ map given_all (reverse l.idle.items) ≡ map given_all (reverse l.fn.idle.items))
    × (l.crew.knows.accepted ≡ l.fn.crew.knows.accepted)

abbrev pub decreases-loop-one : goal.decreases-loop-one
decreases-loop-one g l = vec_len l.idle
