use Rattle.std.specs.Prelude.{◌≡◌, ◌+◌, ◌≤◌, All, length, vec_len, vec_capacity, ℕ, ◌<◌, get_or}
use Rattle.std.specs.Arc.{arc_value}
use Rattle.std.specs.Vec.Iter.{into_iter_items, into_iter_len}
use Rattle.ruled_lock.specs.Locks.{HoldsNothing, IsSameKey, client_of}
use Rattle.aug_live.specs.inside.Rolls.{AreHandles, IsHandleEnd}
use Rattle.aug_live.proofs.live.hand_out.Given as goal

abbrev pub invariant-loop-end : goal.invariant-loop-end
invariant-loop-end g l =
    let rest = l.end-iterator in let all = l.initial.end-iterator in
    (vec_len l.handles + into_iter_len rest ≡ into_iter_len all)
    × (into_iter_len all ≤ vec_capacity l.handles)
    × ((k : ℕ) (d : _) → k < into_iter_len rest → IsHandleEnd 1 (arc_value l.round.value) (get_or (into_iter_items rest) k d))
    × AreHandles (client_of l.fn.mine) (into_iter_items all) (into_iter_items rest) l.handles.items
    × (into_iter_len rest ≡ length (into_iter_items rest))
    × All (λ s. s ≡ (arc_value l.round.value, l.fn.mine.table_id)) l.shares.items
    × (vec_len l.shares ≡ into_iter_len rest)
    × IsSameKey l.fn.mine l.mine
    × HoldsNothing l.mine
    × (client_of l.mine ≡ client_of l.fn.mine)
