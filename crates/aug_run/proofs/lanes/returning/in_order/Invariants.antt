use Rattle.std.specs.Prelude.{map, vec_len, vec_capacity}
use Rattle.std.specs.Vec.Iter.{into_iter_items}
use Rattle.aug_run.proofs.Merging.{Merged}
use Rattle.aug_run.proofs.lanes.returning.in_order.Given as goal

abbrev pub invariant-loop-row : goal.invariant-loop-row
invariant-loop-row l =
    Merged l.rows (map (λ lane. into_iter_items lane) l.initial.lanes) l.row-index (map (λ lane. into_iter_items lane) l.lanes) l.lines.items (vec_len l.lines) (vec_capacity l.lines)
