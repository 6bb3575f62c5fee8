use Rattle.std.specs.Prelude.{◌≡◌, ◌≤◌, All, Some, vec_len, vec_capacity}
use Rattle.std.specs.Arc.{arc_value}
use Rattle.aug_live.proofs.rolling.next_round.Given as goal

abbrev pub invariant-loop : goal.invariant-loop
invariant-loop g l = All (λ s. s ≡ (arc_value l.round, (arc_value l.desk).table.shared.table_id)) l.shares.items × (vec_len l.shares ≡ l.counter) × (l.handles ≤ vec_capacity l.shares)
    × All (λ s. s ≡ Some (arc_value l.round)) l.slots.items × (vec_len l.slots ≡ l.counter) × (l.handles ≤ vec_capacity l.slots)
