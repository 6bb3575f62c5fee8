use Rattle.std.proofs.Common.{ℕ, ◌≡◌, ◌<◌, length, get_or}
use Rattle.aug_model.specs.Folds.{summary_of}
use Rattle.aug_query_testing.proofs.TreeRows.{Joins}
use Rattle.aug_query_testing.proofs.rows.parent_row.Given as goal

abbrev pub invariant-loop-place : goal.invariant-loop-place
invariant-loop-place g l = record {
  all : length l.above.items ≡ l.place;
  each : (place : ℕ) (default : _) → place < l.place → Joins (summary_of g.A.Monoid.parts g.B.Monoid.parts) l.row place (get_or l.above.items place default);
}
