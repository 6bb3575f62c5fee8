use Rattle.std.proofs.Common.{◌≡◌, length, []}
use Rattle.std.specs.List.{All}
use Rattle.aug_model.specs.Folds.{summary_of}
use Rattle.aug_query_testing.proofs.rows.empty_row.Given as goal

abbrev pub invariant-loop : goal.invariant-loop
invariant-loop g l = record {
  all : length l.row.items ≡ l.counter;
  each : All (λ leaf. leaf ≡ summary_of g.A.Monoid.parts g.B.Monoid.parts []) l.row.items;
}
