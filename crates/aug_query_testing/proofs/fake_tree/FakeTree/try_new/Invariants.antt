use Rattle.std.proofs.Common.{ℕ, ◌≡◌, ◌+◌, ◌<◌, List, length, get_or, map}
use Rattle.aug_model.specs.Folds.{summary_of}
use Rattle.aug_query_testing.specs.inside.Rows.{IsRow}
use Rattle.aug_query_testing.proofs.fake_tree.FakeTree.try_new.Given as goal

abbrev pub invariant-loop-level : goal.invariant-loop-level
invariant-loop-level g l = record {
  all : length l.rows.items ≡ l.level + 1;
  each : (level : ℕ) (default : List _) → level < l.level + 1 → IsRow (summary_of g.A.Monoid.parts g.B.Monoid.parts) l.bits l.pairs level (get_or (map (λ row. row.items) l.rows.items) level default);
}
