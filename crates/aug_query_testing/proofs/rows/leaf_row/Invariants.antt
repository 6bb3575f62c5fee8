use Rattle.std.proofs.Common.{ℕ, ◌≡◌, ◌+◌, ◌^◌, ◌<◌, length, get_or, take}
use Rattle.aug_model.specs.Folds.{summary_of}
use Rattle.aug_model.specs.Keys.{keys_of}
use Rattle.aug_model.specs.Queries.{range_of}
use Rattle.aug_query.specs.Tree.{sum_of}
use Rattle.aug_query_testing.proofs.rows.leaf_row.Given as goal

abbrev pub invariant-loop-key : goal.invariant-loop-key
invariant-loop-key g l = record {
  all : length l.row.items ≡ 2 ^ l.bits;
  each : (place : ℕ) (default : _) → place < length l.row.items → get_or l.row.items place default ≡ sum_of (summary_of g.A.Monoid.parts g.B.Monoid.parts) l.pairs (range_of (take l.key-index (keys_of l.pairs)) place (place + 1));
}
