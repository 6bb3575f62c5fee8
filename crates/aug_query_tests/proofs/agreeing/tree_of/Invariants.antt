use Rattle.std.proofs.Common.{◌<◌}
use Rattle.std.specs.List.{All}
use Rattle.std.specs.List.Sorted.{IsStrictlyIncreasing}
use Rattle.aug_model.specs.Keys.{keys_of}
use Rattle.aug_monoid.specs.Weighted.{FitsPair}
use Rattle.aug_query_tests.proofs.agreeing.tree_of.Given as goal

abbrev pub invariant-loop-k : goal.invariant-loop-k
invariant-loop-k g l = record {
  rising : IsStrictlyIncreasing (keys_of l.list.items);
  below : All (λ x. x < l.k) (keys_of l.list.items);
  fit : All FitsPair l.list.items;
}
