use Rattle.std.proofs.Common.{ℕ, ◌≡◌, ◌^◌, ◌<◌, length, get_or, take}
use Rattle.aug_model.specs.Queries.{weight_in}
use Rattle.aug_query_testing.proofs.rows.leaf_weights.Given as goal

abbrev pub invariant-loop-key : goal.invariant-loop-key
invariant-loop-key l = record {
  all : length l.weights.items ≡ 2 ^ l.bits;
  weigh : (place default : ℕ) → place < length l.weights.items → get_or l.weights.items place default ≡ weight_in (take l.key-index l.pairs) place;
}
