use Rattle.std.proofs.Common.{◌≡◌}
use Rattle.aug_trie_tests.proofs.turning.to_the_end.Given as goal

abbrev pub invariant-loop-made : goal.invariant-loop-made
invariant-loop-made l = l.climb.start ≡ l.fn.climb.start
