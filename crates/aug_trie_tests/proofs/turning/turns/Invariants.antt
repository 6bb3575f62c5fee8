use Rattle.std.proofs.Common.{◌≡◌}
use Rattle.aug_trie_tests.proofs.turning.turns.Given as goal

abbrev pub invariant-loop : goal.invariant-loop
invariant-loop l = l.climb.start ≡ l.fn.climb.start
