use Rattle.std.proofs.Common.{◌≡◌}
use Rattle.aug_trie_tests.proofs.playing.filled.Given as goal

abbrev pub invariant-loop-k : goal.invariant-loop-k
invariant-loop-k l = l.pass.round ≡ l.initial.pass.round
