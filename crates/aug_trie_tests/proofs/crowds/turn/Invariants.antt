use Rattle.std.proofs.Common.{◌≡◌}
use Rattle.aug_trie_tests.proofs.crowds.turn.Given as goal

abbrev pub invariant-loop-key : goal.invariant-loop-key
invariant-loop-key l = l.pass.round ≡ l.initial.pass.round
