use Rattle.std.proofs.Common.{◌≡◌}
use Rattle.aug_trie_tests.proofs.crowds.work.Given as goal

abbrev pub invariant-loop : goal.invariant-loop
invariant-loop g l = l.pass.round ≡ l.initial.pass.round
