use Rattle.std.proofs.Common.{◌≡◌}
use Rattle.aug_trie_tests.proofs.looks.even_looks.Given as goal

abbrev pub invariant-loop : goal.invariant-loop
invariant-loop l = record { round : l.hand.pass.round ≡ l.fn.hand.pass.round }
