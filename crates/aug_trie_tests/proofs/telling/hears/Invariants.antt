use Rattle.std.specs.Prelude.{◌≡◌}
use Rattle.aug_trie_tests.proofs.telling.hears.Given as goal

abbrev pub invariant-loop : goal.invariant-loop
invariant-loop g l = l.pass.round ≡ l.initial.pass.round
