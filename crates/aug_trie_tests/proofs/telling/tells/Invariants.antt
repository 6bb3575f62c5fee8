use Rattle.std.specs.Prelude.{◌≡◌}
use Rattle.aug_trie_tests.proofs.telling.tells.Given as goal

abbrev pub invariant-loop-key : goal.invariant-loop-key
invariant-loop-key g l = l.pass.round ≡ l.initial.pass.round
