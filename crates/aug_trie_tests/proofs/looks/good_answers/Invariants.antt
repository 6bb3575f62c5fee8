use Rattle.std.proofs.Common.{◌≡◌}
use Rattle.std.specs.Prelude.{Some}
use Rattle.aug_trie_tests.proofs.looks.good_answers.Given as goal

abbrev pub invariant-loop-act : goal.invariant-loop-act
invariant-loop-act l = record { round : l.hand.pass.round ≡ l.fn.hand.pass.round; look : l.hand.look ≡ Some l.fn.s }
