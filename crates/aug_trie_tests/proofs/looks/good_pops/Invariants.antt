use Rattle.std.proofs.Common.{◌≡◌}
use Rattle.std.specs.Prelude.{None}
use Rattle.aug_trie_tests.proofs.looks.good_pops.Given as goal

abbrev pub invariant-loop-side : goal.invariant-loop-side
invariant-loop-side l = record { round : l.hand.pass.round ≡ l.fn.hand.pass.round; no_look : l.hand.look ≡ None }
