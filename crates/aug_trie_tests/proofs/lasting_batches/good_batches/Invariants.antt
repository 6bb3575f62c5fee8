use Rattle.std.proofs.Common.{◌≡◌}
use Rattle.std.specs.Prelude.{None}
use Rattle.aug_trie_tests.proofs.lasting_batches.good_batches.Given as goal

abbrev pub invariant-loop-keys : goal.invariant-loop-keys
invariant-loop-keys l = record { round : l.hand.pass.round ≡ l.fn.hand.pass.round; no_look : l.hand.look ≡ None }
