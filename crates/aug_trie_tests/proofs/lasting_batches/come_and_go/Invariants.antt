use Rattle.std.proofs.Common.{◌≡◌}
use Rattle.std.specs.Prelude.{None}
use Rattle.aug_trie_tests.proofs.lasting_batches.come_and_go.Given as goal

abbrev pub invariant-loop : goal.invariant-loop
invariant-loop l = record { round : l.hand.pass.round ≡ l.fn.hand.pass.round; no_look : l.hand.look ≡ None }
