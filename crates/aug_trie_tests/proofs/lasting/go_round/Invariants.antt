use Rattle.std.proofs.Common.{◌≡◌}
use Rattle.std.specs.Prelude.{None}
use Rattle.aug_trie_tests.proofs.lasting.go_round.Given as goal

abbrev pub invariant-loop-turn : goal.invariant-loop-turn
invariant-loop-turn l = record { round : l.hand.pass.round ≡ l.fn.hand.pass.round; no_look : l.hand.look ≡ None }
