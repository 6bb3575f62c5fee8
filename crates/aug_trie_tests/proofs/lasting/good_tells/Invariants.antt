use Rattle.std.proofs.Common.{◌≡◌}
use Rattle.std.specs.Prelude.{None}
use Rattle.aug_trie_tests.proofs.lasting.good_tells.Given as goal

abbrev pub invariant-loop-request : goal.invariant-loop-request
invariant-loop-request l = record { round : l.hand.pass.round ≡ l.fn.hand.pass.round; no_look : l.hand.look ≡ None }
