use Rattle.std.proofs.Common.{◌≡◌}
use Rattle.aug_trie.specs.Snapshot.{HasSnapshot}
use Rattle.aug_trie_tests.proofs.asking.set_all.Given as goal

abbrev pub invariant-loop-change : goal.invariant-loop-change
invariant-loop-change l = record { round : l.pass.round ≡ l.initial.pass.round; snapshot : HasSnapshot l.pass l.fn.s }
