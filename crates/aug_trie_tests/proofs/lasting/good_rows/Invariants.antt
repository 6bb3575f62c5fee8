use Rattle.std.proofs.Common.{◌≡◌}
use Rattle.std.specs.Prelude.{None}
use Rattle.aug_trie_tests.proofs.lasting.good_rows.Given as goal

abbrev pub invariant-loop-other : goal.invariant-loop-other
invariant-loop-other l = record {
  first : (l.first.pass.round ≡ l.fn.first.pass.round) × (l.first.look ≡ None);
  second : (l.second.pass.round ≡ l.fn.second.pass.round) × (l.second.look ≡ None);
}
