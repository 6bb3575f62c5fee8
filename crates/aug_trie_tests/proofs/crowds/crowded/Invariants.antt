use Rattle.std.proofs.Common.{◌≡◌}
use Rattle.aug_trie_tests.proofs.crowds.crowded.Given as goal

abbrev pub invariant-loop : goal.invariant-loop
invariant-loop g l = l.crew.round ≡ g.K.OfRound.round

abbrev pub invariant-loop-hand : goal.invariant-loop-hand
invariant-loop-hand g l = record {
  can_next : (goal.iterator-loop-hand g).can_next l.hand-iterator;
  finite : (goal.iterator-loop-hand g).is_finite l.hand-iterator;
  crew : l.crew.round ≡ g.K.OfRound.round;
}
