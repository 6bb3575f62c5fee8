use Rattle.std.proofs.Common.{◌≡◌}
use Rattle.aug_core.specs.Faces.{face}
use Rattle.aug_trie.proofs.LeavingAll.{LeavesLeft}
use Rattle.aug_trie.proofs.updates.batch.at_leaves.Given as goal

abbrev pub invariant-loop-place : goal.invariant-loop-place
invariant-loop-place g l = record {
  table : l.pass.table ≡ l.fn.pass.table;
  left : LeavesLeft (face g.A.Monoid.parts g.B.Monoid.parts) l.keys l.requests l.fn.outcomes l.fn.pass.view l.fn.account l.place l.outcomes l.pass.view l.account;
}
