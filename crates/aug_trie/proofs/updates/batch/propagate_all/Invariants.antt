use Rattle.std.proofs.Common.{◌≡◌, ◌+◌, ◌*◌}
use Rattle.aug_core.specs.Faces.{face}
use Rattle.aug_trie.proofs.Raising.{RaisedSome}
use Rattle.aug_trie.proofs.updates.batch.propagate_all.Given as goal

abbrev pub invariant-loop-place : goal.invariant-loop-place
invariant-loop-place g l = record {
  table : l.pass.table ≡ l.fn.pass.table;
  number : l.number ≡ l.fn.number + l.place * l.fn.pass.view.shape.bits;
  raised : RaisedSome (face g.A.Monoid.parts g.B.Monoid.parts) l.keys l.fn.number l.fn.pass.view l.place l.pass.view;
}
