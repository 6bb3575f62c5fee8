use Rattle.std.proofs.Common.{◌≡◌}
use Rattle.aug_core.specs.Faces.{face}
use Rattle.aug_core.specs.inside.Shows.{above}
use Rattle.aug_trie.specs.inside.Batching.{Raises}
use Rattle.aug_trie.specs.inside.Stages.{HasRisen}
use Rattle.aug_trie.proofs.updates.propagate.propagate.Given as goal

abbrev pub invariant-loop-level : goal.invariant-loop-level
invariant-loop-level g l = record {
  table : l.pass.table ≡ l.fn.pass.table;
  node : l.node ≡ above l.fn.pass.view.shape l.leaf l.level;
  risen : HasRisen (face g.A.Monoid.parts g.B.Monoid.parts) l.fn.pass.view.shape.bits l.number l.leaf l.fn.pass.view l.level l.pass.view;
  raises : Raises l.leaf l.fn.pass.view l.level l.pass.view;
}
