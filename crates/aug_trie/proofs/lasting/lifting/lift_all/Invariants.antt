use Rattle.std.proofs.Common.{◌≡◌, ◌+◌, ◌<◌, ◌≤◌}
use Rattle.aug_core.specs.Faces.{face}
use Rattle.aug_core.specs.inside.Shows.{above}
use Rattle.aug_trie.specs.inside.Lasting.{KeepsStock, LiftedTo}
use Rattle.aug_trie.proofs.lasting.lifting.lift_all.Given as goal

abbrev pub invariant-loop-level : goal.invariant-loop-level
invariant-loop-level g l = record {
  keeps : KeepsStock (face g.A.Monoid.parts g.B.Monoid.parts) l.words l.pass l.stock;
  reserved : 0 < l.stock.era;
  node : l.node ≡ above l.fn.pass.view.shape l.leaf l.level;
  lifted : LiftedTo (face g.A.Monoid.parts g.B.Monoid.parts) l.leaf l.fn.pass.view l.level l.pass.view;
  records : l.fn.stock.free ≤ l.stock.free + l.level;
}
