use Rattle.std.proofs.Common.{◌+◌, ◌-◌, ◌*◌, ◌<◌, ◌≤◌}
use Rattle.aug_core.specs.Faces.{face}
use Rattle.aug_trie.specs.inside.Lasting.{KeepsStock}
use Rattle.aug_trie.proofs.LastingRuns.{RaisesRun}
use Rattle.aug_trie.proofs.lasting.runs.lift_run.Given as goal

abbrev pub invariant-loop-place : goal.invariant-loop-place
invariant-loop-place g l = record {
  keeps : KeepsStock (face g.A.Monoid.parts g.B.Monoid.parts) l.words l.pass l.stock;
  reserved : 0 < l.stock.era;
  within : l.place < l.to;
  raises : RaisesRun (face g.A.Monoid.parts g.B.Monoid.parts) l.keys l.from l.place l.fn.pass.view l.pass.view;
  records : l.fn.stock.free ≤ l.stock.free + (l.place - l.from) * l.bits;
}
