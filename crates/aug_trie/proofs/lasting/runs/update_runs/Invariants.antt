use Rattle.std.proofs.Common.{◌≡◌, ◌-◌, ◌*◌, ◌≤◌, length}
use Rattle.aug_core.specs.Faces.{face}
use Rattle.aug_trie.specs.inside.Lasting.{KeepsStock}
use Rattle.aug_trie.specs.inside.LastingRuns.{MakesRun, PutsRun, each_steps}
use Rattle.aug_trie.proofs.lasting.runs.update_runs.Given as goal

abbrev pub invariant-loop-made : goal.invariant-loop-made
invariant-loop-made g l = record {
  keeps : KeepsStock (face g.A.Monoid.parts g.B.Monoid.parts) l.words l.pass l.stock;
  none : l.stock.replaced ≡ 0;
  rests : l.stock.era ≡ 0;
  few : l.made ≤ length l.keys;
  puts : PutsRun 0 l.made l.fn.outcomes l.outcomes;
  makes : MakesRun (face g.A.Monoid.parts g.B.Monoid.parts) l.keys l.requests l.outcomes 0 l.made (l.made * each_steps l.fn.pass.view.shape) l.fn.pass.view l.pass.view;
}

abbrev pub decreases-loop-made : goal.decreases-loop-made
decreases-loop-made g l = length l.keys - l.made
