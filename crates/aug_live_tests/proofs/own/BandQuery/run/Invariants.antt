use Rattle.std.proofs.Common.{◌+◌, ◌-◌, ◌/◌, ◌^◌, ◌≤◌}
use Rattle.aug_query.specs.Descend.{Descends}
use Rattle.aug_live_tests.proofs.own.BandQuery.run.Given as goal

abbrev pub invariant-loop-at : goal.invariant-loop-at
invariant-loop-at g l = record {
  above : l.last ≤ l.at;
  most : l.at ≤ (g.D.Descend.set_of l.fn.tree).bits;
  name : g.D.Descend.Names l.tree l.at (l.band / 2 ^ (l.at - l.last)) l.node;
  walk : Descends g.D.Descend.set_of g.D.Descend.loads_of g.D.Descend.Names g.D.Descend.KeepsRest ((g.D.Descend.set_of l.fn.tree).bits - l.at + 1) 0 0 0 l.fn.tree l.tree;
}

abbrev pub decreases-loop-at : goal.decreases-loop-at
decreases-loop-at g l = l.at
