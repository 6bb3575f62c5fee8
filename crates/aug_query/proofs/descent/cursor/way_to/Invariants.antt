use Rattle.std.proofs.Common.{◌+◌, ◌-◌, ◌/◌, ◌^◌, ◌≤◌}
use Rattle.aug_query.specs.Descend.{Descends}
use Rattle.aug_query.specs.inside.Paths.{IsPath}
use Rattle.aug_query.proofs.descent.cursor.way_to.Given as goal

abbrev pub invariant-loop-level : goal.invariant-loop-level
invariant-loop-level g l = record {
  most : l.level ≤ (g.D.Descend.set_of l.fn.tree).bits;
  node : g.D.Descend.Names l.tree l.level (l.key / 2 ^ l.level) l.node;
  path : IsPath (g.D.Descend.Names l.tree) (g.D.Descend.set_of l.fn.tree).bits l.level (l.key / 2 ^ l.level) l.path.items;
  walk : Descends g.D.Descend.set_of g.D.Descend.loads_of g.D.Descend.Names g.D.Descend.KeepsRest ((g.D.Descend.set_of l.fn.tree).bits + 1 - l.level) 0 0 0 l.fn.tree l.tree;
}

abbrev pub decreases-loop-level : goal.decreases-loop-level
decreases-loop-level g l = l.level
