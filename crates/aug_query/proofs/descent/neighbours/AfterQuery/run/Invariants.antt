use Rattle.std.proofs.Common.{◌+◌, ◌-◌, ◌/◌, ◌^◌, ◌≤◌}
use Rattle.aug_model.specs.Keys.{list_of}
use Rattle.aug_model.specs.NodeKeys.{end_key}
use Rattle.aug_query.specs.Descend.{Descends}
use Rattle.aug_query.proofs.Passing.{KeepsAfter}
use Rattle.aug_query.proofs.descent.neighbours.AfterQuery.run.Given as goal

abbrev pub invariant-loop-level : goal.invariant-loop-level
invariant-loop-level g l = record {
  most : l.level ≤ (g.D.Descend.set_of l.fn.tree).bits;
  name : g.D.Descend.Names l.tree l.level (l.k / 2 ^ l.level) l.node;
  kept : KeepsAfter (g.D.Descend.Names l.tree) (list_of (g.D.Descend.set_of l.fn.tree)) l.k (end_key l.level (l.k / 2 ^ l.level)) l.parent;
  descends : Descends g.D.Descend.set_of g.D.Descend.loads_of g.D.Descend.Names g.D.Descend.KeepsRest ((g.D.Descend.set_of l.fn.tree).bits + 1 - l.level) 0 0 ((g.D.Descend.set_of l.fn.tree).bits - l.level) l.fn.tree l.tree;
}

abbrev pub decreases-loop-level : goal.decreases-loop-level
decreases-loop-level g l = l.level
