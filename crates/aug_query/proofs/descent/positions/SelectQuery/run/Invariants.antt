use Rattle.std.proofs.Common.{◌≡◌, ◌+◌, ◌-◌, ◌*◌, ◌<◌, ◌≤◌, length}
use Rattle.aug_model.specs.Keys.{list_of}
use Rattle.aug_model.specs.Queries.{rank_of}
use Rattle.aug_model.specs.NodeKeys.{keys_below, first_key}
use Rattle.aug_query.specs.Descend.{Descends}
use Rattle.aug_query.proofs.descent.positions.SelectQuery.run.Given as goal

abbrev pub invariant-loop-level : goal.invariant-loop-level
invariant-loop-level g l = record {
  most : l.level ≤ (g.D.Descend.set_of l.fn.tree).bits;
  name : g.D.Descend.Names l.tree l.level l.place l.node;
  within : l.rest < length (keys_below (list_of (g.D.Descend.set_of l.fn.tree)) l.level l.place);
  same : rank_of (list_of (g.D.Descend.set_of l.fn.tree)) (first_key l.level l.place) + l.rest ≡ l.i;
  descends : Descends g.D.Descend.set_of g.D.Descend.loads_of g.D.Descend.Names g.D.Descend.KeepsRest (2 * ((g.D.Descend.set_of l.fn.tree).bits - l.level) + 1) ((g.D.Descend.set_of l.fn.tree).bits - l.level + 1) 0 0 l.fn.tree l.tree;
}

abbrev pub decreases-loop-level : goal.decreases-loop-level
decreases-loop-level g l = l.level
