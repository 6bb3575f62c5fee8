use Rattle.std.proofs.Common.{◌≡◌, ◌-◌, ◌*◌, ◌<◌, ◌≤◌, length}
use Rattle.aug_model.specs.Keys.{list_of}
use Rattle.aug_model.specs.NodeKeys.{keys_below}
use Rattle.aug_query.specs.Descend.{Descends}
use Rattle.aug_query.specs.inside.InOrder.{head_of}
use Rattle.aug_query.proofs.descent.neighbours.nearest.Given as goal

abbrev pub invariant-loop-level : goal.invariant-loop-level
invariant-loop-level g l = record {
  most : l.level ≤ l.fn.level;
  name : g.D.Descend.Names l.tree l.level l.place l.node;
  some : 0 < length (keys_below (list_of (g.D.Descend.set_of l.fn.tree)) l.level l.place);
  same : head_of l.fn.order (keys_below (list_of (g.D.Descend.set_of l.fn.tree)) l.level l.place) ≡ head_of l.fn.order (keys_below (list_of (g.D.Descend.set_of l.fn.tree)) l.fn.level l.fn.place);
  descends : Descends g.D.Descend.set_of g.D.Descend.loads_of g.D.Descend.Names g.D.Descend.KeepsRest (2 * (l.fn.level - l.level)) (l.fn.level - l.level) 0 0 l.fn.tree l.tree;
}

abbrev pub decreases-loop-level : goal.decreases-loop-level
decreases-loop-level g l = l.level
