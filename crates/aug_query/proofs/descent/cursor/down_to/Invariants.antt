use Rattle.std.proofs.Common.{◌≡◌, ◌-◌, ◌*◌, ◌<◌, ◌≤◌, length}
use Rattle.aug_model.specs.Keys.{list_of}
use Rattle.aug_model.specs.Queries.{rank_of}
use Rattle.aug_model.specs.NodeKeys.{keys_below}
use Rattle.aug_query.specs.Descend.{Descends}
use Rattle.aug_query.specs.inside.InOrder.{start_of}
use Rattle.aug_query.specs.inside.Paths.{IsPath}
use Rattle.aug_query.proofs.descent.cursor.down_to.Given as goal

abbrev pub invariant-loop-level : goal.invariant-loop-level
invariant-loop-level g l = record {
  most : l.level ≤ l.fn.level;
  name : g.D.Descend.Names l.tree l.level l.place l.node;
  some : 0 < length (keys_below (list_of (g.D.Descend.set_of l.fn.tree)) l.level l.place);
  start : rank_of (list_of (g.D.Descend.set_of l.fn.tree)) (start_of l.fn.order l.level l.place) ≡ rank_of (list_of (g.D.Descend.set_of l.fn.tree)) (start_of l.fn.order l.fn.level l.fn.place);
  path : IsPath (g.D.Descend.Names l.tree) (g.D.Descend.set_of l.fn.tree).bits l.level l.place l.path.items;
  descends : Descends g.D.Descend.set_of g.D.Descend.loads_of g.D.Descend.Names g.D.Descend.KeepsRest (2 * (l.fn.level - l.level)) (l.fn.level - l.level) 0 0 l.fn.tree l.tree;
}

abbrev pub decreases-loop-level : goal.decreases-loop-level
decreases-loop-level g l = l.level
