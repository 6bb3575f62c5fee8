use Rattle.std.proofs.Common.{◌≡◌, ◌+◌, ◌-◌, ◌*◌, ◌<◌, ◌≤◌}
use Rattle.aug_model.specs.NodeKeys.{pairs_below}
use Rattle.aug_query.specs.Descend.{Descends}
use Rattle.aug_query.specs.RunningSums.{select_by_weight_of, sum_of_weights}
use Rattle.aug_query.specs.inside.FirstOver.{first_over}
use Rattle.aug_query.proofs.descent.by_weight.SelectByWeightQuerySum.run.Given as goal

abbrev pub invariant-loop-level : goal.invariant-loop-level
invariant-loop-level g l = record {
  most : l.level ≤ (g.D.Descend.set_of l.fn.tree).bits;
  name : g.D.Descend.Names l.tree l.level l.place l.node;
  within : l.rest < sum_of_weights (pairs_below (g.D.Descend.set_of l.fn.tree).pairs l.level l.place);
  same : first_over (pairs_below (g.D.Descend.set_of l.fn.tree).pairs l.level l.place) l.rest ≡ select_by_weight_of (g.D.Descend.set_of l.fn.tree).pairs l.number;
  descends : Descends g.D.Descend.set_of g.D.Descend.loads_of g.D.Descend.Names g.D.Descend.KeepsRest (2 * ((g.D.Descend.set_of l.fn.tree).bits - l.level) + 1) 0 ((g.D.Descend.set_of l.fn.tree).bits - l.level + 1) 0 l.fn.tree l.tree;
}

abbrev pub decreases-loop-level : goal.decreases-loop-level
decreases-loop-level g l = l.level
