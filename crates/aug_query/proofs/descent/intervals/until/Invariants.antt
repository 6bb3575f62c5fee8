use Rattle.std.proofs.Common.{◌≡◌, ◌-◌, ◌*◌, ◌/◌, ◌^◌, ◌≤◌}
use Rattle.aug_model.specs.Folds.{summary_of}
use Rattle.aug_model.specs.Keys.{list_of}
use Rattle.aug_model.specs.Queries.{range_of}
use Rattle.aug_query.specs.Tree.{sum_of}
use Rattle.aug_model.specs.NodeKeys.{first_key}
use Rattle.aug_query.specs.Descend.{Descends}
use Rattle.aug_query.proofs.descent.intervals.until.Given as goal

abbrev pub invariant-loop-level : goal.invariant-loop-level
invariant-loop-level g l = record {
  most : l.level ≤ l.fn.level;
  name : g.D.Descend.Names l.tree l.level (l.z / 2 ^ l.level) l.node;
  no_earlier : first_key l.fn.level (l.z / 2 ^ l.fn.level) ≤ first_key l.level (l.z / 2 ^ l.level);
  total : l.total ≡ sum_of (summary_of g.A.Monoid.parts g.B.Monoid.parts) (g.D.Descend.set_of l.fn.tree).pairs (range_of (list_of (g.D.Descend.set_of l.fn.tree)) (first_key l.fn.level (l.z / 2 ^ l.fn.level)) (first_key l.level (l.z / 2 ^ l.level)));
  walk : Descends g.D.Descend.set_of g.D.Descend.loads_of g.D.Descend.Names g.D.Descend.KeepsRest (2 * (l.fn.level - l.level)) 0 (l.fn.level - l.level) 0 l.fn.tree l.tree;
}

abbrev pub decreases-loop-level : goal.decreases-loop-level
decreases-loop-level g l = l.level
