use Rattle.std.proofs.Common.{◌≡◌, ◌-◌, ◌/◌, ◌^◌, ◌≤◌}
use Rattle.aug_model.specs.Keys.{list_of}
use Rattle.aug_model.specs.Queries.{rank_of}
use Rattle.aug_model.specs.NodeKeys.{first_key}
use Rattle.aug_query.specs.Descend.{Descends}
use Rattle.aug_query.proofs.descent.cursor.left_of.Given as goal

abbrev pub invariant-loop-level : goal.invariant-loop-level
invariant-loop-level g l = record {
  most : l.level ≤ (g.D.Descend.set_of l.fn.tree).bits;
  rank : rank_of (list_of (g.D.Descend.set_of l.fn.tree)) (first_key l.level (l.key / 2 ^ l.level)) ≡ rank_of (list_of (g.D.Descend.set_of l.fn.tree)) l.key;
  walk : Descends g.D.Descend.set_of g.D.Descend.loads_of g.D.Descend.Names g.D.Descend.KeepsRest l.level l.level 0 0 l.fn.tree l.tree;
}

abbrev pub decreases-loop-level : goal.decreases-loop-level
decreases-loop-level g l = l.bits - l.level
