use Rattle.std.proofs.Common.{◌+◌, ◌-◌, ◌*◌, ◌≤◌}
use Rattle.aug_query.specs.Descend.{Descends}
use Rattle.aug_batch.specs.inside.Together.{AreWays}
use Rattle.aug_batch.proofs.together.answer_four.Given as goal

abbrev pub invariant-loop-level : goal.invariant-loop-level
invariant-loop-level g l = record {
  most : l.level + 1 ≤ (g.D.Descend.set_of l.fn.tree).bits;
  ways : AreWays g.D.Descend.set_of g.D.Descend.Names g.Q.ByKey.Counts l.tree (l.level + 1) l.p l.q l.r l.s l.ways;
  walk : Descends g.D.Descend.set_of g.D.Descend.loads_of g.D.Descend.Names g.D.Descend.KeepsRest (4 * ((g.D.Descend.set_of l.fn.tree).bits - l.level)) 0 0 (4 * (g.Q.ByKey.passed * ((g.D.Descend.set_of l.fn.tree).bits - (l.level + 1)))) l.fn.tree l.tree;
}

abbrev pub decreases-loop-level : goal.decreases-loop-level
decreases-loop-level g l = l.level
