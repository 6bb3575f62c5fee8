use Rattle.std.proofs.Common.{arith}
use Rattle.aug_query.proofs.Beside.{child_places}
use Rattle.aug_query.proofs.descent.pages.Stretch.second_child.Goals as goal

pub overflow_mul-result : goal.overflow_mul-result
overflow_mul-result g c = omega (arith, child_places c.args.level (g.met.D.Descend.name_stands c.args.tree.now _ _ c.args.node.now c.requires))

pub overflow_mul-result-in-Below : goal.overflow_mul-result-in-Below
overflow_mul-result-in-Below g c = omega (arith, child_places c.args.level (g.met.D.Descend.name_stands c.args.tree.now _ _ c.args.node.now c.requires))

pub overflow_add-result : goal.overflow_add-result
overflow_add-result g c = omega (arith, child_places c.args.level (g.met.D.Descend.name_stands c.args.tree.now _ _ c.args.node.now c.requires))
