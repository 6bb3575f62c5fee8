use Rattle.std.proofs.Common.{refl, arith}
use Rattle.aug_query.proofs.Ways.{leaf_weighs, leaf_weighs_none}
use Rattle.aug_query.proofs.descent.members.weight_of_leaf.Goals as goal

pub returns-then-count-eq0-clause-answer : goal.returns-then-count-eq0-clause-answer
returns-then-count-eq0-clause-answer g c =
    let leaf = g.met.D.Descend.name_stands c.args.tree.now 0 c.args.k c.args.leaf.now c.requires in
    leaf_weighs_none c.args.k c.count.result (λ _. refl) leaf refl c.count.ensures.value c.if-count-eq0.true

pub returns-clause-answer : goal.returns-clause-answer
returns-clause-answer g c =
    let leaf = g.met.D.Descend.name_stands c.args.tree.now 0 c.args.k c.args.leaf.now c.requires in
    leaf_weighs c.args.k c.count.result (λ _. refl) leaf refl c.count.ensures.value _ c.weight.result (omega (arith, c.if-count-eq0.false)) c.count.ensures.descends.same_set c.weight.ensures
