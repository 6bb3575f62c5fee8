use Rattle.std.proofs.Common.{arith}
use Rattle.aug_query.proofs.Ways.{ranks_few, pair_rank}
use Rattle.aug_query.proofs.descent.by_key.RankByKey.end.Goals as goal

pub overflow_add-result : goal.overflow_add-result
overflow_add-result g c =
    let node = g.met.D.Descend.name_stands c.args.tree.now _ _ c.args.node.now c.requires.name in
    let all = pair_rank c.args.k c.args.counted c.count-first.result node.is_tree_set c.left-leaf.ensures.descends.same_set c.if-k-eq1.true c.requires.counted c.count-first.ensures.value in
    omega (arith, all, ranks_few node.is_tree_set c.args.k)

pub returns-then-k-eq1-clause-answer : goal.returns-then-k-eq1-clause-answer
returns-then-k-eq1-clause-answer g c =
    let node = g.met.D.Descend.name_stands c.args.tree.now _ _ c.args.node.now c.requires.name in
    pair_rank c.args.k c.args.counted c.count-first.result node.is_tree_set c.left-leaf.ensures.descends.same_set c.if-k-eq1.true c.requires.counted c.count-first.ensures.value
