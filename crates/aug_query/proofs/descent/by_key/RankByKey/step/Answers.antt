use Rattle.std.proofs.Common.{◌≡◌, ◌+◌, ◌/◌, ◌^◌, refl, subst, arith}
use Rattle.aug_model.specs.Keys.{list_of}
use Rattle.aug_model.specs.Queries.{rank_of}
use Rattle.aug_model.specs.NodeKeys.{first_key}
use Rattle.aug_query.proofs.Nodes.{members_rise}
use Rattle.aug_query.proofs.Descending.{side_place, side_rank}
use Rattle.aug_query.proofs.Ways.{ranks_few}
use Rattle.aug_query.proofs.descent.by_key.RankByKey.step.Goals as goal

-- what was counted and what is passed come before the child
counted : (g : _) (c : goal.After-child_past-child g) → c.args.counted + c.child_past-child.result.1 ≡ rank_of (list_of (g.D.Descend.set_of c.args.tree.now)) (first_key c.args.level (c.args.k / 2 ^ c.args.level))
counted g c =
    let node = g.met.D.Descend.name_stands c.args.tree.now _ _ c.args.node.now c.requires.name in
    side_rank (list_of (g.D.Descend.set_of c.args.tree.now)) c.args.k c.args.level c.args.counted c.child_past-child.result.1 _ (members_rise node) refl c.requires.counted c.child_past-child.ensures.count

pub overflow_add-result : goal.overflow_add-result
overflow_add-result g c =
    let node = g.met.D.Descend.name_stands c.args.tree.now _ _ c.args.node.now c.requires.name in
    let all = counted g c in
    omega (arith, all, ranks_few node.is_tree_set (first_key c.args.level (c.args.k / 2 ^ c.args.level)))

pub returns-clause-name : goal.returns-clause-name
returns-clause-name g c = subst (λ p. g.D.Descend.Names c.child_past-child.new.self c.args.level p c.child_past-child.result.0) (side_place c.args.k c.args.level _ refl) c.child_past-child.ensures.name

pub returns-clause-counted : goal.returns-clause-counted
returns-clause-counted g c = counted g c
