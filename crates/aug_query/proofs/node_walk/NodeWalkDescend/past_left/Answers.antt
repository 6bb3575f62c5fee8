use Rattle.std.proofs.Common.{◌+◌, ◌*◌, ◌≡◌, length, refl, ap, sym, arith}
use Rattle.aug_model.specs.Keys.{list_of}
use Rattle.aug_model.specs.NodeKeys.{keys_below}
use Rattle.aug_query.proofs.Nodes.{of_set, right_leaves, left_covers}
use Rattle.aug_query.proofs.node_walk.NodeWalkDescend.past_left.Goals as goal

-- what the node counts is what the two children do
both : (g : _) (c : goal.After-summary-2 g) → c.summary.result.count ≡ length (keys_below (list_of (g.T.Tree.set_of c.args.self.now.tree.now)) c.args._level (2 * c.args._place)) + c.summary-2.result.count
both g c =
    let keys = list_of (g.T.Tree.set_of c.args.self.now.tree.now) in
    let step = c.right-right.ensures in
    let node = g.met.T.Tree.node_tells c.args.self.now.tree.now c.args.node.now c.requires.has in
    let right = of_set step.walks.same_set (g.met.T.Tree.node_tells c.right-right.new.self c.right-right.result step.node) in
    let place : 2 * c.args._place ≡ 2 * g.T.Tree.place_of c.args.node.now = omega (arith, c.requires.at_place) in
    let covers = ap length (left_covers keys (g.T.Tree.level_of c.args.node.now) (g.T.Tree.place_of c.args.node.now) c.args._level (2 * c.args._place) (sym c.requires.at_level) place) in
    omega (arith, covers, right_leaves (λ _. refl) node right step.level step.place, ap (λ s. s.count) c.summary.ensures, ap (λ s. s.count) c.summary-2.ensures)

pub overflow_sub-passed : goal.overflow_sub-passed
overflow_sub-passed g c = let all = both g c in omega (arith, all)

pub returns-clause-count : goal.returns-clause-count
returns-clause-count g c = let all = both g c in omega (arith, all)
