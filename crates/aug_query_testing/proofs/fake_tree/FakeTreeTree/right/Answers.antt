use Rattle.std.proofs.Common.{◌≡◌, ◌+◌, ◌-◌, ◌*◌, ◌^◌, ap, refl, arith}
use Rattle.aug_query.proofs.Choosing.{child_fits}
use Rattle.aug_query.proofs.Nodes.{right_high}
use Rattle.aug_query_testing.proofs.fake_tree.FakeTreeTree.right.Goals as goal

pub overflow_mul-node : goal.overflow_mul-node
overflow_mul-node g c =
    let node = c.args.node.now in
    let is = c.requires.node.is_node in
    let up : node.level - 1 + 1 ≡ node.level = omega (arith, c.requires.inner) in
    omega (arith, child_fits c.args.self.now.set node.level (node.level - 1) node.place is.is_tree_set up is.place_fits)

pub overflow_add-node : goal.overflow_add-node
overflow_add-node g c =
    let node = c.args.node.now in
    let is = c.requires.node.is_node in
    let up : node.level - 1 + 1 ≡ node.level = omega (arith, c.requires.inner) in
    omega (arith, child_fits c.args.self.now.set node.level (node.level - 1) node.place is.is_tree_set up is.place_fits)

pub node-requires-clause-level : goal.node-requires-clause-level
node-requires-clause-level g c =
    let fits = c.requires.node.is_node.level_fits in
    omega (arith, fits, ap (λ v. v.set.bits) c.self.view_is)

pub node-requires-clause-place : goal.node-requires-clause-place
node-requires-clause-place g c =
    let node = c.args.node.now in
    let fits = c.requires.node.is_node.place_fits in
    let up : node.level - 1 + 1 ≡ node.level = omega (arith, c.requires.inner) in
    let end = right_high node.level node.place (node.level - 1) (2 * node.place + 1) up refl in
    omega (arith, end, fits, ap (λ v. 2 ^ v.set.bits) c.self.view_is)
