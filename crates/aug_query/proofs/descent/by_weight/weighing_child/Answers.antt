use Rattle.std.proofs.Common.{◌+◌, ◌*◌, refl, ap, arith}
use Rattle.aug_query.proofs.Choosing.{child_fits}
use Rattle.aug_query.proofs.Descending.{further}
use Rattle.aug_query.proofs.Weighing.{told, goes_left, goes_right, right_within}
use Rattle.aug_query.proofs.descent.by_weight.weighing_child.Goals as goal

pub overflow_mul-place : goal.overflow_mul-place
overflow_mul-place g c =
    let node = g.met.D.Descend.name_stands c.args.tree.now _ _ c.args.node.now c.requires.name in
    omega (arith, child_fits (g.D.Descend.set_of c.args.tree.now) (c.args.level + 1) c.args.level c.args.place node.is_tree_set refl node.place_fits)

pub overflow_mul-result : goal.overflow_mul-result
overflow_mul-result g c =
    let node = g.met.D.Descend.name_stands c.args.tree.now _ _ c.args.node.now c.requires.name in
    omega (arith, child_fits (g.D.Descend.set_of c.args.tree.now) (c.args.level + 1) c.args.level c.args.place node.is_tree_set refl node.place_fits)

pub returns-then-rest-sum-clause-within : goal.returns-then-rest-sum-clause-within
returns-then-rest-sum-clause-within g c =
    let node = g.met.D.Descend.name_stands c.args.tree.now _ _ c.args.node.now c.requires.name in
    let sum = told (g.D.Descend.set_of c.args.tree.now) (g.D.Descend.set_of c.left-left.new.self) c.args.level (2 * c.args.place) c.value-sum.result c.summary.result.a node.is_tree_set c.left-left.ensures.descends.same_set c.value-sum.ensures (ap (λ s. s.a) c.summary.ensures.value) in
    omega (arith, sum, c.if-rest-sum.true)

pub returns-then-rest-sum-clause-same : goal.returns-then-rest-sum-clause-same
returns-then-rest-sum-clause-same g c =
    let node = g.met.D.Descend.name_stands c.args.tree.now _ _ c.args.node.now c.requires.name in
    let sum = told (g.D.Descend.set_of c.args.tree.now) (g.D.Descend.set_of c.left-left.new.self) c.args.level (2 * c.args.place) c.value-sum.result c.summary.result.a node.is_tree_set c.left-left.ensures.descends.same_set c.value-sum.ensures (ap (λ s. s.a) c.summary.ensures.value) in
    goes_left (g.D.Descend.set_of c.args.tree.now) c.args.level c.args.place c.args.rest c.value-sum.result node.is_tree_set sum (omega (arith, c.if-rest-sum.true))

pub overflow_mul-result-2 : goal.overflow_mul-result-2
overflow_mul-result-2 g c =
    let node = g.met.D.Descend.name_stands c.args.tree.now _ _ c.args.node.now c.requires.name in
    omega (arith, child_fits (g.D.Descend.set_of c.args.tree.now) (c.args.level + 1) c.args.level c.args.place node.is_tree_set refl node.place_fits)

pub overflow_add-result : goal.overflow_add-result
overflow_add-result g c =
    let node = g.met.D.Descend.name_stands c.args.tree.now _ _ c.args.node.now c.requires.name in
    omega (arith, child_fits (g.D.Descend.set_of c.args.tree.now) (c.args.level + 1) c.args.level c.args.place node.is_tree_set refl node.place_fits)

pub returns-clause-within : goal.returns-clause-within
returns-clause-within g c =
    let node = g.met.D.Descend.name_stands c.args.tree.now _ _ c.args.node.now c.requires.name in
    let sum = told (g.D.Descend.set_of c.args.tree.now) (g.D.Descend.set_of c.left-left.new.self) c.args.level (2 * c.args.place) c.value-sum.result c.summary.result.a node.is_tree_set c.left-left.ensures.descends.same_set c.value-sum.ensures (ap (λ s. s.a) c.summary.ensures.value) in
    right_within (g.D.Descend.set_of c.args.tree.now) c.args.level c.args.place c.args.rest c.value-sum.result node.is_tree_set sum (omega (arith, c.if-rest-sum.false)) c.requires.within

pub returns-clause-same : goal.returns-clause-same
returns-clause-same g c =
    let node = g.met.D.Descend.name_stands c.args.tree.now _ _ c.args.node.now c.requires.name in
    let sum = told (g.D.Descend.set_of c.args.tree.now) (g.D.Descend.set_of c.left-left.new.self) c.args.level (2 * c.args.place) c.value-sum.result c.summary.result.a node.is_tree_set c.left-left.ensures.descends.same_set c.value-sum.ensures (ap (λ s. s.a) c.summary.ensures.value) in
    goes_right (g.D.Descend.set_of c.args.tree.now) c.args.level c.args.place c.args.rest c.value-sum.result node.is_tree_set sum (omega (arith, c.if-rest-sum.false))

pub returns-then-rest-sum-clause-child : goal.returns-then-rest-sum-clause-child
returns-then-rest-sum-clause-child g c = record {
  descends = further g.met.D.Descend.keeps_on c.left-left.ensures.descends c.summary.ensures.descends (omega arith) (omega arith) (omega arith) (omega arith);
  name = c.summary.ensures.descends.keeps_names _ _ _ c.left-left.ensures.name;
}

pub returns-clause-child : goal.returns-clause-child
returns-clause-child g c =
    let on = g.met.D.Descend.keeps_on in
    let sum = further {j = 1} {k = 0} {l = 1} {o = 0} on c.left-left.ensures.descends c.summary.ensures.descends (omega arith) (omega arith) (omega arith) (omega arith) in
    record { descends = further on sum c.right.ensures.descends (omega arith) (omega arith) (omega arith) (omega arith); name = c.right.ensures.name }
