use Rattle.std.proofs.Common.{◌+◌, ◌*◌, refl, arith, rules}
use Rattle.aug_model.specs.Keys.{list_of}
use Rattle.aug_query.proofs.Choosing.{child_fits, count_of, chosen_left, chosen_right, chosen_within, set_rises}
use Rattle.aug_query.proofs.Descending.{counted, counted_other, within}
use Rattle.aug_query.proofs.descent.positions.child_at.Goals as goal

pub overflow_mul-place : goal.overflow_mul-place
overflow_mul-place g c =
    let node = g.met.D.Descend.name_stands c.args.tree.now _ _ c.args.node.now c.requires.name in
    omega (arith, child_fits (g.D.Descend.set_of c.args.tree.now) (c.args.level + 1) c.args.level c.args.place node.is_tree_set refl node.place_fits)

pub overflow_mul-result : goal.overflow_mul-result
overflow_mul-result g c =
    let node = g.met.D.Descend.name_stands c.args.tree.now _ _ c.args.node.now c.requires.name in
    omega (arith, child_fits (g.D.Descend.set_of c.args.tree.now) (c.args.level + 1) c.args.level c.args.place node.is_tree_set refl node.place_fits)

pub returns-then-i-below-clause-same : goal.returns-then-i-below-clause-same
returns-then-i-below-clause-same g c = chosen_left (list_of (g.D.Descend.set_of c.args.tree.now)) c.args.level c.args.place c.args.i

pub overflow_mul-result-2 : goal.overflow_mul-result-2
overflow_mul-result-2 g c =
    let node = g.met.D.Descend.name_stands c.args.tree.now _ _ c.args.node.now c.requires.name in
    omega (arith, child_fits (g.D.Descend.set_of c.args.tree.now) (c.args.level + 1) c.args.level c.args.place node.is_tree_set refl node.place_fits)

pub overflow_add-result : goal.overflow_add-result
overflow_add-result g c =
    let node = g.met.D.Descend.name_stands c.args.tree.now _ _ c.args.node.now c.requires.name in
    omega (arith, child_fits (g.D.Descend.set_of c.args.tree.now) (c.args.level + 1) c.args.level c.args.place node.is_tree_set refl node.place_fits)

pub returns-clause-within : goal.returns-clause-within
returns-clause-within g c =
    let node = g.met.D.Descend.name_stands c.args.tree.now _ _ c.args.node.now c.requires.name in
    let low = count_of (g.D.Descend.set_of c.args.tree.now) (g.D.Descend.set_of c.left-left.new.self) c.args.level (2 * c.args.place) c.count-below.result c.left-left.ensures.descends.same_set c.count-below.ensures.value in
    chosen_within (list_of (g.D.Descend.set_of c.args.tree.now)) c.args.level c.args.place c.count-below.result c.args.i (set_rises node.is_tree_set) low (omega (arith, c.if-i-below.false)) c.requires.within

pub returns-clause-same : goal.returns-clause-same
returns-clause-same g c =
    let node = g.met.D.Descend.name_stands c.args.tree.now _ _ c.args.node.now c.requires.name in
    let low = count_of (g.D.Descend.set_of c.args.tree.now) (g.D.Descend.set_of c.left-left.new.self) c.args.level (2 * c.args.place) c.count-below.result c.left-left.ensures.descends.same_set c.count-below.ensures.value in
    chosen_right (list_of (g.D.Descend.set_of c.args.tree.now)) c.args.level c.args.place c.count-below.result c.args.i (set_rises node.is_tree_set) low (omega (arith, c.if-i-below.false))

pub returns-then-i-below-clause-child : goal.returns-then-i-below-clause-child
returns-then-i-below-clause-child g c = record { name = search rules; descends = within (counted g.met.D.Descend.keeps_on c.left-left.ensures.descends c.count-below.ensures.descends) (omega arith) (omega arith) (omega arith) (omega arith) }

pub returns-clause-child : goal.returns-clause-child
returns-clause-child g c = record { descends = counted_other g.met.D.Descend.keeps_on c.left-left.ensures.descends c.count-below.ensures.descends c.right.ensures.descends; name = c.right.ensures.name }
