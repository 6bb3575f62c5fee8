use Rattle.std.proofs.Common.{◌≡◌, ◌+◌, ◌*◌, length, refl, ap, arith}
use Rattle.aug_model.specs.Keys.{list_of}
use Rattle.aug_model.specs.Queries.{rank_of}
use Rattle.aug_model.specs.NodeKeys.{first_key, end_key, keys_below}
use Rattle.aug_query.proofs.Nodes.{members_rise, left_low, right_high}
use Rattle.aug_query.proofs.Beside.{child_places, first_left, first_right, last_right, last_left, children_add}
use Rattle.aug_query.proofs.InOrder.{same_so, start_so}
use Rattle.aug_query.proofs.Descending.{rank_before_right, rank_after_left}
use Rattle.aug_query.proofs.descent.neighbours.nearest_child.Goals as goal

pub overflow_mul-place : goal.overflow_mul-place
overflow_mul-place g c = omega (arith, child_places c.args.level (g.met.D.Descend.name_stands c.args.tree.now _ _ c.args.node.now c.requires.name))

pub overflow_add-place : goal.overflow_add-place
overflow_add-place g c = omega (arith, child_places c.args.level (g.met.D.Descend.name_stands c.args.tree.now _ _ c.args.node.now c.requires.name))

pub overflow_mul-place-in-Falling : goal.overflow_mul-place-in-Falling
overflow_mul-place-in-Falling g c = omega (arith, child_places c.args.level (g.met.D.Descend.name_stands c.args.tree.now _ _ c.args.node.now c.requires.name))

pub overflow_mul-result : goal.overflow_mul-result
overflow_mul-result g c = omega (arith, child_places c.args.level (g.met.D.Descend.name_stands c.args.tree.now _ _ c.args.node.now c.requires.name))

pub overflow_add-result : goal.overflow_add-result
overflow_add-result g c = omega (arith, child_places c.args.level (g.met.D.Descend.name_stands c.args.tree.now _ _ c.args.node.now c.requires.name))

pub overflow_mul-result-then-count-gt0-2 : goal.overflow_mul-result-then-count-gt0-2
overflow_mul-result-then-count-gt0-2 g c = omega (arith, child_places c.args.level (g.met.D.Descend.name_stands c.args.tree.now _ _ c.args.node.now c.requires.name))

pub overflow_add-result-then-count-gt0-2 : goal.overflow_add-result-then-count-gt0-2
overflow_add-result-then-count-gt0-2 g c = omega (arith, child_places c.args.level (g.met.D.Descend.name_stands c.args.tree.now _ _ c.args.node.now c.requires.name))

pub overflow_mul-result-in-Rising : goal.overflow_mul-result-in-Rising
overflow_mul-result-in-Rising g c = omega (arith, child_places c.args.level (g.met.D.Descend.name_stands c.args.tree.now _ _ c.args.node.now c.requires.name))

pub overflow_mul-result-in-Falling : goal.overflow_mul-result-in-Falling
overflow_mul-result-in-Falling g c = omega (arith, child_places c.args.level (g.met.D.Descend.name_stands c.args.tree.now _ _ c.args.node.now c.requires.name))

pub returns-then-count-gt0-clause-same : goal.returns-then-count-gt0-clause-same
returns-then-count-gt0-clause-same g c =
    let node = g.met.D.Descend.name_stands c.args.tree.now _ _ c.args.node.now c.requires.name in
    let keys = list_of (g.D.Descend.set_of c.args.tree.now) in
    let same = ap (λ s. length (keys_below (list_of s) c.args.level (2 * c.args.place))) c.left-left.ensures.descends.same_set in
    same_so c.in-Rising.is (keys_below keys c.args.level (2 * c.args.place)) (keys_below keys (c.args.level + 1) c.args.place) (first_left keys c.args.level c.args.place (members_rise node) (omega (arith, c.if-count-gt0.true, c.count.ensures.value, same)))

pub returns-else-count-gt0-clause-some : goal.returns-else-count-gt0-clause-some
returns-else-count-gt0-clause-some g c =
    let node = g.met.D.Descend.name_stands c.args.tree.now _ _ c.args.node.now c.requires.name in
    let same = ap (λ s. length (keys_below (list_of s) c.args.level (2 * c.args.place))) c.left-left.ensures.descends.same_set in
    omega (arith, c.requires.some, c.if-count-gt0.false, c.count.ensures.value, same, children_add _ c.args.level c.args.place (members_rise node))

pub returns-else-count-gt0-clause-same : goal.returns-else-count-gt0-clause-same
returns-else-count-gt0-clause-same g c =
    let node = g.met.D.Descend.name_stands c.args.tree.now _ _ c.args.node.now c.requires.name in
    let keys = list_of (g.D.Descend.set_of c.args.tree.now) in
    let same = ap (λ s. length (keys_below (list_of s) c.args.level (2 * c.args.place))) c.left-left.ensures.descends.same_set in
    same_so c.in-Rising.is (keys_below keys c.args.level (2 * c.args.place + 1)) (keys_below keys (c.args.level + 1) c.args.place) (first_right keys c.args.level c.args.place (members_rise node) (omega (arith, c.if-count-gt0.false, c.count.ensures.value, same)))

pub returns-then-count-gt0-clause-start : goal.returns-then-count-gt0-clause-start
returns-then-count-gt0-clause-start g c =
    let keys = list_of (g.D.Descend.set_of c.args.tree.now) in
    start_so c.in-Rising.is keys c.args.level (2 * c.args.place) (c.args.level + 1) c.args.place (ap (rank_of keys) (left_low (c.args.level + 1) c.args.place c.args.level (2 * c.args.place) refl refl))

pub returns-else-count-gt0-clause-start : goal.returns-else-count-gt0-clause-start
returns-else-count-gt0-clause-start g c =
    let node = g.met.D.Descend.name_stands c.args.tree.now _ _ c.args.node.now c.requires.name in
    let keys = list_of (g.D.Descend.set_of c.args.tree.now) in
    let same = ap (λ s. length (keys_below (list_of s) c.args.level (2 * c.args.place))) c.left-left.ensures.descends.same_set in
    let at : rank_of keys (first_key c.args.level (2 * c.args.place + 1)) ≡ rank_of keys (first_key (c.args.level + 1) c.args.place) = omega (arith, rank_before_right keys c.args.level c.args.place 0 (members_rise node) (omega (arith, c.if-count-gt0.false, c.count.ensures.value, same))) in
    start_so c.in-Rising.is keys c.args.level (2 * c.args.place + 1) (c.args.level + 1) c.args.place at

pub returns-then-count-gt0-2-clause-same : goal.returns-then-count-gt0-2-clause-same
returns-then-count-gt0-2-clause-same g c =
    let node = g.met.D.Descend.name_stands c.args.tree.now _ _ c.args.node.now c.requires.name in
    let keys = list_of (g.D.Descend.set_of c.args.tree.now) in
    let same = ap (λ s. length (keys_below (list_of s) c.args.level (2 * c.args.place + 1))) c.right-right.ensures.descends.same_set in
    same_so c.in-Falling.is (keys_below keys c.args.level (2 * c.args.place + 1)) (keys_below keys (c.args.level + 1) c.args.place) (last_right keys c.args.level c.args.place (members_rise node) (omega (arith, c.if-count-gt0-2.true, c.count-in-Falling.ensures.value, same)))

pub returns-else-count-gt0-2-clause-some : goal.returns-else-count-gt0-2-clause-some
returns-else-count-gt0-2-clause-some g c =
    let node = g.met.D.Descend.name_stands c.args.tree.now _ _ c.args.node.now c.requires.name in
    let same = ap (λ s. length (keys_below (list_of s) c.args.level (2 * c.args.place + 1))) c.right-right.ensures.descends.same_set in
    omega (arith, c.requires.some, c.if-count-gt0-2.false, c.count-in-Falling.ensures.value, same, children_add _ c.args.level c.args.place (members_rise node))

pub returns-else-count-gt0-2-clause-same : goal.returns-else-count-gt0-2-clause-same
returns-else-count-gt0-2-clause-same g c =
    let node = g.met.D.Descend.name_stands c.args.tree.now _ _ c.args.node.now c.requires.name in
    let keys = list_of (g.D.Descend.set_of c.args.tree.now) in
    let same = ap (λ s. length (keys_below (list_of s) c.args.level (2 * c.args.place + 1))) c.right-right.ensures.descends.same_set in
    same_so c.in-Falling.is (keys_below keys c.args.level (2 * c.args.place)) (keys_below keys (c.args.level + 1) c.args.place) (last_left keys c.args.level c.args.place (members_rise node) (omega (arith, c.if-count-gt0-2.false, c.count-in-Falling.ensures.value, same)))

pub returns-then-count-gt0-2-clause-start : goal.returns-then-count-gt0-2-clause-start
returns-then-count-gt0-2-clause-start g c =
    let keys = list_of (g.D.Descend.set_of c.args.tree.now) in
    start_so c.in-Falling.is keys c.args.level (2 * c.args.place + 1) (c.args.level + 1) c.args.place (ap (rank_of keys) (right_high (c.args.level + 1) c.args.place c.args.level (2 * c.args.place + 1) refl refl))

pub returns-else-count-gt0-2-clause-start : goal.returns-else-count-gt0-2-clause-start
returns-else-count-gt0-2-clause-start g c =
    let node = g.met.D.Descend.name_stands c.args.tree.now _ _ c.args.node.now c.requires.name in
    let keys = list_of (g.D.Descend.set_of c.args.tree.now) in
    let same = ap (λ s. length (keys_below (list_of s) c.args.level (2 * c.args.place + 1))) c.right-right.ensures.descends.same_set in
    let at : rank_of keys (end_key c.args.level (2 * c.args.place)) ≡ rank_of keys (end_key (c.args.level + 1) c.args.place) = omega (arith, rank_after_left keys c.args.level c.args.place 0 (members_rise node) (omega (arith, c.if-count-gt0-2.false, c.count-in-Falling.ensures.value, same))) in
    start_so c.in-Falling.is keys c.args.level (2 * c.args.place) (c.args.level + 1) c.args.place at
