use Rattle.std.proofs.Common.{ℕ, ◌+◌, ◌-◌, ◌*◌, ◌≤◌, length, vec_len, vec_capacity, ap, sym, ◌∙◌, refl, arith}
use Rattle.aug_model.specs.Keys.{SetFacts, list_of}
use Rattle.aug_model.specs.Queries.{weight_in}
use Rattle.aug_model.specs.NodeKeys.{keys_below}
use Rattle.aug_query.proofs.Choosing.{child_fits, count_of, left_few, right_count, leaf_below_one, listed_leaf, listed_left, listed_both, left_descends, both_descend}
use Rattle.aug_query.proofs.Listed.{no_part}
use Rattle.aug_query.proofs.Descending.{still}
use Rattle.aug_query.proofs.descent.listing.+list_members.Goals as goal

pub returns-then-level-eq0-clause-answer : goal.returns-then-level-eq0-clause-answer
returns-then-level-eq0-clause-answer g t c =
    let node = g.met.D.Descend.name_stands c.args.tree.now _ _ c.args.node.now c.requires.node.name in
    listed_leaf g.E.Element.element_of (g.D.Descend.set_of c.args.tree.now) c.args.level c.args.place c.args.count c.weight.result c.of_member.result c.args.list.now.items c.push_reserved.new.self.items
    node.is_tree_set c.if-level-eq0.true c.requires.node.count c.if-count-eq0.false c.weight.ensures c.of_member.ensures c.push_reserved.ensures.items

pub returns-then-level-eq0-clause-length : goal.returns-then-level-eq0-clause-length
returns-then-level-eq0-clause-length g t c =
    let node = g.met.D.Descend.name_stands c.args.tree.now _ _ c.args.node.now c.requires.node.name in
    let one = leaf_below_one (g.D.Descend.set_of c.args.tree.now) c.args.level c.args.place c.args.count node.is_tree_set c.if-level-eq0.true c.requires.node.count c.if-count-eq0.false in
    omega (arith, c.push_reserved.ensures.len, c.requires.node.count, ap length one)

pub overflow_mul-place : goal.overflow_mul-place
overflow_mul-place g t c =
    let node = g.met.D.Descend.name_stands c.args.tree.now _ _ c.args.node.now c.requires.node.name in
    omega (arith, child_fits (g.D.Descend.set_of c.args.tree.now) c.args.level (c.args.level - 1) c.args.place node.is_tree_set (omega (arith, c.if-level-eq0.false)) node.place_fits)

pub overflow_mul-place-2 : goal.overflow_mul-place-2
overflow_mul-place-2 g t c =
    let node = g.met.D.Descend.name_stands c.args.tree.now _ _ c.args.node.now c.requires.node.name in
    omega (arith, child_fits (g.D.Descend.set_of c.args.tree.now) c.args.level (c.args.level - 1) c.args.place node.is_tree_set (omega (arith, c.if-level-eq0.false)) node.place_fits)

pub list_members-requires : goal.list_members-requires
list_members-requires g t c κs lives =
    let set = g.D.Descend.set_of c.args.tree.now in
    let node = g.met.D.Descend.name_stands c.args.tree.now _ _ c.args.node.now c.requires.node.name in
    let few = left_few set (g.D.Descend.set_of c.left-left.new.self) c.args.level (c.args.level - 1) c.args.place c.args.count c.count-below.result node.is_tree_set (omega (arith, c.if-level-eq0.false)) c.left-left.ensures.descends.same_set c.requires.node.count c.count-below.ensures.value in
    let name = c.count-below.ensures.descends.keeps_names _ _ _ c.left-left.ensures.name in
    let count = count_of (g.D.Descend.set_of c.count-below.new.self) (g.D.Descend.set_of c.left-left.new.self) (c.args.level - 1) (2 * c.args.place) c.count-below.result (sym c.count-below.ensures.descends.same_set) c.count-below.ensures.value in
    let room : vec_len c.args.list.now + c.count-below.result ≤ vec_capacity c.args.list.now = omega (arith, c.requires.room, few) in
    (omega (arith, c.decreases, c.if-level-eq0.false), (lives.0, (lives.1.0, (lives.1.1.0, (lives.1.1.1.0, (lives.1.1.1.1, (record { name = name; count = count }, room)))))))

pub overflow_mul-place-then-below-count : goal.overflow_mul-place-then-below-count
overflow_mul-place-then-below-count g t c =
    let node = g.met.D.Descend.name_stands c.args.tree.now _ _ c.args.node.now c.requires.node.name in
    omega (arith, child_fits (g.D.Descend.set_of c.args.tree.now) c.args.level (c.args.level - 1) c.args.place node.is_tree_set (omega (arith, c.if-level-eq0.false)) node.place_fits)

pub overflow_add-place : goal.overflow_add-place
overflow_add-place g t c =
    let node = g.met.D.Descend.name_stands c.args.tree.now _ _ c.args.node.now c.requires.node.name in
    omega (arith, child_fits (g.D.Descend.set_of c.args.tree.now) c.args.level (c.args.level - 1) c.args.place node.is_tree_set (omega (arith, c.if-level-eq0.false)) node.place_fits)

pub list_members-requires-then-below-count : goal.list_members-requires-then-below-count
list_members-requires-then-below-count g t c κs lives =
    let set = g.D.Descend.set_of c.args.tree.now in
    let node = g.met.D.Descend.name_stands c.args.tree.now _ _ c.args.node.now c.requires.node.name in
    let same = c.right-right.ensures.descends.same_set ∙ c.list_members.ensures.descends.same_set ∙ c.count-below.ensures.descends.same_set ∙ c.left-left.ensures.descends.same_set in
    let count = right_count set (g.D.Descend.set_of c.left-left.new.self) (g.D.Descend.set_of c.right-right.new.self) c.args.level (c.args.level - 1) c.args.place c.args.count c.count-below.result node.is_tree_set (omega (arith, c.if-level-eq0.false)) c.left-left.ensures.descends.same_set same c.requires.node.count c.count-below.ensures.value in
    let room : vec_len c.list_members.new.list + (c.args.count - c.count-below.result) ≤ vec_capacity c.list_members.new.list = omega (arith, c.requires.room, c.list_members.ensures.length, c.list_members.ensures.room, c.if-below-count.true) in
    (omega (arith, c.decreases, c.if-level-eq0.false), (lives.0, (lives.1.0, (lives.1.1.0, (lives.1.1.1.0, (lives.1.1.1.1, (record { name = c.right-right.ensures.name; count = count }, room)))))))

pub returns-then-below-count-clause-answer : goal.returns-then-below-count-clause-answer
returns-then-below-count-clause-answer g t c =
    let node = g.met.D.Descend.name_stands c.args.tree.now _ _ c.args.node.now c.requires.node.name in
    let low = c.count-below.ensures.descends.same_set ∙ c.left-left.ensures.descends.same_set in
    let high = c.right-right.ensures.descends.same_set ∙ c.list_members.ensures.descends.same_set ∙ low in
    listed_both g.E.Element.element_of (g.D.Descend.set_of c.args.tree.now) (g.D.Descend.set_of c.count-below.new.self) (g.D.Descend.set_of c.right-right.new.self) c.args.level (c.args.level - 1) c.args.place c.args.list.now.items c.list_members.new.list.items c.list_members-then-below-count.new.list.items
    node.is_tree_set (omega (arith, c.if-level-eq0.false)) low high c.list_members.ensures.answer c.list_members-then-below-count.ensures.answer

pub returns-then-below-count-clause-descends : goal.returns-then-below-count-clause-descends
returns-then-below-count-clause-descends g t c =
    both_descend g.met.D.Descend.keeps_on c.args.level (c.args.level - 1) c.args.count c.count-below.result (c.args.count - c.count-below.result) (omega (arith, c.if-level-eq0.false)) (omega (arith, c.if-below-count.true)) (omega (arith, c.if-count-eq0.false))
    c.left-left.ensures.descends c.count-below.ensures.descends c.list_members.ensures.descends c.right-right.ensures.descends c.list_members-then-below-count.ensures.descends

pub returns-clause-answer : goal.returns-clause-answer
returns-clause-answer g t c =
    let node = g.met.D.Descend.name_stands c.args.tree.now _ _ c.args.node.now c.requires.node.name in
    let low = c.count-below.ensures.descends.same_set ∙ c.left-left.ensures.descends.same_set in
    let count = count_of (g.D.Descend.set_of c.count-below.new.self) (g.D.Descend.set_of c.left-left.new.self) (c.args.level - 1) (2 * c.args.place) c.count-below.result (sym c.count-below.ensures.descends.same_set) c.count-below.ensures.value in
    listed_left g.E.Element.element_of (g.D.Descend.set_of c.args.tree.now) (g.D.Descend.set_of c.count-below.new.self) c.args.level (c.args.level - 1) c.args.place c.args.count c.count-below.result c.args.list.now.items c.list_members.new.list.items
    node.is_tree_set (omega (arith, c.if-level-eq0.false)) low c.requires.node.count count (omega (arith, c.if-below-count.false)) c.list_members.ensures.answer

pub returns-clause-length : goal.returns-clause-length
returns-clause-length g t c =
    let node = g.met.D.Descend.name_stands c.args.tree.now _ _ c.args.node.now c.requires.node.name in
    let few = left_few (g.D.Descend.set_of c.args.tree.now) (g.D.Descend.set_of c.left-left.new.self) c.args.level (c.args.level - 1) c.args.place c.args.count c.count-below.result node.is_tree_set (omega (arith, c.if-level-eq0.false)) c.left-left.ensures.descends.same_set c.requires.node.count c.count-below.ensures.value in
    omega (arith, c.list_members.ensures.length, c.if-below-count.false, few)

pub returns-clause-descends : goal.returns-clause-descends
returns-clause-descends g t c =
    let node = g.met.D.Descend.name_stands c.args.tree.now _ _ c.args.node.now c.requires.node.name in
    let few = left_few (g.D.Descend.set_of c.args.tree.now) (g.D.Descend.set_of c.left-left.new.self) c.args.level (c.args.level - 1) c.args.place c.args.count c.count-below.result node.is_tree_set (omega (arith, c.if-level-eq0.false)) c.left-left.ensures.descends.same_set c.requires.node.count c.count-below.ensures.value in
    left_descends g.met.D.Descend.keeps_on c.args.level (c.args.level - 1) c.args.count c.count-below.result (omega (arith, c.if-level-eq0.false)) (omega (arith, c.if-below-count.false, few)) (omega (arith, c.if-count-eq0.false))
    c.left-left.ensures.descends c.count-below.ensures.descends c.list_members.ensures.descends

pub returns-then-count-eq0-clause-answer : goal.returns-then-count-eq0-clause-answer
returns-then-count-eq0-clause-answer g t c =
    let set = g.D.Descend.set_of c.args.tree.now in
    no_part (λ (s : SetFacts) (k : ℕ). g.E.Element.element_of k (weight_in s.pairs k)) set (keys_below (list_of set) c.args.level c.args.place) _ _ (sym c.requires.node.count ∙ c.if-count-eq0.true) refl

pub returns-then-count-eq0-clause-descends : goal.returns-then-count-eq0-clause-descends
returns-then-count-eq0-clause-descends g t c = still g.met.D.Descend.keeps_so

pub returns-then-level-eq0-clause-descends : goal.returns-then-level-eq0-clause-descends
returns-then-level-eq0-clause-descends g t c = still g.met.D.Descend.keeps_so
