use Rattle.std.proofs.Common.{refl, ◌≡◌, ◌+◌, ◌-◌, ◌/◌, ◌^◌, ap, sym, ◌∙◌, subst, min, arith}
use Rattle.std.proofs.Math.Nat.{le_of_lt}
use Rattle.aug_model.specs.Folds.{summary_of}
use Rattle.aug_model.specs.Keys.{list_of}
use Rattle.aug_model.specs.Queries.{range_of}
use Rattle.aug_model.proofs.Ranges.{range_none}
use Rattle.aug_query.specs.Tree.{sum_of}
use Rattle.aug_model.specs.NodeKeys.{first_key, end_key, keys_below}
use Rattle.aug_query.proofs.Nodes.{of_set, members_rise, few_keys, wrapped_width}
use Rattle.aug_query.proofs.Descending.{key_first, key_end}
use Rattle.aug_query.proofs.Inside.{part_left, part_right, part_between, whole_node, joined_is, joined_few, both_ways, asked_is, no_leaf}
use Rattle.aug_query.proofs.Descending.{further, still}
use Rattle.aug_query.proofs.descent.intervals.RangeQuery.run.Goals as goal

pub returns-then-b-a-clause-answer : goal.returns-then-b-a-clause-answer
returns-then-b-a-clause-answer g c =
    let whole_sum = summary_of g.A.Monoid.parts g.B.Monoid.parts in
    let set = g.D.Descend.set_of c.args.tree.now in
    let b = c.min-b.result in
    c.of_none.ensures ∙ ap (sum_of whole_sum set.pairs) (sym (range_none (list_of set) c.args.self.0 b c.if-b-a.true)) ∙ asked_is whole_sum c.universe.ensures.set c.args.self.0 c.args.self.1 b (c.min-b.ensures ∙ ap (min c.args.self.1) c.universe.ensures.value)

pub returns-then-b-a-2-clause-answer : goal.returns-then-b-a-2-clause-answer
returns-then-b-a-2-clause-answer g c =
    let whole_sum = summary_of g.A.Monoid.parts g.B.Monoid.parts in
    let set = g.D.Descend.set_of c.args.tree.now in
    let keys = list_of set in
    let a = c.args.self.0 in
    let b = c.min-b.result in
    let level = c.spanning-level.result.0 in
    let same = c.spanning-level.ensures.node.descends.same_set in
    let node = of_set same (g.met.D.Descend.name_stands c.spanning-level.new.tree _ _ c.spanning-level.result.1 c.spanning-level.ensures.node.name) in
    let wide : b - a ≡ 2 ^ level = c.if-b-a-2.true ∙ wrapped_width level level (a / 2 ^ level) refl (few_keys node) in
    c.summary.ensures.value ∙ ap (λ s. sum_of whole_sum s.pairs (keys_below (list_of s) level (a / 2 ^ level))) same
    ∙ ap (sum_of whole_sum set.pairs) (whole_node keys a b level (members_rise node) c.if-b-a.false c.spanning-level.ensures.both wide) ∙ asked_is whole_sum c.universe.ensures.set a c.args.self.1 b (c.min-b.ensures ∙ ap (min c.args.self.1) c.universe.ensures.value)

pub from-low-requires : goal.from-low-requires
from-low-requires g c =
    let a = c.args.self.0 in
    let z = c.min-b.result - 1 in
    let span = c.spanning-level.ensures in
    let level = c.spanning-level.result.0 - 1 in
    let inner = no_leaf a c.min-b.result c.spanning-level.result.0 c.if-b-a.false span.both c.if-b-a-2.false in
    let above : c.spanning-level.result.0 ≡ level + 1 = omega (arith, inner) in
    let both = subst (λ n. a / 2 ^ n ≡ z / 2 ^ n) above span.both in
    subst (λ p. g.D.Descend.Names c.left-left.new.self level p c.left-left.result) (part_left a z level both (span.lowest inner)) c.left-left.ensures.name

pub until-high-requires : goal.until-high-requires
until-high-requires g c =
    let a = c.args.self.0 in
    let z = c.min-b.result - 1 in
    let span = c.spanning-level.ensures in
    let level = c.spanning-level.result.0 - 1 in
    let inner = no_leaf a c.min-b.result c.spanning-level.result.0 c.if-b-a.false span.both c.if-b-a-2.false in
    let above : c.spanning-level.result.0 ≡ level + 1 = omega (arith, inner) in
    let both = subst (λ n. a / 2 ^ n ≡ z / 2 ^ n) above span.both in
    subst (λ p. g.D.Descend.Names c.right-right.new.self level p c.right-right.result) (part_right a z level both (span.lowest inner)) c.right-right.ensures.name

pub joined-requires : goal.joined-requires
joined-requires g c =
    let whole_sum = summary_of g.A.Monoid.parts g.B.Monoid.parts in
    let a = c.args.self.0 in
    let z = c.min-b.result - 1 in
    let level = c.spanning-level.result.0 - 1 in
    let same = c.left-left.ensures.descends.same_set ∙ c.spanning-level.ensures.node.descends.same_set in
    let next = c.right-right.ensures.descends.same_set ∙ c.from-low.ensures.descends.same_set ∙ same in
    let low = c.from-low.ensures.answer ∙ ap (λ s. sum_of whole_sum s.pairs (range_of (list_of s) a (end_key level (a / 2 ^ level)))) same in
    let high = c.until-high.ensures.answer ∙ ap (λ s. sum_of whole_sum s.pairs (range_of (list_of s) (first_key level (z / 2 ^ level)) (z + 1))) next in
    joined_few whole_sum c.universe.ensures.set (λ _. refl) _ _ _ _ low high

pub returns-clause-answer : goal.returns-clause-answer
returns-clause-answer g c =
    let whole_sum = summary_of g.A.Monoid.parts g.B.Monoid.parts in
    let set = g.D.Descend.set_of c.args.tree.now in
    let keys = list_of set in
    let sum = sum_of whole_sum set.pairs in
    let a = c.args.self.0 in
    let b = c.min-b.result in
    let z = b - 1 in
    let span = c.spanning-level.ensures in
    let level = c.spanning-level.result.0 - 1 in
    let inner = no_leaf a b c.spanning-level.result.0 c.if-b-a.false span.both c.if-b-a-2.false in
    let above : c.spanning-level.result.0 ≡ level + 1 = omega (arith, inner) in
    let both = subst (λ n. a / 2 ^ n ≡ z / 2 ^ n) above span.both in
    let middle = end_key level (a / 2 ^ level) in
    let meet = part_between a z level both (span.lowest inner) in
    let last : z + 1 ≡ b = omega (arith, c.if-b-a.false) in
    let same = c.left-left.ensures.descends.same_set ∙ span.node.descends.same_set in
    let next = c.right-right.ensures.descends.same_set ∙ c.from-low.ensures.descends.same_set ∙ same in
    let low = c.from-low.ensures.answer ∙ ap (λ s. sum_of whole_sum s.pairs (range_of (list_of s) a middle)) same in
    let high = c.until-high.ensures.answer ∙ ap (λ s. sum_of whole_sum s.pairs (range_of (list_of s) (first_key level (z / 2 ^ level)) (z + 1))) next ∙ ap (λ x. sum (range_of keys x (z + 1))) (sym meet) ∙ ap (λ x. sum (range_of keys middle x)) last in
    joined_is c.universe.ensures.set c.joined.ensures a middle b (le_of_lt (key_end a level)) (omega (arith, meet, key_first z level, last)) low high ∙ asked_is whole_sum c.universe.ensures.set a c.args.self.1 b (c.min-b.ensures ∙ ap (min c.args.self.1) c.universe.ensures.value)

pub returns-clause-descends : goal.returns-clause-descends
returns-clause-descends g c =
    let span = c.spanning-level.ensures in
    let inner = no_leaf c.args.self.0 c.min-b.result c.spanning-level.result.0 c.if-b-a.false span.both c.if-b-a-2.false in
    let node = of_set span.node.descends.same_set (g.met.D.Descend.name_stands c.spanning-level.new.tree _ _ c.spanning-level.result.1 span.node.name) in
    both_ways g.met.D.Descend.keeps_on span.node.descends c.left-left.ensures.descends c.from-low.ensures.descends c.right-right.ensures.descends c.until-high.ensures.descends inner node.level_fits

pub overflow_shl-level : goal.overflow_shl-level
overflow_shl-level g c =
    let node = g.met.D.Descend.name_stands c.spanning-level.new.tree _ _ c.spanning-level.result.1 c.spanning-level.ensures.node.name in
    let few = node.is_tree_set.few_bits in
    let fits = node.level_fits in
    omega (arith, few, fits)

pub overflow_shr-a : goal.overflow_shr-a
overflow_shr-a g c =
    let node = g.met.D.Descend.name_stands c.spanning-level.new.tree _ _ c.spanning-level.result.1 c.spanning-level.ensures.node.name in
    let few = node.is_tree_set.few_bits in
    let fits = node.level_fits in
    omega (arith, few, fits)

pub overflow_shr-place : goal.overflow_shr-place
overflow_shr-place g c =
    let node = g.met.D.Descend.name_stands c.spanning-level.new.tree _ _ c.spanning-level.result.1 c.spanning-level.ensures.node.name in
    let few = node.is_tree_set.few_bits in
    let fits = node.level_fits in
    omega (arith, few, fits)

pub returns-then-b-a-clause-descends : goal.returns-then-b-a-clause-descends
returns-then-b-a-clause-descends g c = still g.met.D.Descend.keeps_so

pub returns-then-b-a-2-clause-descends : goal.returns-then-b-a-2-clause-descends
returns-then-b-a-2-clause-descends g c =
    let some = c.universe.ensures.set.some_bits in
    further g.met.D.Descend.keeps_on c.spanning-level.ensures.node.descends c.summary.ensures.descends (omega (arith, some)) (omega arith) (omega (arith, some)) (omega arith)

pub overflow_sub-level : goal.overflow_sub-level
overflow_sub-level g c = no_leaf c.args.self.0 c.min-b.result c.spanning-level.result.0 c.if-b-a.false c.spanning-level.ensures.both c.if-b-a-2.false
