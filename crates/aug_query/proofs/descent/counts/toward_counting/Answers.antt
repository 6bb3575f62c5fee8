use Rattle.std.proofs.Common.{◌≡◌, ◌+◌, ◌/◌, ◌^◌, refl, ap, sym, ◌∙◌, subst, arith, rules}
use Rattle.aug_model.specs.Keys.{list_of}
use Rattle.aug_model.specs.Queries.{rank_of}
use Rattle.aug_model.specs.NodeKeys.{first_key}
use Rattle.aug_query.proofs.Nodes.{left_low, members_rise}
use Rattle.aug_query.proofs.Descending.{low_half, high_half, rank_before_right}
use Rattle.aug_query.proofs.Ways.{ranks_few}
use Rattle.aug_query.proofs.descent.counts.toward_counting.Goals as goal

pub returns-then-k-level-eq0-clause-child : goal.returns-then-k-level-eq0-clause-child
returns-then-k-level-eq0-clause-child g c = record { descends = search rules; name = subst (λ p. g.D.Descend.Names c.left.new.self c.args.level p c.left.result) (low_half c.args.k c.args.level c.if-k-level-eq0.true) c.left.ensures.name }

pub returns-then-k-level-eq0-clause-counted : goal.returns-then-k-level-eq0-clause-counted
returns-then-k-level-eq0-clause-counted g c =
    let keys = list_of (g.D.Descend.set_of c.args.tree.now) in
    let same = ap (λ p. first_key c.args.level p) (sym (low_half c.args.k c.args.level c.if-k-level-eq0.true)) ∙ left_low _ _ _ _ refl refl in
    c.requires.counted ∙ sym (ap (rank_of keys) same)

pub returns-else-k-level-eq0-clause-child : goal.returns-else-k-level-eq0-clause-child
returns-else-k-level-eq0-clause-child g c = record { descends = search rules; name = subst (λ p. g.D.Descend.Names c.past_left-right.new.self c.args.level p c.past_left-right.result.0) (high_half c.args.k c.args.level c.if-k-level-eq0.false) c.past_left-right.ensures.name }

-- the members before the right child are those before the node and those that were passed
counted : (g : _) (c : goal.After-past_left-right g) → c.args.below + c.past_left-right.result.1 ≡ rank_of (list_of (g.D.Descend.set_of c.args.tree.now)) (first_key c.args.level (c.args.k / 2 ^ c.args.level))
counted g c =
    let keys = list_of (g.D.Descend.set_of c.args.tree.now) in
    let node = g.met.D.Descend.name_stands c.args.tree.now _ _ c.args.node.now c.requires.name in
    let is = ap (λ p. rank_of keys (first_key c.args.level p)) (sym (high_half c.args.k c.args.level c.if-k-level-eq0.false)) ∙ rank_before_right keys c.args.level (c.args.k / 2 ^ (c.args.level + 1)) c.past_left-right.result.1 (members_rise node) c.past_left-right.ensures.count in
    omega (arith, c.requires.counted, is)

pub returns-else-k-level-eq0-clause-counted : goal.returns-else-k-level-eq0-clause-counted
returns-else-k-level-eq0-clause-counted g c = counted g c

pub overflow_add-result : goal.overflow_add-result
overflow_add-result g c =
    let node = g.met.D.Descend.name_stands c.args.tree.now _ _ c.args.node.now c.requires.name in
    let all = counted g c in
    omega (arith, all, ranks_few node.is_tree_set (first_key c.args.level (c.args.k / 2 ^ c.args.level)))
