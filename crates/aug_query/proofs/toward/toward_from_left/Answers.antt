use Rattle.std.proofs.Common.{◌+◌, ◌/◌, ◌^◌, refl, ap, sym, ◌∙◌, subst, add-zero, rules}
use Rattle.aug_model.specs.Keys.{list_of}
use Rattle.aug_model.specs.Queries.{rank_of}
use Rattle.aug_model.specs.NodeKeys.{first_key}
use Rattle.aug_query.proofs.Nodes.{left_low, members_rise}
use Rattle.aug_query.proofs.Descending.{low_half, high_half, rank_before_right}
use Rattle.aug_query.proofs.toward.toward_from_left.Goals as goal

pub returns-then-k-level-eq0-clause-child : goal.returns-then-k-level-eq0-clause-child
returns-then-k-level-eq0-clause-child g c = record { descends = search rules; name = subst (λ p. g.D.Descend.Names c.left.new.self c.args.level p c.left.result) (low_half c.args.k c.args.level c.if-k-level-eq0.true) c.left.ensures.name }

pub returns-then-k-level-eq0-clause-before : goal.returns-then-k-level-eq0-clause-before
returns-then-k-level-eq0-clause-before g c =
    let keys = list_of (g.D.Descend.set_of c.args.tree.now) in
    let same = ap (λ p. first_key c.args.level p) (sym (low_half c.args.k c.args.level c.if-k-level-eq0.true)) ∙ left_low _ _ _ _ refl refl in
    ap (rank_of keys) same ∙ sym (add-zero _)

pub returns-else-k-level-eq0-clause-child : goal.returns-else-k-level-eq0-clause-child
returns-else-k-level-eq0-clause-child g c = record { descends = search rules; name = subst (λ p. g.D.Descend.Names c.past_left.new.self c.args.level p c.past_left.result.0) (high_half c.args.k c.args.level c.if-k-level-eq0.false) c.past_left.ensures.name }

pub returns-else-k-level-eq0-clause-before : goal.returns-else-k-level-eq0-clause-before
returns-else-k-level-eq0-clause-before g c =
    let keys = list_of (g.D.Descend.set_of c.args.tree.now) in
    let node = g.met.D.Descend.name_stands c.args.tree.now _ _ c.args.node.now c.requires in
    ap (λ p. rank_of keys (first_key c.args.level p)) (sym (high_half c.args.k c.args.level c.if-k-level-eq0.false)) ∙ rank_before_right keys c.args.level (c.args.k / 2 ^ (c.args.level + 1)) c.past_left.result.1 (members_rise node) c.past_left.ensures.count

pub returns-else-k-level-eq0-clause-right : goal.returns-else-k-level-eq0-clause-right
returns-else-k-level-eq0-clause-right g c more = sym (high_half c.args.k c.args.level c.if-k-level-eq0.false)
