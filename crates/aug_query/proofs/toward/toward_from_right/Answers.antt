use Rattle.std.proofs.Common.{◌+◌, ◌/◌, ◌^◌, refl, ap, sym, ◌∙◌, subst, add-zero, rules}
use Rattle.aug_model.specs.Keys.{list_of}
use Rattle.aug_model.specs.Queries.{rank_of}
use Rattle.aug_model.specs.NodeKeys.{end_key}
use Rattle.aug_query.proofs.Nodes.{right_high, members_rise}
use Rattle.aug_query.proofs.Descending.{low_half, high_half, rank_after_left}
use Rattle.aug_query.proofs.toward.toward_from_right.Goals as goal

pub returns-then-k-level-eq0-clause-child : goal.returns-then-k-level-eq0-clause-child
returns-then-k-level-eq0-clause-child g c = record { descends = search rules; name = subst (λ p. g.D.Descend.Names c.past_right.new.self c.args.level p c.past_right.result.0) (low_half c.args.k c.args.level c.if-k-level-eq0.true) c.past_right.ensures.name }

pub returns-then-k-level-eq0-clause-after : goal.returns-then-k-level-eq0-clause-after
returns-then-k-level-eq0-clause-after g c =
    let keys = list_of (g.D.Descend.set_of c.args.tree.now) in
    let node = g.met.D.Descend.name_stands c.args.tree.now _ _ c.args.node.now c.requires in
    ap (λ p. rank_of keys (end_key c.args.level p) + c.past_right.result.1) (sym (low_half c.args.k c.args.level c.if-k-level-eq0.true)) ∙ rank_after_left keys c.args.level (c.args.k / 2 ^ (c.args.level + 1)) c.past_right.result.1 (members_rise node) c.past_right.ensures.count

pub returns-then-k-level-eq0-clause-left : goal.returns-then-k-level-eq0-clause-left
returns-then-k-level-eq0-clause-left g c more = sym (low_half c.args.k c.args.level c.if-k-level-eq0.true)

pub returns-else-k-level-eq0-clause-child : goal.returns-else-k-level-eq0-clause-child
returns-else-k-level-eq0-clause-child g c = record { descends = search rules; name = subst (λ p. g.D.Descend.Names c.right.new.self c.args.level p c.right.result) (high_half c.args.k c.args.level c.if-k-level-eq0.false) c.right.ensures.name }

pub returns-else-k-level-eq0-clause-after : goal.returns-else-k-level-eq0-clause-after
returns-else-k-level-eq0-clause-after g c =
    let keys = list_of (g.D.Descend.set_of c.args.tree.now) in
    let same = ap (λ p. end_key c.args.level p) (sym (high_half c.args.k c.args.level c.if-k-level-eq0.false)) ∙ right_high _ _ _ _ refl refl in
    add-zero _ ∙ ap (rank_of keys) same
