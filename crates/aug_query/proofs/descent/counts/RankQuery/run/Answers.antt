use Rattle.std.proofs.Common.{◌≡◌, ◌≤◌, ◌<◌, ◌/◌, ◌^◌, ◌+◌, ◌-◌, ap, sym, ◌∙◌, subst, arith}
use Rattle.aug_model.specs.Keys.{list_of}
use Rattle.aug_model.specs.Queries.{rank_of}
use Rattle.aug_model.specs.NodeKeys.{first_key}
use Rattle.aug_model.proofs.Ranges.{all_below_from}
use Rattle.aug_query.specs.Descend.{Descends}
use Rattle.aug_query.proofs.Orders.{rank_past}
use Rattle.aug_query.proofs.Descending.{within, further, counted}
use Rattle.aug_query.proofs.Ways.{top_place, top_rank, ranks_few, even_rank, odd_rank}
use Rattle.aug_query.proofs.descent.counts.RankQuery.run.Goals as goal
use Rattle.aug_query.proofs.descent.counts.RankQuery.run.Goals.{then-k-eq1, else-k-eq1}

pub returns-then-universe-k-clause-answer : goal.returns-then-universe-k-clause-answer
returns-then-universe-k-clause-answer g c =
    let below = all_below_from _ _ c.universe.ensures.set.is_key_set.below in
    c.run.ensures.answer ∙ sym (rank_past _ c.args.self.0 _ below (omega arith))

pub loop-level-init : goal.loop-level-init
loop-level-init g c =
    let bits : c.bits-level.result - 1 + 1 ≡ (g.D.Descend.set_of c.args.tree.now).bits = omega (arith, c.bits-level.ensures.value, c.universe.ensures.set.some_bits) in
    let under : c.args.self.0 < 2 ^ (g.D.Descend.set_of c.args.tree.now).bits = omega (arith, c.universe.ensures.value, c.if-universe-k.false) in
    let start = subst (λ l. g.D.Descend.Names c.top-node.new.self l 0 c.top-node.result) (sym bits) c.top-node.ensures.name in
    record {
      most = omega (arith, bits);
      node = subst (λ p. g.D.Descend.Names c.top-node.new.self (c.bits-level.result - 1 + 1) p c.top-node.result) (top_place c.args.self.0 _ _ bits under) start;
      below = top_rank _ c.args.self.0 _ _ bits under;
      walk = within c.top-node.ensures.descends (omega (arith, bits)) (omega arith) (omega arith) (omega arith);
    }

pub toward_counting-child-requires-clause-counted : goal.toward_counting-child-requires-clause-counted
toward_counting-child-requires-clause-counted g c =
    let inv = c.loop-level.invariant in
    inv.below ∙ ap (λ s. rank_of (list_of s) (first_key (c.loop-level.level + 1) (c.args.self.0 / 2 ^ (c.loop-level.level + 1)))) (sym inv.walk.same_set)

pub loop-level-preserved : goal.loop-level-preserved
loop-level-preserved g c =
    let inv = c.loop-level.invariant in
    let step = c.toward_counting-child.ensures in
    let level = c.loop-level.level in
    let some : 1 ≤ level = omega (arith, c.loop-level-test.true) in
    let down : level - 1 + 1 ≡ level = omega (arith, some) in
    let below = step.counted ∙ ap (λ s. rank_of (list_of s) (first_key level (c.args.self.0 / 2 ^ level))) inv.walk.same_set in
    record {
      most = omega (arith, inv.most, some);
      node = subst (λ l. g.D.Descend.Names c.toward_counting-child.new.tree l (c.args.self.0 / 2 ^ l) c.toward_counting-child.result.0) (sym down) step.child.name;
      below = subst (λ l. c.toward_counting-child.result.1 ≡ rank_of (list_of (g.D.Descend.set_of c.args.tree.now)) (first_key l (c.args.self.0 / 2 ^ l))) (sym down) below;
      walk = further g.met.D.Descend.keeps_on inv.walk step.child.descends (omega (arith, inv.most, some)) (omega arith) (omega arith) (omega (arith, inv.most, some));
    }

pub overflow_add-below : goal.overflow_add-below
overflow_add-below g c =
    let inv = c.loop-level.invariant in
    let same = c.left-leaf.ensures.descends.same_set ∙ inv.walk.same_set in
    let one : c.loop-level.level + 1 ≡ 1 = omega (arith, c.loop-level-test.false) in
    let whole = odd_rank c.args.self.0 (c.loop-level.level + 1) c.loop-level.below c.count-below.result c.universe.ensures.set same one c.if-k-eq1.true inv.below c.count-below.ensures.value in
    omega (arith, whole, ranks_few c.universe.ensures.set c.args.self.0)

pub returns-clause-answer : goal.returns-clause-answer
returns-clause-answer g c =
    let inv = c.loop-level.invariant in
    let one : c.loop-level.level + 1 ≡ 1 = omega (arith, c.loop-level-test.false) in
    elim c.if-k-eq1.branch [
      | then-k-eq1 w ↦ w.below-is ∙ odd_rank c.args.self.0 (c.loop-level.level + 1) c.loop-level.below w.count-below.result c.universe.ensures.set (w.left-leaf.ensures.descends.same_set ∙ inv.walk.same_set) one w.if-k-eq1.true inv.below w.count-below.ensures.value
      | else-k-eq1 w ↦ w.below-is ∙ even_rank (list_of (g.D.Descend.set_of c.args.tree.now)) c.args.self.0 (c.loop-level.level + 1) c.loop-level.below one w.if-k-eq1.false inv.below
    ]

pub returns-then-universe-k-clause-descends : goal.returns-then-universe-k-clause-descends
returns-then-universe-k-clause-descends g c = within c.run.ensures.descends (omega arith) (omega arith) (omega arith) (omega arith)

pub returns-clause-descends : goal.returns-clause-descends
returns-clause-descends g c =
    let inv = c.loop-level.invariant in
    elim c.if-k-eq1.branch [
      | then-k-eq1 w ↦ subst (λ tree. Descends g.D.Descend.set_of g.D.Descend.loads_of g.D.Descend.Names g.D.Descend.KeepsRest ((g.D.Descend.set_of c.args.tree.now).bits + 1) 1 0 (g.D.Descend.set_of c.args.tree.now).bits c.args.tree.now tree) (sym w.tree-is) (further g.met.D.Descend.keeps_on inv.walk (counted g.met.D.Descend.keeps_on w.left-leaf.ensures.descends w.count-below.ensures.descends) (omega (arith, c.loop-level-test.false)) (omega arith) (omega arith) (omega arith))
      | else-k-eq1 w ↦ subst (λ tree. Descends g.D.Descend.set_of g.D.Descend.loads_of g.D.Descend.Names g.D.Descend.KeepsRest ((g.D.Descend.set_of c.args.tree.now).bits + 1) 1 0 (g.D.Descend.set_of c.args.tree.now).bits c.args.tree.now tree) (sym w.tree-is) (within inv.walk (omega arith) (omega arith) (omega arith) (omega arith))
    ]
