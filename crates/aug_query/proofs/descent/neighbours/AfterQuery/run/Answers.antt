use Rattle.std.proofs.Common.{◌≡◌, ◌+◌, ◌-◌, ◌*◌, ◌/◌, ◌^◌, ◌<◌, Some, length, ap, sym, ◌∙◌, subst, arith}
use Rattle.aug_model.specs.Keys.{list_of}
use Rattle.aug_model.specs.Queries.{rank_of, after_of, first_of}
use Rattle.aug_model.specs.NodeKeys.{end_key, keys_below}
use Rattle.aug_model.proofs.Ranges.{all_below_from}
use Rattle.aug_query.proofs.Orders.{rank_past}
use Rattle.aug_query.proofs.Nodes.{of_set, members_rise, members_below, top_end}
use Rattle.aug_query.proofs.Descending.{further, still, within, key_end}
use Rattle.aug_query.proofs.Passing.{KeepsAfter, keeps_after, right_ahead, after_past, after_none, after_ends}
use Rattle.aug_query.proofs.Beside.{at_top, past_leaf, told_is}
use Rattle.aug_query.proofs.descent.neighbours.AfterQuery.run.Goals as goal

pub returns-then-universe-k-clause-answer : goal.returns-then-universe-k-clause-answer
returns-then-universe-k-clause-answer g c = sym (after_past _ c.args.self.0 _ (all_below_from _ _ c.universe.ensures.set.is_key_set.below) (omega (arith, c.if-universe-k.true, c.universe.ensures.value)))

pub loop-level-init : goal.loop-level-init
loop-level-init g c =
    let bits = c.bits-level.ensures.value in
    let set = c.bits-level.ensures.set in
    let place = at_top c.args.self.0 c.bits-level.result c.universe.result c.if-universe-k.false (c.universe.ensures.value ∙ ap (λ n. 2 ^ n) (sym bits)) in
    record {
      most = omega (arith, bits);
      name = subst (λ p. g.D.Descend.Names c.top-node.new.self c.bits-level.result p c.top-node.result) (sym place) (subst (λ n. g.D.Descend.Names c.top-node.new.self n 0 c.top-node.result) (sym bits) c.top-node.ensures.name);
      kept = rank_past _ _ _ (all_below_from _ _ set.is_key_set.below) (omega (arith, top_end c.bits-level.result (c.args.self.0 / 2 ^ c.bits-level.result) _ bits place));
      descends = within c.top-node.ensures.descends (omega (arith, bits)) (omega arith) (omega arith) (omega arith);
    }

pub toward_from_right-child-requires : goal.toward_from_right-child-requires
toward_from_right-child-requires g c =
    let above : c.loop-level.level ≡ c.loop-level.level - 1 + 1 = omega (arith, c.loop-level-test.true) in
    subst (λ n. g.D.Descend.Names c.loop-level.tree n (c.args.self.0 / 2 ^ n) c.loop-level.node) above c.loop-level.invariant.name

pub loop-level-preserved-then-after-gt0 : goal.loop-level-preserved-then-after-gt0
loop-level-preserved-then-after-gt0 g c =
    let inv = c.loop-level.invariant in
    let child = c.toward_from_right-child in
    let node = of_set inv.descends.same_set (g.met.D.Descend.name_stands c.loop-level.tree _ _ c.loop-level.node inv.name) in
    let above : c.loop-level.level ≡ c.loop-level.level - 1 + 1 = omega (arith, c.loop-level-test.true) in
    let name = subst (λ n. g.D.Descend.Names c.loop-level.tree n (c.args.self.0 / 2 ^ n) c.loop-level.node) above inv.name in
    let counted = subst (λ s. rank_of (list_of s) (end_key (c.loop-level.level - 1) (c.args.self.0 / 2 ^ (c.loop-level.level - 1))) + child.result.1 ≡ rank_of (list_of s) (end_key (c.loop-level.level - 1 + 1) (c.args.self.0 / 2 ^ (c.loop-level.level - 1 + 1)))) inv.descends.same_set child.ensures.after in
    record {
      most = omega (arith, inv.most);
      name = child.ensures.child.name;
      kept = (
        child.ensures.child.descends.keeps_names _ _ c.loop-level.node name,
        right_ahead _ c.args.self.0 (c.loop-level.level - 1) child.result.1 (members_rise node) (child.ensures.left c.if-after-gt0.true) counted c.if-after-gt0.true,
      );
      descends = further g.met.D.Descend.keeps_on inv.descends child.ensures.child.descends (omega (arith, inv.most, c.loop-level-test.true)) (omega arith) (omega arith) (omega (arith, inv.most, c.loop-level-test.true));
    }

pub loop-level-preserved : goal.loop-level-preserved
loop-level-preserved g c =
    let inv = c.loop-level.invariant in
    let child = c.toward_from_right-child in
    let above : c.loop-level.level - 1 + 1 ≡ c.loop-level.level = omega (arith, c.loop-level-test.true) in
    let counted = subst (λ s. rank_of (list_of s) (end_key (c.loop-level.level - 1) (c.args.self.0 / 2 ^ (c.loop-level.level - 1))) + child.result.1 ≡ rank_of (list_of s) (end_key (c.loop-level.level - 1 + 1) (c.args.self.0 / 2 ^ (c.loop-level.level - 1 + 1)))) inv.descends.same_set child.ensures.after in
    let here = ap (λ n. rank_of (list_of (g.D.Descend.set_of c.args.tree.now)) (end_key n (c.args.self.0 / 2 ^ n))) above in
    record {
      most = omega (arith, inv.most);
      name = child.ensures.child.name;
      kept = keeps_after (list_of (g.D.Descend.set_of c.args.tree.now)) c.args.self.0 (end_key c.loop-level.level (c.args.self.0 / 2 ^ c.loop-level.level)) (end_key (c.loop-level.level - 1) (c.args.self.0 / 2 ^ (c.loop-level.level - 1))) c.loop-level.parent child.ensures.child.descends.keeps_names (omega (arith, counted, here, c.if-after-gt0.false)) inv.kept;
      descends = further g.met.D.Descend.keeps_on inv.descends child.ensures.child.descends (omega (arith, inv.most, c.loop-level-test.true)) (omega arith) (omega arith) (omega (arith, inv.most, c.loop-level-test.true));
    }

pub returns-in_err-level-clause-answer : goal.returns-in_err-level-clause-answer
returns-in_err-level-clause-answer g c =
    let inv = c.loop-level.invariant in
    let keys = list_of (g.D.Descend.set_of c.args.tree.now) in
    let kept = subst (KeepsAfter (g.D.Descend.Names c.loop-level.tree) keys c.args.self.0 (end_key c.loop-level.level (c.args.self.0 / 2 ^ c.loop-level.level))) c.in_err-level.was inv.kept in
    let node = of_set inv.descends.same_set (g.met.D.Descend.name_stands c.loop-level.tree _ _ c.loop-level.node inv.name) in
    let below : c.args.self.0 < 2 ^ (g.D.Descend.set_of c.args.tree.now).bits = omega (arith, key_end c.args.self.0 c.loop-level.level, node.place_fits) in
    c.from_residual.ensures ∙ sym (after_none keys c.args.self.0 _ (members_rise node) (members_below node) below (sym (ap (rank_of keys) (past_leaf c.args.self.0 c.loop-level.level (omega (arith, c.loop-level-test.false)))) ∙ kept))

pub returns-in_err-level-clause-descends : goal.returns-in_err-level-clause-descends
returns-in_err-level-clause-descends g c =
    let some = c.bits-level.ensures.set.some_bits in
    within c.loop-level.invariant.descends (omega (arith, some)) (omega arith) (omega arith) (omega arith)

pub overflow_add-place : goal.overflow_add-place
overflow_add-place g c =
    let inv = c.loop-level.invariant in
    let kept = subst (KeepsAfter (g.D.Descend.Names c.loop-level.tree) (list_of (g.D.Descend.set_of c.args.tree.now)) c.args.self.0 (end_key c.loop-level.level (c.args.self.0 / 2 ^ c.loop-level.level))) c.in_ok-level.was inv.kept in
    let node = g.met.D.Descend.name_stands c.loop-level.tree _ _ c.in_ok-level.node kept.0 in
    let few = node.is_tree_set.few_bits in
    let fits = node.level_fits in
    omega (arith, few, fits)

pub overflow_shr-place : goal.overflow_shr-place
overflow_shr-place g c =
    let inv = c.loop-level.invariant in
    let kept = subst (KeepsAfter (g.D.Descend.Names c.loop-level.tree) (list_of (g.D.Descend.set_of c.args.tree.now)) c.args.self.0 (end_key c.loop-level.level (c.args.self.0 / 2 ^ c.loop-level.level))) c.in_ok-level.was inv.kept in
    let node = g.met.D.Descend.name_stands c.loop-level.tree _ _ c.in_ok-level.node kept.0 in
    let few = node.is_tree_set.few_bits in
    let fits = node.level_fits in
    omega (arith, few, fits)

pub right-right-requires : goal.right-right-requires
right-right-requires g c =
    let kept = subst (KeepsAfter (g.D.Descend.Names c.loop-level.tree) (list_of (g.D.Descend.set_of c.args.tree.now)) c.args.self.0 (end_key c.loop-level.level (c.args.self.0 / 2 ^ c.loop-level.level))) c.in_ok-level.was c.loop-level.invariant.kept in
    kept.0

pub nearest-requires-clause-some : goal.nearest-requires-clause-some
nearest-requires-clause-some g c =
    let inv = c.loop-level.invariant in
    let kept = subst (KeepsAfter (g.D.Descend.Names c.loop-level.tree) (list_of (g.D.Descend.set_of c.args.tree.now)) c.args.self.0 (end_key c.loop-level.level (c.args.self.0 / 2 ^ c.loop-level.level))) c.in_ok-level.was inv.kept in
    let same = ap (λ s. length (keys_below (list_of s) c.in_ok-level.level (2 * (c.args.self.0 / 2 ^ (c.in_ok-level.level + 1)) + 1))) (c.right-right.ensures.descends.same_set ∙ inv.descends.same_set) in
    omega (arith, kept.1.some, same)

pub returns-clause-answer : goal.returns-clause-answer
returns-clause-answer g c =
    let inv = c.loop-level.invariant in
    let keys = list_of (g.D.Descend.set_of c.args.tree.now) in
    let kept = subst (KeepsAfter (g.D.Descend.Names c.loop-level.tree) keys c.args.self.0 (end_key c.loop-level.level (c.args.self.0 / 2 ^ c.loop-level.level))) c.in_ok-level.was inv.kept in
    let node = of_set inv.descends.same_set (g.met.D.Descend.name_stands c.loop-level.tree _ _ c.loop-level.node inv.name) in
    let leaf = ap (rank_of keys) (past_leaf c.args.self.0 c.loop-level.level (omega (arith, c.loop-level-test.false))) in
    let child = of_set (c.right-right.ensures.descends.same_set ∙ inv.descends.same_set) (g.met.D.Descend.name_stands c.right-right.new.self _ _ c.right-right.result c.right-right.ensures.name) in
    let ends = after_ends keys c.args.self.0 _ _ c.in_ok-level.level (2 * (c.args.self.0 / 2 ^ (c.in_ok-level.level + 1)) + 1) (members_rise node) (members_below node) kept.1 leaf child.place_fits in
    let same = c.right-right.ensures.descends.same_set ∙ inv.descends.same_set in
    told_is first_of (Some c.nearest.result) (after_of keys c.args.self.0) c.in_ok-level.level (2 * (c.args.self.0 / 2 ^ (c.in_ok-level.level + 1)) + 1) same c.nearest.ensures.answer ends

pub returns-clause-descends : goal.returns-clause-descends
returns-clause-descends g c =
    let inv = c.loop-level.invariant in
    let kept = subst (KeepsAfter (g.D.Descend.Names c.loop-level.tree) (list_of (g.D.Descend.set_of c.args.tree.now)) c.args.self.0 (end_key c.loop-level.level (c.args.self.0 / 2 ^ c.loop-level.level))) c.in_ok-level.was inv.kept in
    let node = of_set inv.descends.same_set (g.met.D.Descend.name_stands c.loop-level.tree _ _ c.in_ok-level.node kept.0) in
    let fits = node.level_fits in
    let bits = (g.D.Descend.set_of c.args.tree.now).bits in
    let to_right = further {j = bits + 2} {k = 0} {l = 0} {o = bits} g.met.D.Descend.keeps_on inv.descends c.right-right.ensures.descends (omega arith) (omega arith) (omega arith) (omega arith) in
    further {new = c.nearest.new.tree} g.met.D.Descend.keeps_on to_right c.nearest.ensures.descends (omega (arith, fits)) (omega (arith, fits)) (omega arith) (omega arith)

pub returns-then-universe-k-clause-descends : goal.returns-then-universe-k-clause-descends
returns-then-universe-k-clause-descends g c = still g.met.D.Descend.keeps_so
