use Rattle.std.proofs.Common.{refl, ◌≡◌, ◌+◌, ◌-◌, ◌*◌, ◌/◌, ◌^◌, ◌≤◌, ap, sym, ◌∙◌, subst, arith}
use Rattle.std.proofs.Math.Nat.{le_refl}
use Rattle.aug_model.specs.Folds.{summary_of}
use Rattle.aug_model.specs.Keys.{list_of}
use Rattle.aug_model.specs.Queries.{range_of}
use Rattle.aug_model.proofs.Ranges.{range_none}
use Rattle.aug_query.specs.Tree.{sum_of}
use Rattle.aug_model.specs.NodeKeys.{end_key, keys_below}
use Rattle.aug_query.specs.Descend.{Descends}
use Rattle.aug_query.proofs.Nodes.{leaf_is}
use Rattle.aug_query.proofs.Descending.{further, still}
use Rattle.aug_query.proofs.Inside.{leaf_ends, end_of_high, end_no_later, beside_low, joined_is, joined_few, beside, one_level}
use Rattle.aug_query.proofs.Beside.{child_places}
use Rattle.aug_query.proofs.descent.intervals.from.Goals as goal
use Rattle.aug_query.proofs.descent.intervals.from.Goals.{then-a-level-eq0, else-a-level-eq0}

pub loop-level-init : goal.loop-level-init
loop-level-init g c =
    let whole_sum = summary_of g.A.Monoid.parts g.B.Monoid.parts in
    let set = g.D.Descend.set_of c.args.tree.now in
    record {
      most = le_refl _;
      name = c.requires;
      no_later = le_refl _;
      total = c.of_none-total.ensures ∙ ap (sum_of whole_sum set.pairs) (sym (range_none (list_of set) _ _ (le_refl _)));
      walk = still g.met.D.Descend.keeps_so;
    }

pub joined-total-requires : goal.joined-total-requires
joined-total-requires g c =
    let whole_sum = summary_of g.A.Monoid.parts g.B.Monoid.parts in
    let inv = c.loop-level.invariant in
    let is = (g.met.D.Descend.name_stands c.args.tree.now _ _ c.args.node c.requires).is_tree_set in
    let same = c.right-right.ensures.descends.same_set ∙ inv.walk.same_set in
    let place = 2 * (c.args.a / 2 ^ (c.loop-level.level - 1 + 1)) + 1 in
    let told = c.summary.ensures.value ∙ ap (λ s. sum_of whole_sum s.pairs (keys_below (list_of s) (c.loop-level.level - 1) place)) same in
    joined_few whole_sum is (λ _. refl) _ _ _ _ told inv.total

pub loop-level-preserved : goal.loop-level-preserved
loop-level-preserved g c =
    let whole_sum = summary_of g.A.Monoid.parts g.B.Monoid.parts in
    let set = g.D.Descend.set_of c.args.tree.now in
    let keys = list_of set in
    let sum = sum_of whole_sum set.pairs in
    let inv = c.loop-level.invariant in
    let is = (g.met.D.Descend.name_stands c.args.tree.now _ _ c.args.node c.requires).is_tree_set in
    let a = c.args.a in
    let level = c.loop-level.level - 1 in
    let above : c.loop-level.level ≡ level + 1 = omega (arith, c.loop-level-test.true) in
    let last = end_key c.args.level (a / 2 ^ c.args.level) in
    let cut = end_key level (a / 2 ^ level) in
    let high = end_key (level + 1) (a / 2 ^ (level + 1)) in
    let later : high ≤ last = subst (λ n. end_key n (a / 2 ^ n) ≤ last) above inv.no_later in
    let so_far = inv.total ∙ ap (λ n. sum (range_of keys (end_key n (a / 2 ^ n)) last)) above in
    let total : c.if-a-level-eq0.total ≡ sum (range_of keys cut last) =
    elim c.if-a-level-eq0.branch [
      | then-a-level-eq0 w ↦
          let same = w.right-right.ensures.descends.same_set ∙ inv.walk.same_set in
          let told = w.summary.ensures.value ∙ ap (λ s. sum_of whole_sum s.pairs (keys_below (list_of s) level (2 * (a / 2 ^ (level + 1)) + 1))) same ∙ ap sum (beside_low keys a level w.if-a-level-eq0.true) in
          w.total-is ∙ joined_is is w.joined-total.ensures cut high last (end_no_later a level) later told so_far
      | else-a-level-eq0 w ↦ w.total-is ∙ so_far ∙ ap (λ n. sum (range_of keys n last)) (sym (end_of_high a level w.if-a-level-eq0.false))
    ] in
    let read : Descends g.D.Descend.set_of g.D.Descend.loads_of g.D.Descend.Names g.D.Descend.KeepsRest 1 0 1 0 c.loop-level.tree c.if-a-level-eq0.tree =
    elim c.if-a-level-eq0.branch [
      | then-a-level-eq0 w ↦ subst (λ t. Descends g.D.Descend.set_of g.D.Descend.loads_of g.D.Descend.Names g.D.Descend.KeepsRest 1 0 1 0 c.loop-level.tree t) (sym w.tree-is) (beside g.met.D.Descend.keeps_on w.right-right.ensures.descends w.summary.ensures.descends)
      | else-a-level-eq0 w ↦ subst (λ t. Descends g.D.Descend.set_of g.D.Descend.loads_of g.D.Descend.Names g.D.Descend.KeepsRest 1 0 1 0 c.loop-level.tree t) (sym w.tree-is) (still g.met.D.Descend.keeps_so)
    ] in
    record {
      most = omega (arith, inv.most);
      name = c.toward-node.ensures.name;
      no_later = omega (arith, later, end_no_later a level);
      total = total;
      walk = one_level g.met.D.Descend.keeps_on inv.walk read c.toward-node.ensures.descends c.loop-level-test.true inv.most;
    }

pub joined-requires : goal.joined-requires
joined-requires g c =
    let whole_sum = summary_of g.A.Monoid.parts g.B.Monoid.parts in
    let inv = c.loop-level.invariant in
    let is = (g.met.D.Descend.name_stands c.args.tree.now _ _ c.args.node c.requires).is_tree_set in
    let told = c.summary-2.ensures.value ∙ ap (λ s. sum_of whole_sum s.pairs (keys_below (list_of s) 0 c.args.a)) inv.walk.same_set in
    joined_few whole_sum is (λ _. refl) _ _ _ _ told inv.total

pub returns-clause-answer : goal.returns-clause-answer
returns-clause-answer g c =
    let whole_sum = summary_of g.A.Monoid.parts g.B.Monoid.parts in
    let set = g.D.Descend.set_of c.args.tree.now in
    let keys = list_of set in
    let sum = sum_of whole_sum set.pairs in
    let inv = c.loop-level.invariant in
    let is = (g.met.D.Descend.name_stands c.args.tree.now _ _ c.args.node c.requires).is_tree_set in
    let a = c.args.a in
    let last = end_key c.args.level (a / 2 ^ c.args.level) in
    let next = leaf_ends a c.loop-level.level (omega (arith, c.loop-level-test.false)) in
    let told = c.summary-2.ensures.value ∙ ap (λ s. sum_of whole_sum s.pairs (keys_below (list_of s) 0 a)) inv.walk.same_set ∙ ap sum (leaf_is keys 0 a refl) in
    joined_is is c.joined.ensures a (a + 1) last (omega arith) (omega (arith, next, inv.no_later)) told (inv.total ∙ ap (λ n. sum (range_of keys n last)) next)

pub overflow_shr-a : goal.overflow_shr-a
overflow_shr-a g c =
    let is = (g.met.D.Descend.name_stands c.args.tree.now _ _ c.args.node c.requires) in
    let few = is.is_tree_set.few_bits in
    let fits = is.level_fits in
    omega (arith, few, fits, c.loop-level.invariant.most)

pub overflow_shr-place : goal.overflow_shr-place
overflow_shr-place g c =
    let is = (g.met.D.Descend.name_stands c.args.tree.now _ _ c.args.node c.requires) in
    let few = is.is_tree_set.few_bits in
    let fits = is.level_fits in
    omega (arith, few, fits, c.loop-level.invariant.most)

pub returns-clause-descends : goal.returns-clause-descends
returns-clause-descends g c = further g.met.D.Descend.keeps_on c.loop-level.invariant.walk c.summary-2.ensures.descends (omega (arith, c.loop-level-test.false)) (omega arith) (omega (arith, c.loop-level-test.false)) (omega arith)

pub overflow_mul-place : goal.overflow_mul-place
overflow_mul-place g c =
    let above : c.loop-level.level ≡ c.loop-level.level - 1 + 1 = omega (arith, c.loop-level-test.true) in
    let name = subst (λ n. g.D.Descend.Names c.loop-level.tree n (c.args.a / 2 ^ n) c.loop-level.node) above c.loop-level.invariant.name in
    omega (arith, child_places (c.loop-level.level - 1) (g.met.D.Descend.name_stands c.loop-level.tree _ _ c.loop-level.node name))

pub overflow_add-place-then-a-level-eq0 : goal.overflow_add-place-then-a-level-eq0
overflow_add-place-then-a-level-eq0 g c =
    let above : c.loop-level.level ≡ c.loop-level.level - 1 + 1 = omega (arith, c.loop-level-test.true) in
    let name = subst (λ n. g.D.Descend.Names c.loop-level.tree n (c.args.a / 2 ^ n) c.loop-level.node) above c.loop-level.invariant.name in
    omega (arith, child_places (c.loop-level.level - 1) (g.met.D.Descend.name_stands c.loop-level.tree _ _ c.loop-level.node name))
