use Rattle.std.proofs.Common.{refl, ◌≡◌, ◌≢◌, ◌+◌, ◌-◌, ◌*◌, ◌/◌, ◌%◌, ◌^◌, ◌≤◌, ap, sym, ◌∙◌, subst, arith}
use Rattle.std.proofs.Math.Nat.{le_refl}
use Rattle.aug_model.specs.Folds.{summary_of}
use Rattle.aug_model.specs.Keys.{list_of}
use Rattle.aug_model.specs.Queries.{range_of}
use Rattle.aug_model.proofs.Ranges.{range_none}
use Rattle.aug_query.specs.Tree.{sum_of}
use Rattle.aug_model.specs.NodeKeys.{first_key, keys_below}
use Rattle.aug_query.specs.Descend.{Descends}
use Rattle.aug_query.proofs.Nodes.{leaf_is}
use Rattle.aug_query.proofs.Descending.{further, still}
use Rattle.aug_query.proofs.Inside.{leaf_begins, first_of_low, first_no_earlier, beside_high, joined_is, joined_few, beside, one_level}
use Rattle.aug_query.proofs.Beside.{child_places}
use Rattle.aug_query.proofs.descent.intervals.until.Goals as goal
use Rattle.aug_query.proofs.descent.intervals.until.Goals.{then-z-level-eq1, else-z-level-eq1}

pub loop-level-init : goal.loop-level-init
loop-level-init g c =
    let whole_sum = summary_of g.A.Monoid.parts g.B.Monoid.parts in
    let set = g.D.Descend.set_of c.args.tree.now in
    record {
      most = le_refl _;
      name = c.requires;
      no_earlier = le_refl _;
      total = c.of_none-total.ensures ∙ ap (sum_of whole_sum set.pairs) (sym (range_none (list_of set) _ _ (le_refl _)));
      walk = still g.met.D.Descend.keeps_so;
    }

pub joined-total-requires : goal.joined-total-requires
joined-total-requires g c =
    let whole_sum = summary_of g.A.Monoid.parts g.B.Monoid.parts in
    let inv = c.loop-level.invariant in
    let is = (g.met.D.Descend.name_stands c.args.tree.now _ _ c.args.node c.requires).is_tree_set in
    let same = c.left-left.ensures.descends.same_set ∙ inv.walk.same_set in
    let place = 2 * (c.args.z / 2 ^ (c.loop-level.level - 1 + 1)) in
    let told = c.summary.ensures.value ∙ ap (λ s. sum_of whole_sum s.pairs (keys_below (list_of s) (c.loop-level.level - 1) place)) same in
    joined_few whole_sum is (λ _. refl) _ _ _ _ inv.total told

pub loop-level-preserved : goal.loop-level-preserved
loop-level-preserved g c =
    let whole_sum = summary_of g.A.Monoid.parts g.B.Monoid.parts in
    let set = g.D.Descend.set_of c.args.tree.now in
    let keys = list_of set in
    let sum = sum_of whole_sum set.pairs in
    let inv = c.loop-level.invariant in
    let is = (g.met.D.Descend.name_stands c.args.tree.now _ _ c.args.node c.requires).is_tree_set in
    let z = c.args.z in
    let level = c.loop-level.level - 1 in
    let above : c.loop-level.level ≡ level + 1 = omega (arith, c.loop-level-test.true) in
    let start = first_key c.args.level (z / 2 ^ c.args.level) in
    let low = first_key (level + 1) (z / 2 ^ (level + 1)) in
    let cut = first_key level (z / 2 ^ level) in
    let earlier : start ≤ low = subst (λ n. start ≤ first_key n (z / 2 ^ n)) above inv.no_earlier in
    let so_far = inv.total ∙ ap (λ n. sum (range_of keys start (first_key n (z / 2 ^ n)))) above in
    let total : c.if-z-level-eq1.total ≡ sum (range_of keys start cut) =
    elim c.if-z-level-eq1.branch [
      | then-z-level-eq1 w ↦
          let same = w.left-left.ensures.descends.same_set ∙ inv.walk.same_set in
          let odd : z / 2 ^ level % 2 ≢ 0 = omega (arith, w.if-z-level-eq1.true) in
          let told = w.summary.ensures.value ∙ ap (λ s. sum_of whole_sum s.pairs (keys_below (list_of s) level (2 * (z / 2 ^ (level + 1))))) same ∙ ap sum (beside_high keys z level odd) in
          w.total-is ∙ joined_is is w.joined-total.ensures start low cut earlier (first_no_earlier z level) so_far told
      | else-z-level-eq1 w ↦
          let even : z / 2 ^ level % 2 ≡ 0 = omega (arith, w.if-z-level-eq1.false) in w.total-is ∙ so_far ∙ ap (λ n. sum (range_of keys start n)) (sym (first_of_low z level even))
    ] in
    let read : Descends g.D.Descend.set_of g.D.Descend.loads_of g.D.Descend.Names g.D.Descend.KeepsRest 1 0 1 0 c.loop-level.tree c.if-z-level-eq1.tree =
    elim c.if-z-level-eq1.branch [
      | then-z-level-eq1 w ↦ subst (λ t. Descends g.D.Descend.set_of g.D.Descend.loads_of g.D.Descend.Names g.D.Descend.KeepsRest 1 0 1 0 c.loop-level.tree t) (sym w.tree-is) (beside g.met.D.Descend.keeps_on w.left-left.ensures.descends w.summary.ensures.descends)
      | else-z-level-eq1 w ↦ subst (λ t. Descends g.D.Descend.set_of g.D.Descend.loads_of g.D.Descend.Names g.D.Descend.KeepsRest 1 0 1 0 c.loop-level.tree t) (sym w.tree-is) (still g.met.D.Descend.keeps_so)
    ] in
    record {
      most = omega (arith, inv.most);
      name = c.toward-node.ensures.name;
      no_earlier = omega (arith, earlier, first_no_earlier z level);
      total = total;
      walk = one_level g.met.D.Descend.keeps_on inv.walk read c.toward-node.ensures.descends c.loop-level-test.true inv.most;
    }

pub joined-requires : goal.joined-requires
joined-requires g c =
    let whole_sum = summary_of g.A.Monoid.parts g.B.Monoid.parts in
    let inv = c.loop-level.invariant in
    let is = (g.met.D.Descend.name_stands c.args.tree.now _ _ c.args.node c.requires).is_tree_set in
    let told = c.summary-2.ensures.value ∙ ap (λ s. sum_of whole_sum s.pairs (keys_below (list_of s) 0 c.args.z)) inv.walk.same_set in
    joined_few whole_sum is (λ _. refl) _ _ _ _ inv.total told

pub returns-clause-answer : goal.returns-clause-answer
returns-clause-answer g c =
    let whole_sum = summary_of g.A.Monoid.parts g.B.Monoid.parts in
    let set = g.D.Descend.set_of c.args.tree.now in
    let keys = list_of set in
    let sum = sum_of whole_sum set.pairs in
    let inv = c.loop-level.invariant in
    let is = (g.met.D.Descend.name_stands c.args.tree.now _ _ c.args.node c.requires).is_tree_set in
    let z = c.args.z in
    let start = first_key c.args.level (z / 2 ^ c.args.level) in
    let here = leaf_begins z c.loop-level.level (omega (arith, c.loop-level-test.false)) in
    let told = c.summary-2.ensures.value ∙ ap (λ s. sum_of whole_sum s.pairs (keys_below (list_of s) 0 z)) inv.walk.same_set ∙ ap sum (leaf_is keys 0 z refl) in
    joined_is is c.joined.ensures start z (z + 1) (omega (arith, here, inv.no_earlier)) (omega arith) (inv.total ∙ ap (λ n. sum (range_of keys start n)) here) told

pub overflow_shr-z : goal.overflow_shr-z
overflow_shr-z g c =
    let is = (g.met.D.Descend.name_stands c.args.tree.now _ _ c.args.node c.requires) in
    let few = is.is_tree_set.few_bits in
    let fits = is.level_fits in
    omega (arith, few, fits, c.loop-level.invariant.most)

pub overflow_shr-place : goal.overflow_shr-place
overflow_shr-place g c =
    let is = (g.met.D.Descend.name_stands c.args.tree.now _ _ c.args.node c.requires) in
    let few = is.is_tree_set.few_bits in
    let fits = is.level_fits in
    omega (arith, few, fits, c.loop-level.invariant.most)

pub returns-clause-descends : goal.returns-clause-descends
returns-clause-descends g c = further g.met.D.Descend.keeps_on c.loop-level.invariant.walk c.summary-2.ensures.descends (omega (arith, c.loop-level-test.false)) (omega arith) (omega (arith, c.loop-level-test.false)) (omega arith)

pub overflow_mul-place : goal.overflow_mul-place
overflow_mul-place g c =
    let above : c.loop-level.level ≡ c.loop-level.level - 1 + 1 = omega (arith, c.loop-level-test.true) in
    let name = subst (λ n. g.D.Descend.Names c.loop-level.tree n (c.args.z / 2 ^ n) c.loop-level.node) above c.loop-level.invariant.name in
    omega (arith, child_places (c.loop-level.level - 1) (g.met.D.Descend.name_stands c.loop-level.tree _ _ c.loop-level.node name))
