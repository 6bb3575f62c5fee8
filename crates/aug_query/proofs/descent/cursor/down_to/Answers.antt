use Rattle.std.proofs.Common.{rules, ◌≡◌, ◌+◌, ◌-◌, ◌<◌, length, refl, ap, sym, ◌∙◌, subst, arith}
use Rattle.aug_model.specs.Keys.{list_of}
use Rattle.aug_model.specs.Queries.{rank_of, weight_in}
use Rattle.aug_model.specs.NodeKeys.{keys_below}
use Rattle.aug_query.proofs.Descending.{still, further, within}
use Rattle.aug_query.specs.inside.InOrder.{start_of}
use Rattle.aug_query.proofs.InOrder.{leaf_start}
use Rattle.aug_query.proofs.Nodes.{of_set}
use Rattle.aug_query.proofs.Paths.{path_leaf, path_stays, path_pushed, leaf_within, leaf_weight}
use Rattle.aug_query.proofs.descent.cursor.down_to.Goals as goal

pub loop-level-init : goal.loop-level-init
loop-level-init g c = record { most = omega arith; name = c.requires.name; some = c.requires.some; start = refl; path = c.requires.path; descends = still g.met.D.Descend.keeps_so }

pub nearest_child-child-requires-clause-name : goal.nearest_child-child-requires-clause-name
nearest_child-child-requires-clause-name g c =
    let above : c.loop-level.level ≡ c.loop-level.level - 1 + 1 = omega (arith, c.loop-level-test.true) in
    subst (λ n. g.D.Descend.Names c.loop-level.tree n c.loop-level.place c.loop-level.node) above c.loop-level.invariant.name

pub nearest_child-child-requires-clause-some : goal.nearest_child-child-requires-clause-some
nearest_child-child-requires-clause-some g c =
    let inv = c.loop-level.invariant in
    let above : c.loop-level.level ≡ c.loop-level.level - 1 + 1 = omega (arith, c.loop-level-test.true) in
    let here = ap (λ s. length (keys_below (list_of s) c.loop-level.level c.loop-level.place)) inv.descends.same_set in
    let there = ap (λ n. length (keys_below (list_of (g.D.Descend.set_of c.loop-level.tree)) n c.loop-level.place)) above in
    omega (arith, inv.some, here, there)

pub loop-level-preserved : goal.loop-level-preserved
loop-level-preserved g c =
    let inv = c.loop-level.invariant in
    let level = c.loop-level.level in
    let child = c.nearest_child-child in
    let keeps = child.ensures.child.descends.keeps_names in
    let above : level - 1 + 1 ≡ level = omega (arith, c.loop-level-test.true) in
    let here = ap (λ s. length (keys_below (list_of s) (level - 1) child.result.1)) inv.descends.same_set in
    let start = subst (λ s. rank_of (list_of s) (start_of c.args.order (level - 1) child.result.1) ≡ rank_of (list_of s) (start_of c.args.order (level - 1 + 1) c.loop-level.place)) inv.descends.same_set child.ensures.start in
    record {
      most = omega (arith, inv.most);
      name = child.ensures.child.name;
      some = omega (arith, child.ensures.some, here);
      start = start ∙ ap (λ n. rank_of (list_of (g.D.Descend.set_of c.args.tree.now)) (start_of c.args.order n c.loop-level.place)) above ∙ inv.start;
      path = path_pushed _ level (level - 1) c.loop-level.place child.result.1 _ _ c.loop-level.node (omega (arith, c.loop-level-test.true)) (path_stays _ _ _ _ keeps inv.path) (keeps _ _ c.loop-level.node inv.name) child.ensures.place c.push.ensures.items;
      descends = further g.met.D.Descend.keeps_on inv.descends child.ensures.child.descends (omega (arith, inv.most, c.loop-level-test.true)) (omega (arith, inv.most, c.loop-level-test.true)) (omega arith) (omega arith);
    }

pub returns-clause-descends : goal.returns-clause-descends
returns-clause-descends g c = within c.loop-level.invariant.descends (omega arith) (omega arith) (omega arith) (omega arith)

pub returns-clause-within : goal.returns-clause-within
returns-clause-within g c =
    let inv = c.loop-level.invariant in
    let node = of_set inv.descends.same_set (g.met.D.Descend.name_stands c.loop-level.tree _ _ c.loop-level.node inv.name) in
    leaf_within node (omega (arith, c.loop-level-test.false))

pub returns-clause-weight : goal.returns-clause-weight
returns-clause-weight g c =
    let inv = c.loop-level.invariant in
    let node = of_set inv.descends.same_set (g.met.D.Descend.name_stands c.loop-level.tree _ _ c.loop-level.node inv.name) in
    leaf_weight node (λ _. refl) (omega (arith, c.loop-level-test.false)) inv.some c.weight.result (c.weight.ensures ∙ ap (λ s. weight_in s.pairs c.loop-level.place) inv.descends.same_set)

pub returns-clause-path : goal.returns-clause-path
returns-clause-path g c = path_leaf _ _ _ _ _ (omega (arith, c.loop-level-test.false)) refl c.loop-level.invariant.path

pub weight-requires : goal.weight-requires
weight-requires g c =
    let leaf : c.loop-level.level ≡ 0 = omega (arith, c.loop-level-test.false) in
    subst (λ l. g.D.Descend.Names c.loop-level.tree l c.loop-level.place c.loop-level.node) leaf c.loop-level.invariant.name

pub returns-clause-start : goal.returns-clause-start
returns-clause-start g c =
    let leaf = leaf_start c.args.order c.loop-level.level c.loop-level.place (omega (arith, c.loop-level-test.false)) in
    sym (ap (rank_of (list_of (g.D.Descend.set_of c.args.tree.now))) leaf) ∙ c.loop-level.invariant.start

pub push-requires : goal.push-requires
push-requires g c =
    let inv = c.loop-level.invariant in
    let few = (of_set inv.descends.same_set (g.met.D.Descend.name_stands c.loop-level.tree _ _ c.loop-level.node inv.name)).is_tree_set.few_bits in
    let room : length c.loop-level.path.items < 16 = omega (arith, c.loop-level-test.true, inv.path.long, few) in
    (search rules, room)
