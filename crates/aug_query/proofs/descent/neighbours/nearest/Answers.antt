use Rattle.std.proofs.Common.{◌≡◌, ◌+◌, ◌-◌, length, refl, sym, ap, ◌∙◌, subst, arith}
use Rattle.aug_model.specs.Keys.{list_of}
use Rattle.aug_model.specs.NodeKeys.{keys_below}
use Rattle.aug_query.specs.inside.InOrder.{head_of}
use Rattle.aug_query.proofs.InOrder.{head_alone}
use Rattle.aug_query.proofs.Nodes.{of_set, members_rise}
use Rattle.aug_query.proofs.Descending.{still, further, within}
use Rattle.aug_query.proofs.Beside.{leaf_has, as_begun}
use Rattle.aug_query.proofs.descent.neighbours.nearest.Goals as goal

pub loop-level-init : goal.loop-level-init
loop-level-init g c = record { most = omega arith; name = c.requires.name; some = c.requires.some; same = refl; descends = still g.met.D.Descend.keeps_so }

pub nearest_child-child-requires-clause-name : goal.nearest_child-child-requires-clause-name
nearest_child-child-requires-clause-name g c =
    let above : c.loop-level.level ≡ c.loop-level.level - 1 + 1 = omega (arith, c.loop-level-test.true) in
    subst (λ n. g.D.Descend.Names c.loop-level.tree n c.loop-level.place c.loop-level.node) above c.loop-level.invariant.name

pub nearest_child-child-requires-clause-some : goal.nearest_child-child-requires-clause-some
nearest_child-child-requires-clause-some g c =
    let inv = c.loop-level.invariant in
    let above : c.loop-level.level ≡ c.loop-level.level - 1 + 1 = omega (arith, c.loop-level-test.true) in
    let here = ap (λ s. length (keys_below (list_of s) c.loop-level.level c.loop-level.place)) inv.descends.same_set in
    let there = ap (λ n. length (keys_below (list_of (g.D.Descend.set_of c.loop-level.tree)) n c.loop-level.place)) above in
    omega (arith, inv.some, here, there)

pub loop-level-preserved : goal.loop-level-preserved
loop-level-preserved g c =
    let inv = c.loop-level.invariant in
    let child = c.nearest_child-child in
    let set = inv.descends.same_set in
    let above : c.loop-level.level - 1 + 1 ≡ c.loop-level.level = omega (arith, c.loop-level-test.true) in
    let here = ap (λ s. length (keys_below (list_of s) (c.loop-level.level - 1) child.result.1)) set in
    record {
      most = omega (arith, inv.most);
      name = child.ensures.child.name;
      some = omega (arith, child.ensures.some, here);
      same = as_begun (head_of c.args.order) (head_of c.args.order (keys_below (list_of (g.D.Descend.set_of c.args.tree.now)) c.args.level c.args.place)) c.loop-level.level (c.loop-level.level - 1 + 1) (c.loop-level.level - 1) c.loop-level.place child.result.1 set above child.ensures.same inv.same;
      descends = further g.met.D.Descend.keeps_on inv.descends child.ensures.child.descends (omega (arith, inv.most, c.loop-level-test.true)) (omega (arith, inv.most, c.loop-level-test.true)) (omega arith) (omega arith);
    }

pub returns-clause-answer : goal.returns-clause-answer
returns-clause-answer g c =
    let inv = c.loop-level.invariant in
    let node = of_set inv.descends.same_set (g.met.D.Descend.name_stands c.loop-level.tree _ _ c.loop-level.node inv.name) in
    sym (head_alone c.args.order c.loop-level.place) ∙ leaf_has (head_of c.args.order) (head_of c.args.order (keys_below (list_of (g.D.Descend.set_of c.args.tree.now)) c.args.level c.args.place)) (list_of (g.D.Descend.set_of c.args.tree.now)) c.loop-level.level c.loop-level.place (members_rise node) (omega (arith, c.loop-level-test.false)) inv.some inv.same

pub returns-clause-descends : goal.returns-clause-descends
returns-clause-descends g c = within c.loop-level.invariant.descends (omega arith) (omega arith) (omega arith) (omega arith)
