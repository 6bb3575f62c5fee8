use Rattle.std.proofs.Common.{◌≡◌, ◌+◌, ◌-◌, ◌<◌, ap, sym, ◌∙◌, subst, arith}
use Rattle.aug_model.specs.NodeKeys.{pairs_below}
use Rattle.aug_query.specs.RunningSums.{sum_of_weights}
use Rattle.aug_query.specs.inside.FirstOver.{first_over}
use Rattle.aug_query.proofs.Descending.{further, within}
use Rattle.aug_query.proofs.Weighing.{told, past_all, top_passes, leaf_passes}
use Rattle.aug_query.proofs.descent.by_weight.SelectByWeightQuerySum.run.Goals as goal

pub returns-then-value-number-clause-answer : goal.returns-then-value-number-clause-answer
returns-then-value-number-clause-answer g c =
    let set = g.D.Descend.set_of c.args.tree.now in
    let sum = told set (g.D.Descend.set_of c.top-node.new.self) c.bits-level.result 0 c.value.result c.summary.result.a c.bits-level.ensures.set c.top-node.ensures.descends.same_set c.value.ensures (ap (λ s. s.a) c.summary.ensures.value) in
    past_all set c.bits-level.result c.args.self.0 c.value.result c.bits-level.ensures.set c.bits-level.ensures.value sum (omega (arith, c.if-value-number.true))

pub loop-level-init : goal.loop-level-init
loop-level-init g c =
    let set = g.D.Descend.set_of c.args.tree.now in
    let sum = told set (g.D.Descend.set_of c.top-node.new.self) c.bits-level.result 0 c.value.result c.summary.result.a c.bits-level.ensures.set c.top-node.ensures.descends.same_set c.value.ensures (ap (λ s. s.a) c.summary.ensures.value) in
    record {
      most = omega (arith, c.bits-level.ensures.value);
      name = c.summary.ensures.descends.keeps_names _ _ _ (subst (λ l. g.D.Descend.Names c.top-node.new.self l 0 c.top-node.result) (sym c.bits-level.ensures.value) c.top-node.ensures.name);
      within = omega (arith, sum, c.if-value-number.false);
      same = top_passes set c.bits-level.result c.args.self.0 c.bits-level.ensures.set c.bits-level.ensures.value;
      descends = further g.met.D.Descend.keeps_on c.top-node.ensures.descends c.summary.ensures.descends (omega arith) (omega arith) (omega arith) (omega arith);
    }

pub returns-clause-answer : goal.returns-clause-answer
returns-clause-answer g c =
    let loop = c.loop-level.invariant in
    leaf_passes (g.D.Descend.set_of c.args.tree.now) c.loop-level.level c.loop-level.place c.loop-level.rest c.bits-level.ensures.set (omega (arith, c.loop-level-test.false)) loop.within ∙ loop.same

pub returns-then-value-number-clause-descends : goal.returns-then-value-number-clause-descends
returns-then-value-number-clause-descends g c = further g.met.D.Descend.keeps_on c.top-node.ensures.descends c.summary.ensures.descends (omega arith) (omega arith) (omega arith) (omega arith)

pub weighing_child-child-requires-clause-name : goal.weighing_child-child-requires-clause-name
weighing_child-child-requires-clause-name g c =
    let above : c.loop-level.level ≡ c.loop-level.level - 1 + 1 = omega (arith, c.loop-level-test.true) in
    subst (λ n. g.D.Descend.Names c.loop-level.tree n c.loop-level.place c.loop-level.node) above c.loop-level.invariant.name

pub weighing_child-child-requires-clause-within : goal.weighing_child-child-requires-clause-within
weighing_child-child-requires-clause-within g c =
    let inv = c.loop-level.invariant in
    let above : c.loop-level.level ≡ c.loop-level.level - 1 + 1 = omega (arith, c.loop-level-test.true) in
    let here = subst (λ s. c.loop-level.rest < sum_of_weights (pairs_below s.pairs c.loop-level.level c.loop-level.place)) (sym inv.descends.same_set) inv.within in
    subst (λ n. c.loop-level.rest < sum_of_weights (pairs_below (g.D.Descend.set_of c.loop-level.tree).pairs n c.loop-level.place)) above here

pub loop-level-preserved : goal.loop-level-preserved
loop-level-preserved g c =
    let inv = c.loop-level.invariant in
    let level = c.loop-level.level in
    let child = c.weighing_child-child in
    let above : level - 1 + 1 ≡ level = omega (arith, c.loop-level-test.true) in
    let same = subst (λ s. first_over (pairs_below s.pairs (level - 1) child.result.1) child.result.2 ≡ first_over (pairs_below s.pairs (level - 1 + 1) c.loop-level.place) c.loop-level.rest) inv.descends.same_set child.ensures.same in
    record {
      most = omega (arith, inv.most);
      name = child.ensures.child.name;
      within = subst (λ s. child.result.2 < sum_of_weights (pairs_below s.pairs (level - 1) child.result.1)) inv.descends.same_set child.ensures.within;
      same = same ∙ ap (λ n. first_over (pairs_below (g.D.Descend.set_of c.args.tree.now).pairs n c.loop-level.place) c.loop-level.rest) above ∙ inv.same;
      descends = further g.met.D.Descend.keeps_on inv.descends child.ensures.child.descends (omega (arith, inv.most, c.loop-level-test.true)) (omega arith) (omega (arith, inv.most, c.loop-level-test.true)) (omega arith);
    }

pub returns-clause-descends : goal.returns-clause-descends
returns-clause-descends g c = within c.loop-level.invariant.descends (omega arith) (omega arith) (omega arith) (omega arith)
