use Rattle.std.proofs.Common.{refl, sym, subst, arith}
use Rattle.aug_model.specs.Keys.{list_of}
use Rattle.aug_query.proofs.Nodes.{of_set, counts, top_first}
use Rattle.aug_query.proofs.Orders.{rank_none}
use Rattle.aug_query.proofs.Descents.{select_ends}
use Rattle.aug_query.proofs.Descending.{further, counted, within}
use Rattle.aug_query.proofs.Choosing.{count_of, whole_length, chosen_past}
use Rattle.aug_query.proofs.descent.positions.SelectQuery.run.Goals as goal

pub returns-then-count-i-clause-answer : goal.returns-then-count-i-clause-answer
returns-then-count-i-clause-answer g c =
    let set = g.D.Descend.set_of c.args.tree.now in
    let all = whole_length set (g.D.Descend.set_of c.top-node.new.self) c.bits-level.result c.count.result c.bits-level.ensures.set c.bits-level.ensures.value c.top-node.ensures.descends.same_set c.count.ensures.value in
    chosen_past set c.args.self.0 c.count.result c.bits-level.ensures.set all (omega (arith, c.if-count-i.true))

pub loop-level-init : goal.loop-level-init
loop-level-init g c =
    let set = g.D.Descend.set_of c.args.tree.now in
    let all = count_of set (g.D.Descend.set_of c.top-node.new.self) c.bits-level.result 0 c.count.result c.top-node.ensures.descends.same_set c.count.ensures.value in
    record {
      most = omega (arith, c.bits-level.ensures.value);
      name = c.count.ensures.descends.keeps_names _ _ _ (subst (λ l. g.D.Descend.Names c.top-node.new.self l 0 c.top-node.result) (sym c.bits-level.ensures.value) c.top-node.ensures.name);
      within = omega (arith, all, c.if-count-i.false);
      same = omega (arith, rank_none (list_of set) _ (top_first c.bits-level.result 0 refl));
      descends = further g.met.D.Descend.keeps_on c.top-node.ensures.descends c.count.ensures.descends (omega arith) (omega arith) (omega arith) (omega arith);
    }

pub returns-clause-answer : goal.returns-clause-answer
returns-clause-answer g c =
    let loop = c.loop-level.invariant in
    let node = of_set loop.descends.same_set (g.met.D.Descend.name_stands c.loop-level.tree _ _ c.loop-level.node loop.name) in
    sym (select_ends c.args.self.0 c.loop-level.rest node (λ _. refl) (omega (arith, c.loop-level-test.false)) (omega (arith, loop.within, counts node (λ _. refl))) loop.same)

pub returns-then-count-i-clause-descends : goal.returns-then-count-i-clause-descends
returns-then-count-i-clause-descends g c = within (counted g.met.D.Descend.keeps_on c.top-node.ensures.descends c.count.ensures.descends) (omega arith) (omega arith) (omega arith) (omega arith)

pub returns-clause-descends : goal.returns-clause-descends
returns-clause-descends g c = within c.loop-level.invariant.descends (omega arith) (omega arith) (omega arith) (omega arith)
