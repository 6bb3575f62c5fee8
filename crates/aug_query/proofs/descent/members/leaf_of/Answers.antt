use Rattle.std.proofs.Common.{sym, subst, arith, rules}
use Rattle.aug_query.proofs.Descending.{further, within}
use Rattle.aug_query.proofs.Ways.{top_place}
use Rattle.aug_query.proofs.descent.members.leaf_of.Goals as goal

pub loop-level-init : goal.loop-level-init
loop-level-init g c =
    let bits = c.bits-level.ensures.value in
    let start = subst (λ l. g.D.Descend.Names c.top-node.new.self l 0 c.top-node.result) (sym bits) c.top-node.ensures.name in
    record {
      most = omega (arith, bits);
      node = subst (λ p. g.D.Descend.Names c.top-node.new.self c.bits-level.result p c.top-node.result) (top_place c.args.k _ _ bits c.requires) start;
      walk = within c.top-node.ensures.descends (omega (arith, bits)) (omega arith) (omega arith) (omega arith);
    }

pub loop-level-preserved : goal.loop-level-preserved
loop-level-preserved g c =
    let inv = c.loop-level.invariant in
    let step = c.toward-node.ensures in
    record { most = omega (arith, inv.most); node = step.name; walk = further g.met.D.Descend.keeps_on inv.walk step.descends (omega (arith, inv.most, c.loop-level-test.true)) (omega arith) (omega arith) (omega arith) }

pub returns : goal.returns
returns g c = record { descends = within c.loop-level.invariant.walk (omega arith) (omega arith) (omega arith) (omega arith); name = search rules }
