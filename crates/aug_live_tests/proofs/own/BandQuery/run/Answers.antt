use Rattle.std.proofs.Common.{◌-◌, subst, arith}
use Rattle.aug_query.proofs.Descending.{further, low_half, high_half}
use Rattle.aug_live_tests.proofs.Bands.{past_none, counted}
use Rattle.aug_live_tests.proofs.own.BandQuery.run.Goals as goal
use Rattle.aug_live_tests.proofs.own.BandQuery.run.Goals.{then-band-at-eq0, else-band-at-eq0}

pub returns-then-band-bits-gt0-clause-answer : goal.returns-then-band-bits-gt0-clause-answer
returns-then-band-bits-gt0-clause-answer g c =
    past_none (g.D.Descend.set_of c.args.tree.now) c.args.self.level c.args.self.band c.min-last.result c.bits-bits.result c.bits-bits.ensures.set c.bits-bits.ensures.value c.min-last.ensures (omega (arith, c.if-band-bits-gt0.true))

pub loop-at-preserved : goal.loop-at-preserved
loop-at-preserved g c =
    let inv = c.loop-at.invariant in
    let at = c.loop-at.at - 1 in
    let deep = at - c.min-last.result in
    elim c.if-band-at-eq0.branch [
      | then-band-at-eq0 w ↦
          rw (w.tree-is, w.node-is) (record {
            above = omega (arith, c.loop-at-test.true);
            most = omega (arith, inv.most);
            name = subst (λ p. g.D.Descend.Names w.left.new.self at p w.left.result) (low_half c.args.self.band deep w.if-band-at-eq0.true) w.left.ensures.name;
            walk = further g.met.D.Descend.keeps_on inv.walk w.left.ensures.descends (omega (arith, inv.most, c.loop-at-test.true)) (omega arith) (omega arith) (omega arith);
          })
      | else-band-at-eq0 w ↦
          rw (w.tree-is, w.node-is) (record {
            above = omega (arith, c.loop-at-test.true);
            most = omega (arith, inv.most);
            name = subst (λ p. g.D.Descend.Names w.right.new.self at p w.right.result) (high_half c.args.self.band deep w.if-band-at-eq0.false) w.right.ensures.name;
            walk = further g.met.D.Descend.keeps_on inv.walk w.right.ensures.descends (omega (arith, inv.most, c.loop-at-test.true)) (omega arith) (omega arith) (omega arith);
          })
    ]

pub returns-clause-answer : goal.returns-clause-answer
returns-clause-answer g c =
    counted (g.D.Descend.set_of c.args.tree.now) (g.D.Descend.set_of c.loop-at.tree) c.args.self.level c.args.self.band c.min-last.result c.bits-bits.result c.count.result c.bits-bits.ensures.set c.loop-at.invariant.walk.same_set c.bits-bits.ensures.value c.min-last.ensures (omega (arith, c.if-band-bits-gt0.false)) c.count.ensures.value
