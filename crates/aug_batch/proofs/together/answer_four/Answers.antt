use Rattle.std.proofs.Common.{◌≡◌, ◌≤◌, ◌+◌, ◌-◌, ◌*◌, sym, subst, arith}
use Rattle.std.proofs.Math.Nat.{mul-le-mul_left}
use Rattle.aug_batch.specs.inside.Together.{AreWays}
use Rattle.aug_query.proofs.Descending.{further}
use Rattle.aug_batch.proofs.FourWays.{more_passed}
use Rattle.aug_batch.proofs.together.answer_four.Goals as goal

pub loop-level-preserved : goal.loop-level-preserved
loop-level-preserved g c =
    let inv = c.loop-level.invariant in
    let step = c.lower_all-ways.ensures in
    let some : 1 ≤ c.loop-level.level = omega (arith, c.loop-level-test.true) in
    let down : c.loop-level.level - 1 + 1 ≡ c.loop-level.level = omega (arith, some) in
    record {
      most = omega (arith, inv.most, some);
      ways = subst (λ l. AreWays g.D.Descend.set_of g.D.Descend.Names g.Q.ByKey.Counts c.lower_all-ways.new.tree l c.args.p c.args.q c.args.r c.args.s c.lower_all-ways.result) (sym down) step.ways;
      walk = further g.met.D.Descend.keeps_on inv.walk step.descends (omega (arith, inv.most, some)) (omega arith) (omega arith) (more_passed g.Q.ByKey.passed (g.D.Descend.set_of c.args.tree.now).bits c.loop-level.level inv.most some);
    }

pub end_all-requires : goal.end_all-requires
end_all-requires g c =
    let one : c.loop-level.level + 1 ≡ 1 = omega (arith, c.loop-level-test.false) in
    subst (λ l. AreWays g.D.Descend.set_of g.D.Descend.Names g.Q.ByKey.Counts c.loop-level.tree l c.args.p c.args.q c.args.r c.args.s c.loop-level.ways) one c.loop-level.invariant.ways

pub returns-clause-descends : goal.returns-clause-descends
returns-clause-descends g c =
    let bits = (g.D.Descend.set_of c.args.tree.now).bits in
    let passed : g.Q.ByKey.passed * (bits - (c.loop-level.level + 1)) ≤ g.Q.ByKey.passed * bits = mul-le-mul_left g.Q.ByKey.passed (omega arith) in
    further g.met.D.Descend.keeps_on c.loop-level.invariant.walk c.end_all.ensures.descends (omega (arith, c.loop-level-test.false, c.loop-level.invariant.most)) (omega arith) (omega arith) (omega (arith, passed))
