use Rattle.std.proofs.Common.{◌+◌, ◌*◌, ◌∙◌, subst, arith}
use Rattle.aug_model.specs.Keys.{SetFacts}
use Rattle.aug_query.specs.Descend.{Descends}
use Rattle.aug_batch.proofs.SomeKeys.{more_answers, loads_more}
use Rattle.aug_query.proofs.Descending.{further}
use Rattle.aug_batch.proofs.batches.ask_all.Goals as goal

pub loop-at-preserved : goal.loop-at-preserved
loop-at-preserved g c =
    let inv = c.loop-at.invariant in
    let some = c.ask_some-at.ensures in
    let set = g.D.Descend.set_of c.args.tree.now in
    let step = subst (λ (s : SetFacts). Descends g.D.Descend.set_of g.D.Descend.loads_of g.D.Descend.Names g.D.Descend.KeepsRest (c.ask_some-at.result * (s.bits + 1)) c.ask_some-at.result 0 (c.ask_some-at.result * (g.Q.ByKey.passed * s.bits)) c.loop-at.tree c.ask_some-at.new.tree) inv.walk.same_set some.descends in
    record {
      most = some.within;
      answer = more_answers (λ s k. g.Q.ByKey.value_of s k) set (g.D.Descend.set_of c.loop-at.tree) c.args.keys.now c.loop-at.at c.ask_some-at.result _ _ _ inv.walk.same_set inv.answer some.answer;
      length = omega (arith, inv.length, some.length);
      room = some.room ∙ inv.room;
      walk = further g.met.D.Descend.keeps_on inv.walk step (loads_more c.loop-at.at c.ask_some-at.result (set.bits + 1)) (omega arith) (omega arith) (loads_more c.loop-at.at c.ask_some-at.result (g.Q.ByKey.passed * set.bits));
    }
