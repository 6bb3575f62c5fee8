use Rattle.std.proofs.Common.{rules, subst, ◌≡◌}
use Rattle.aug_model.specs.Folds.{summary_of}
use Rattle.aug_model.specs.declared.outcome.Outcome.{Outcome}
use Rattle.aug_trie.specs.declared.turns.stages.Next.TheVariants.{More}
use Rattle.aug_trie.specs.Climb.{TurnsOn, Finishes}
use Rattle.aug_trie.specs.Node.{Keeps}
use Rattle.aug_trie.specs.Pass.{PassFacts}
use Rattle.aug_trie.specs.inside.ClimbState.{climb_facts}
use Rattle.aug_trie.specs.inside.PassState.{pass_facts}
use Rattle.aug_trie.proofs.Turning.{has_room, climbs, climb_on, climb_done}
use Rattle.aug_trie.proofs.turns.climb.Climb.turn.Goals as goal

pub after-requires-clause-inserts : goal.after-requires-clause-inserts
after-requires-clause-inserts g c = let i = c.self.inside in (has_room g.A.Monoid.parts g.B.Monoid.parts i.words i.account i.key i.request i.stage c.args.self c.self.invariant c.self.view_is).0

pub after-requires-clause-removals : goal.after-requires-clause-removals
after-requires-clause-removals g c = let i = c.self.inside in (has_room g.A.Monoid.parts g.B.Monoid.parts i.words i.account i.key i.request i.stage c.args.self c.self.invariant c.self.view_is).1

pub invariant_of-pass : goal.invariant_of-pass
invariant_of-pass g c = let i = c.self.inside in let n = c.next_stage-next.ensures in (climb_done g.A.Monoid.parts g.B.Monoid.parts i.words i.account i.key i.request i.stage c.args.self c.self.invariant c.self.view_is c.next_stage-next.new.pass c.next_stage-next.result n.step.table n.step.view n.falls n.on
    c.in-Done.outcome c.after.result c.in-Done.is c.after.ensures).holds

pub returns-in-More-clause-more : goal.returns-in-More-clause-more
returns-in-More-clause-more g c = λ climb is. let i = c.self.inside in let n = c.next_stage-next.ensures in
    let same : climb_facts c.next_stage-next.new.pass i.account.bits i.account.left i.key i.request c.in-More.stage ≡ climb = search rules in
    subst (TurnsOn c.args.self) same (climb_on g.A.Monoid.parts g.B.Monoid.parts i.words i.account i.key i.request i.stage c.args.self c.self.invariant c.self.view_is c.next_stage-next.new.pass c.next_stage-next.result n.step.table n.step.view n.falls n.on c.in-More.stage c.in-More.is n.first n.second)

pub returns-in-Done-clause-done : goal.returns-in-Done-clause-done
returns-in-Done-clause-done g c = λ pass outcome is. let i = c.self.inside in let n = c.next_stage-next.ensures in let made : pass_facts c.next_stage-next.new.pass c.after.result.left ≡ pass = search rules in
    let same : c.in-Done.outcome ≡ outcome = search rules in subst (λ (z : Outcome × PassFacts). Finishes z.0 c.args.self z.1) (λ j. (same j, made j)) (climb_done g.A.Monoid.parts g.B.Monoid.parts i.words i.account i.key i.request i.stage c.args.self c.self.invariant c.self.view_is c.next_stage-next.new.pass c.next_stage-next.result n.step.table n.step.view n.falls n.on
    c.in-Done.outcome c.after.result c.in-Done.is c.after.ensures).finish

pub returns-in-Done-clause-keeps : goal.returns-in-Done-clause-keeps
returns-in-Done-clause-keeps g c = λ pass outcome is. let i = c.self.inside in let n = c.next_stage-next.ensures in let made : pass_facts c.next_stage-next.new.pass c.after.result.left ≡ pass = search rules in
    subst (Keeps (summary_of g.A.Monoid.parts g.B.Monoid.parts) c.args.self.start) made (climb_done g.A.Monoid.parts g.B.Monoid.parts i.words i.account i.key i.request i.stage c.args.self c.self.invariant c.self.view_is c.next_stage-next.new.pass c.next_stage-next.result n.step.table n.step.view n.falls n.on
    c.in-Done.outcome c.after.result c.in-Done.is c.after.ensures).keeps

pub invariant_of-result : goal.invariant_of-result
invariant_of-result g c = let i = c.self.inside in let h = c.self.invariant in let n = c.next_stage-next.ensures in record {
  began = h.began;
  stage_at = climbs g.A.Monoid.parts g.B.Monoid.parts i.words i.account i.key i.request i.stage c.args.self h c.self.view_is c.next_stage-next.new.pass c.next_stage-next.result n.step.table n.step.view n.falls n.on (More c.in-More.stage) c.in-More.is;
  counts = h.counts;
}

pub after-requires-clause-records : goal.after-requires-clause-records
after-requires-clause-records g c = let i = c.self.inside in (has_room g.A.Monoid.parts g.B.Monoid.parts i.words i.account i.key i.request i.stage c.args.self c.self.invariant c.self.view_is).2
