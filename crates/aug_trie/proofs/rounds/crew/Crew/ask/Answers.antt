use Rattle.std.proofs.Common.{ℕ, ap, sym, subst, refl, ◌∙◌, le_of_eq}
use Rattle.aug_core.specs.Places.{Shape}
use Rattle.aug_model.specs.Keys.{SetFacts}
use Rattle.aug_query.specs.Descend.{Loads}
use Rattle.aug_trie.specs.Crew.{set_of_crew}
use Rattle.aug_trie.specs.Node.{steps_for}
use Rattle.aug_trie.specs.inside.SnapshotWalk.{set_seen}
use Rattle.aug_trie.proofs.CrewWalks.{walked_set, walked}
use Rattle.aug_trie.proofs.RoundLemmas.{of_round, crew_told}
use Rattle.aug_trie.proofs.rounds.crew.Crew.ask.Goals as goal

pub of_crew-walk-requires-clause-together : goal.of_crew-walk-requires-clause-together
of_crew-walk-requires-clause-together g c = of_round c.round.inside.words c.in-Some.lead c.args.self.now c.args.round.now c.round.invariant.keeps_records (crew_told c.self.invariant (sym c.take.ensures.value ∙ c.in-Some.is) c.self.view_is).0.is_crew.keeps_records (crew_told c.self.invariant (sym c.take.ensures.value ∙ c.in-Some.is) c.self.view_is).1 c.requires.together c.round.view_is

pub of_crew-walk-requires-clause-bits : goal.of_crew-walk-requires-clause-bits
of_crew-walk-requires-clause-bits g c = let together = of_round c.round.inside.words c.in-Some.lead c.args.self.now c.args.round.now c.round.invariant.keeps_records (crew_told c.self.invariant (sym c.take.ensures.value ∙ c.in-Some.is) c.self.view_is).0.is_crew.keeps_records (crew_told c.self.invariant (sym c.take.ensures.value ∙ c.in-Some.is) c.self.view_is).1 c.requires.together c.round.view_is in
    c.bits.ensures ∙ ap (λ (s : Shape). s.bits) (c.round.invariant.laid_out ∙ sym together.one_shape)

pub invariant_of-self : goal.invariant_of-self
invariant_of-self g c = let i = c.self.inside in let e = c.of_crew-walk.ensures in let w = c.of_crew-walk.result in let most : Loads = g.Q.Query.most c.args.query (set_seen w.words.view w.snapshot) in
    (walked g.A.Monoid.parts g.B.Monoid.parts i.lead c.in-Some.lead c.args.self.now i.back i.inserts i.removals c.self.invariant (sym c.take.ensures.value ∙ c.in-Some.is) c.self.view_is c.of_crew-walk.result e.words e.newest c.run-answer.new.tree c.into_lead.result most.nodes most.counts most.summaries most.passed (steps_for most) c.into_lead.ensures c.run-answer.ensures.descends (le_of_eq refl)).0

pub returns-clause-answer : goal.returns-clause-answer
returns-clause-answer g c = let i = c.self.inside in let e = c.of_crew-walk.ensures in
    subst (λ (z : SetFacts). g.Q.Query.Answers c.args.query z c.run-answer.result) (walked_set g.A.Monoid.parts g.B.Monoid.parts i.lead c.in-Some.lead c.args.self.now i.back i.inserts i.removals c.self.invariant (sym c.take.ensures.value ∙ c.in-Some.is) c.self.view_is c.of_crew-walk.result e.words e.newest) c.run-answer.ensures.answer

pub returns-clause-reads : goal.returns-clause-reads
returns-clause-reads g c = let i = c.self.inside in let e = c.of_crew-walk.ensures in let w = c.of_crew-walk.result in let most : Loads = g.Q.Query.most c.args.query (set_seen w.words.view w.snapshot) in
    let all : ℕ = steps_for (g.Q.Query.most c.args.query (set_of_crew c.args.self.now)) in
    (walked g.A.Monoid.parts g.B.Monoid.parts i.lead c.in-Some.lead c.args.self.now i.back i.inserts i.removals c.self.invariant (sym c.take.ensures.value ∙ c.in-Some.is) c.self.view_is c.of_crew-walk.result e.words e.newest c.run-answer.new.tree c.into_lead.result most.nodes most.counts most.summaries most.passed all c.into_lead.ensures c.run-answer.ensures.descends
    (le_of_eq (ap (λ (z : SetFacts). steps_for (g.Q.Query.most c.args.query z)) (walked_set g.A.Monoid.parts g.B.Monoid.parts i.lead c.in-Some.lead c.args.self.now i.back i.inserts i.removals c.self.invariant (sym c.take.ensures.value ∙ c.in-Some.is) c.self.view_is c.of_crew-walk.result e.words e.newest)))).1

pub of_crew-walk-requires-clause-knows : goal.of_crew-walk-requires-clause-knows
of_crew-walk-requires-clause-knows g c = let crew = (crew_told c.self.invariant (sym c.take.ensures.value ∙ c.in-Some.is) c.self.view_is).0.is_crew in record { knows_table = crew.knows_table; keeps_records = crew.keeps_records }
