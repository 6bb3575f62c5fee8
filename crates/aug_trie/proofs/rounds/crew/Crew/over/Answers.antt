use Rattle.std.proofs.Common.{subst, ap, sym, refl}
use Rattle.atomic_table.specs.Seated.{TableId}
use Rattle.aug_core.specs.Faces.{face}
use Rattle.aug_core.specs.declared.view.SeatView.{SeatView}
use Rattle.aug_words.specs.Seats.{Known}
use Rattle.aug_trie.specs.Crew.{IsOver}
use Rattle.aug_trie.specs.inside.CrewState.{crew_facts}
use Rattle.aug_trie.proofs.Freeing.{places_of, same_opens}
use Rattle.aug_trie.proofs.RoundLemmas.{of_round, crew_told}
use Rattle.aug_trie.proofs.RollingOver.{last_crew, closes_account}
use Rattle.aug_trie.proofs.rounds.crew.Crew.over.Goals as goal

pub survey-requires : goal.survey-requires
survey-requires g c = record { together = of_round c.round.inside.words c.in-Some.lead c.args.self.now c.args.round.now c.round.invariant.keeps_records (crew_told c.self.invariant c.in-Some.is c.self.view_is).0.is_crew.keeps_records (crew_told c.self.invariant c.in-Some.is c.self.view_is).1 c.requires.together c.round.view_is }

pub invariant_of-self : goal.invariant_of-self
invariant_of-self g c = let i = c.self.inside in let told = crew_told c.self.invariant c.in-Some.is c.self.view_is in let s = c.survey.ensures.view in
    record { known = c.survey.new.self; there = refl; holds = last_crew (face g.A.Monoid.parts g.B.Monoid.parts) c.in-Some.lead c.args.self.now i.back i.inserts i.removals c.survey.result c.survey.new.self.view told.1 told.0 s.loaded; opens = λ is. same_opens c.in-Some.lead c.survey.new.self c.survey.ensures.table (ap places_of s.loaded.stepped) (told.2 is) }

pub returns : goal.returns
returns g c = let i = c.self.inside in let lead : Known = c.in-Some.lead in let told = crew_told c.self.invariant c.in-Some.is c.self.view_is in let s = c.survey.ensures.view in let last : SeatView = c.survey.new.self.view in
    let closed = closes_account (face g.A.Monoid.parts g.B.Monoid.parts) lead c.args.self.now i.back i.inserts i.removals c.survey.result last told.1 told.0 s.loaded s.words s.ends c.requires.all_back in
    subst (λ (z : TableId). IsOver c.args.self.now (crew_facts (record { table = z; view = last }) i.free) i.inserts i.removals) (sym c.survey.ensures.table) closed
