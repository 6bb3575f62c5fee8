use Rattle.std.proofs.Common.{refl, ap, sym, subst, ◌∙◌, ◌^◌, ◌≤◌}
use Rattle.atomic_table.specs.Seated.{TableId}
use Rattle.aug_core.specs.Faces.{face}
use Rattle.aug_core.specs.declared.view.SeatView.{SeatView}
use Rattle.aug_words.specs.Seats.{Known}
use Rattle.aug_trie.specs.Crew.{CrewFacts, CrewPrepares}
use Rattle.aug_trie.specs.inside.CrewState.{crew_facts}
use Rattle.aug_trie.proofs.Freeing.{places_of, same_opens}
use Rattle.aug_trie.proofs.RollingOver.{last_crew, last_looks, prepared_facts, prepared_holds, prepares}
use Rattle.aug_trie.proofs.RoundLemmas.{of_round, crew_told}
use Rattle.aug_trie.proofs.rounds.crew.Crew.prepare.Goals as goal

pub prepare-requires : goal.prepare-requires
prepare-requires g c = let told = crew_told c.self.invariant c.in-Some.is c.self.view_is in
    record { together = of_round c.round.inside.words c.in-Some.lead c.args.self.now c.args.round.now c.round.invariant.keeps_records told.0.is_crew.keeps_records told.1 c.requires.together c.round.view_is; room = subst (λ (z : CrewFacts). 2 ^ z.round.bits ≤ z.round.room) (sym told.1) c.requires.room; keeps = told.0.is_crew.keeps_records }

pub invariant_of-self : goal.invariant_of-self
invariant_of-self g c = let f = face g.A.Monoid.parts g.B.Monoid.parts in let i = c.self.inside in let told = crew_told c.self.invariant c.in-Some.is c.self.view_is in let p = c.prepare.ensures.view in
    record {
      known = c.prepare.new.self;
      there = refl;
      holds = prepared_holds f (record { table = c.in-Some.lead.table; view = p.between }) (crew_facts (record { table = c.in-Some.lead.table; view = p.between }) i.free) i.back i.inserts i.removals refl
          (last_crew f c.in-Some.lead c.args.self.now i.back i.inserts i.removals p.found p.between told.1 told.0 p.loaded) c.prepare.new.self.view p.lead_is;
      opens = λ is. same_opens c.in-Some.lead c.prepare.new.self c.prepare.ensures.table (ap places_of p.lead_is ∙ ap places_of p.loaded.stepped) (told.2 is);
    }

pub returns : goal.returns
returns g c = let f = face g.A.Monoid.parts g.B.Monoid.parts in let i = c.self.inside in let told = crew_told c.self.invariant c.in-Some.is c.self.view_is in let p = c.prepare.ensures.view in let last : SeatView = c.prepare.new.self.view in
    let between : Known = record { table = c.in-Some.lead.table; view = p.between } in
    subst (λ (z : TableId). CrewPrepares c.args.self.now (crew_facts (record { table = z; view = last }) i.free)) (sym c.prepare.ensures.table)
    (prepares c.args.self.now (crew_facts between i.free) (crew_facts (record { table = c.in-Some.lead.table; view = last }) i.free) (last_looks f c.in-Some.lead c.args.self.now i.back i.inserts i.removals p.found p.between told.1 told.0 p.loaded)
    (prepared_facts f between (crew_facts between i.free) i.back i.inserts i.removals refl (last_crew f c.in-Some.lead c.args.self.now i.back i.inserts i.removals p.found p.between told.1 told.0 p.loaded) last p.lead_is) p.steps)
