use Rattle.std.proofs.Common.{refl, ap, ◌∙◌}
use Rattle.aug_core.specs.Faces.{face}
use Rattle.aug_trie.proofs.Crews.{pass_out}
use Rattle.aug_trie.proofs.Freeing.{places_of, same_opens}
use Rattle.aug_trie.proofs.RoundLemmas.{crew_told}
use Rattle.aug_trie.proofs.rounds.crew.Crew.pass.Goals as goal

pub invariant_of-result : goal.invariant_of-result
invariant_of-result g c = let lead = c.in-Some.lead in let told = crew_told c.self.invariant c.in-Some.is c.self.view_is in let s = c.split-words.ensures in let first = c.first_record.ensures in
    let out = pass_out (face g.A.Monoid.parts g.B.Monoid.parts) c.round.inside.words lead c.split-words.new.self c.split-words.result c.round.inside.layout c.args.self.now c.args.round.now c.handed-lane.result c.workers.result c.bits.result told.1 c.requires.together c.round.view_is c.round.invariant
    told.0 c.handed-lane.ensures c.workers.ensures c.if-lane-workers.false s.hands_out s.table s.pass_table c.bits.ensures c.bits-2.ensures first.value first.within c.updates.ensures in
    record { pass = record { known = c.split-words.result; there = refl; is_pass = out.is_pass }; counts = out.counts }

pub invariant_of-self : goal.invariant_of-self
invariant_of-self g c = let told = crew_told c.self.invariant c.in-Some.is c.self.view_is in record { known = c.in-Some.lead; there = refl; holds = told.0; opens = told.2 }

pub invariant_of-self-2 : goal.invariant_of-self-2
invariant_of-self-2 g c = let lead = c.in-Some.lead in let told = crew_told c.self.invariant c.in-Some.is c.self.view_is in let s = c.split-words.ensures in let first = c.first_record.ensures in
    record {
      known = c.split-words.new.self;
      there = refl;
      holds = (pass_out (face g.A.Monoid.parts g.B.Monoid.parts) c.round.inside.words lead c.split-words.new.self c.split-words.result c.round.inside.layout c.args.self.now c.args.round.now c.handed-lane.result c.workers.result c.bits.result told.1 c.requires.together c.round.view_is c.round.invariant
          told.0 c.handed-lane.ensures c.workers.ensures c.if-lane-workers.false s.hands_out s.table s.pass_table c.bits.ensures c.bits-2.ensures first.value first.within c.updates.ensures).crew;
      opens = λ is. same_opens lead c.split-words.new.self s.table (ap places_of s.hands_out.lead_is ∙ ap places_of s.hands_out.loaded.stepped) (told.2 is);
    }

pub returns-clause-handed : goal.returns-clause-handed
returns-clause-handed g c = let lead = c.in-Some.lead in let told = crew_told c.self.invariant c.in-Some.is c.self.view_is in let s = c.split-words.ensures in let first = c.first_record.ensures in
    (pass_out (face g.A.Monoid.parts g.B.Monoid.parts) c.round.inside.words lead c.split-words.new.self c.split-words.result c.round.inside.layout c.args.self.now c.args.round.now c.handed-lane.result c.workers.result c.bits.result told.1 c.requires.together c.round.view_is c.round.invariant
    told.0 c.handed-lane.ensures c.workers.ensures c.if-lane-workers.false s.hands_out s.table s.pass_table c.bits.ensures c.bits-2.ensures first.value first.within c.updates.ensures).hands_out
