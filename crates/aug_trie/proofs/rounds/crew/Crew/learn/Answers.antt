use Rattle.std.proofs.Common.{refl, ap}
use Rattle.aug_core.specs.Faces.{face}
use Rattle.aug_trie.proofs.Freeing.{places_of, same_opens}
use Rattle.aug_trie.proofs.Noting.{crew_learnt, crew_learns}
use Rattle.aug_trie.proofs.RoundLemmas.{crew_told}
use Rattle.aug_trie.proofs.rounds.crew.Crew.learn.Goals as goal

pub invariant_of-self : goal.invariant_of-self
invariant_of-self g c = let i = c.self.inside in let crew = crew_told c.self.invariant c.in-Some.is c.self.view_is in let told = c.learn.ensures.view in
    let learnt = crew_learnt (face g.A.Monoid.parts g.B.Monoid.parts) c.in-Some.lead c.note.inside.words c.learn.new.self c.args.self.now c.args.note told.0 i.back i.inserts i.removals crew.0 crew.1 c.note.view_is c.note.invariant told.1 in record { known = c.learn.new.self; there = refl; holds = learnt; opens = λ is. same_opens c.in-Some.lead c.learn.new.self c.learn.ensures.table (ap places_of told.1.loaded.stepped) (crew.2 is) }

pub returns : goal.returns
returns g c = let i = c.self.inside in let crew = crew_told c.self.invariant c.in-Some.is c.self.view_is in let told = c.learn.ensures.view in
    crew_learns (face g.A.Monoid.parts g.B.Monoid.parts) c.in-Some.lead c.note.inside.words c.learn.new.self c.args.self.now c.args.note told.0 i.back i.inserts i.removals crew.0 crew.1 c.note.view_is c.note.invariant told.1 c.learn.ensures.table
