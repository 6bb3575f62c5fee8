use Rattle.std.proofs.Common.{◌≡◌, refl, ap}
use Rattle.std.proofs.lemmas.Result.{IfOk-at_ok, IfErr-at_err}
use Rattle.aug_core.specs.Faces.{face}
use Rattle.aug_words.specs.Leads.{MayOpen}
use Rattle.aug_words.specs.Seats.{Known}
use Rattle.aug_trie.proofs.Freeing.{places_of, same_opens, taken_opens}
use Rattle.aug_trie.proofs.Lending.{lent_alone, lent_crew}
use Rattle.aug_trie.proofs.RoundLemmas.{crew_told}
use Rattle.aug_trie.proofs.rounds.crew.Crew.take_reader.Goals.{in-Ok, in-Err}
use Rattle.aug_trie.proofs.rounds.crew.Crew.take_reader.Goals as goal

pub invariant_of-self : goal.invariant_of-self
invariant_of-self g c = let i = c.self.inside in let k : Known = c.in-Some-lead.lead in let w : Known = c.take.new.self in let told = crew_told c.self.invariant c.in-Some-lead.is c.self.view_is in
    let lent : w.view ≡ record k.view { lent = w.view.lent } = elim c.match-take.branch [
      | in-Ok t ↦ lent_alone k.view w.view _ (IfOk-at_ok _ t.in-Ok.is c.take.ensures.taken)
      | in-Err t ↦ lent_alone k.view w.view k.view.lent (ap (λ (z : Known). z.view) (IfErr-at_err _ t.in-Err.is c.take.ensures.same).1)
    ] in
    let opens : MayOpen k → MayOpen w = elim c.match-take.branch [
      | in-Ok t ↦ taken_opens k w c.take.ensures.table c.in-Some.words.view (IfOk-at_ok _ t.in-Ok.is c.take.ensures.taken)
      | in-Err t ↦ same_opens k w c.take.ensures.table (ap (λ (z : Known). places_of z.view) (IfErr-at_err _ t.in-Err.is c.take.ensures.same).1)
    ] in
    record { known = w; there = refl; holds = lent_crew (face g.A.Monoid.parts g.B.Monoid.parts) k.view w.view i.back i.inserts i.removals lent told.0; opens = λ is. opens (told.2 is) }
