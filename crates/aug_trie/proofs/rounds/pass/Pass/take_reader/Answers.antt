use Rattle.std.proofs.Common.{◌≡◌, ap}
use Rattle.std.proofs.lemmas.Result.{IfOk-at_ok, IfErr-at_err}
use Rattle.aug_core.specs.Faces.{face}
use Rattle.aug_words.specs.Seats.{Known}
use Rattle.aug_trie.proofs.Lending.{lent_alone, lent_holds}
use Rattle.aug_trie.proofs.rounds.pass.Pass.take_reader.Goals.{in-Ok, in-Err}
use Rattle.aug_trie.proofs.rounds.pass.Pass.take_reader.Goals as goal

pub invariant_of-self : goal.invariant_of-self
invariant_of-self g c = let i = c.self.inside in let k : Known = c.in-Some-words.words in let w : Known = c.take.new.self in
    let lent : w.view ≡ record k.view { lent = w.view.lent } = elim c.match-take.branch [
      | in-Ok t ↦ lent_alone k.view w.view _ (IfOk-at_ok _ t.in-Ok.is c.take.ensures.taken)
      | in-Err t ↦ lent_alone k.view w.view k.view.lent (ap (λ (z : Known). z.view) (IfErr-at_err _ t.in-Err.is c.take.ensures.same).1)
    ] in
    lent_holds (face g.A.Monoid.parts g.B.Monoid.parts) i.words k w i.account c.args.self.now c.self.invariant c.in-Some-words.is c.self.view_is lent
