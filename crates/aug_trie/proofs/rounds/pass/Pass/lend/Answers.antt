use Rattle.aug_core.specs.Faces.{face}
use Rattle.aug_trie.proofs.Lending.{lent_alone, lent_holds}
use Rattle.std.proofs.Common.{◌∷◌}
use Rattle.aug_trie.proofs.rounds.pass.Pass.lend.Goals as goal

pub invariant_of-self : goal.invariant_of-self
invariant_of-self g c = let i = c.self.inside in let k = c.in-Some.words in let w = c.lend.new.self in
    lent_holds (face g.A.Monoid.parts g.B.Monoid.parts) i.words k w i.account c.args.self.now c.self.invariant c.in-Some.is c.self.view_is
    (lent_alone k.view w.view (k.view.base ∷ k.view.lent) c.lend.ensures.lends)
