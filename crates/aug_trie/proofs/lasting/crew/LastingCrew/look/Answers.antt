use Rattle.std.proofs.Common.{refl, ap, ◌∙◌}
use Rattle.aug_core.specs.Faces.{face}
use Rattle.aug_trie.specs.Crew.{CrewFacts}
use Rattle.aug_trie.specs.Round.{table_of}
use Rattle.aug_trie.proofs.LastingAccounts.{looks_on, lasting_looks, knows_all}
use Rattle.aug_trie.proofs.LastingCalls.{at_lasting}
use Rattle.aug_trie.proofs.lasting.crew.LastingCrew.look.Goals as goal

pub survey-requires : goal.survey-requires
survey-requires g c = record { together = at_lasting c.table.inside.words c.self.inside.lead c.args.table.now c.table.invariant.lasts c.self.invariant.1.lasts (ap (λ (z : CrewFacts). table_of z.round) c.self.view_is ∙ c.requires.together) c.table.view_is }

pub invariant_of-self : goal.invariant_of-self
invariant_of-self g c = let crew = c.self.invariant in
    (crew.0, looks_on (face g.A.Monoid.parts g.B.Monoid.parts) c.self.inside.lead c.args.self.now crew.0 c.survey.result c.survey.new.self.view crew.1 c.self.view_is c.survey.ensures.view.loaded)

pub returns-clause-looks : goal.returns-clause-looks
returns-clause-looks g c = let crew = c.self.invariant in
    lasting_looks (face g.A.Monoid.parts g.B.Monoid.parts) c.self.inside.lead c.args.self.now crew.0 c.survey.result c.survey.new.self.view crew.1 c.self.view_is c.survey.ensures.view.loaded c.survey.new.self c.survey.ensures.table refl

pub returns-clause-account : goal.returns-clause-account
returns-clause-account g c = let crew = c.self.invariant in let s = c.survey.ensures.view in
    knows_all (face g.A.Monoid.parts g.B.Monoid.parts) c.self.inside.lead c.args.self.now crew.0 c.survey.result c.survey.new.self.view crew.1 c.self.view_is s.loaded s.words s.ends c.survey.new.self refl
