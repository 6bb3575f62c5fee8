use Rattle.std.proofs.Common.{◌∙◌, ap, subst, List}
use Rattle.aug_core.specs.Cuts.{Cut}
use Rattle.aug_core.specs.Prefixes.{IsPrefix}
use Rattle.aug_core.proofs.PrefixLemmas.{prefix_trans}
use Rattle.aug_trie.specs.Note.{NoteFacts}
use Rattle.aug_trie.specs.Round.{RoundFacts}
use Rattle.aug_trie_tests.proofs.looks.passed_on.Goals as goal

pub returns-clause-all : goal.returns-clause-all
returns-clause-all c = let says = c.note-note.ensures.note in let same = ap (λ (z : NoteFacts). z.round.era) says ∙ ap (λ (z : RoundFacts). z.era) c.requires.one_round in
    subst (λ (z : List Cut). IsPrefix z c.look.new.self.pass.knows.history) (ap (λ (z : NoteFacts). z.history) says) (prefix_trans c.note-note.result.history c.learn.new.self.pass.knows.history c.look.new.self.pass.knows.history (c.learn.ensures.learns.of_era same) c.look.ensures.takes.goes_on)
