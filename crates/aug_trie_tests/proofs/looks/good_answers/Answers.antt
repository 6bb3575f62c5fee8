use Rattle.std.proofs.Common.{◌∙◌, ap}
use Rattle.aug_trie.specs.Round.{table_of}
use Rattle.aug_trie_tests.proofs.looks.good_answers.Goals as goal

pub shown-requires-clause-together : goal.shown-requires-clause-together
shown-requires-clause-together c = ap table_of c.loop-act.invariant.round ∙ c.requires.together
