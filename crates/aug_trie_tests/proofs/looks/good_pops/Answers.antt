use Rattle.std.proofs.Common.{◌∙◌, ap}
use Rattle.aug_trie.specs.Round.{table_of}
use Rattle.aug_trie_tests.proofs.looks.good_pops.Goals as goal

pub popped-requires-clause-together : goal.popped-requires-clause-together
popped-requires-clause-together c = ap table_of c.loop-side.invariant.round ∙ c.requires.together
