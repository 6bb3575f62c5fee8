use Rattle.std.proofs.Common.{◌∙◌, ap}
use Rattle.aug_trie.specs.Round.{RoundFacts, table_of}
use Rattle.aug_trie_tests.proofs.lasting_batches.good_rounds.Goals as goal

pub good_batches-requires-clause-together : goal.good_batches-requires-clause-together
good_batches-requires-clause-together c = ap table_of c.loop.invariant.round ∙ c.requires.together

pub good_batches-requires-clause-bits : goal.good_batches-requires-clause-bits
good_batches-requires-clause-bits c = ap (λ (z : RoundFacts). z.bits) c.loop.invariant.round ∙ c.requires.bits
