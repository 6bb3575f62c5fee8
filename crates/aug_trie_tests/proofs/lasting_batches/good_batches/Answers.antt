use Rattle.std.proofs.Common.{◌∙◌, ap}
use Rattle.aug_trie.specs.Round.{RoundFacts, table_of}
use Rattle.aug_trie_tests.proofs.lasting_batches.good_batches.Goals as goal

pub batch-requires-clause-together : goal.batch-requires-clause-together
batch-requires-clause-together c = ap table_of c.loop-keys.invariant.round ∙ c.requires.together

pub batch-requires-clause-bits : goal.batch-requires-clause-bits
batch-requires-clause-bits c = ap (λ (z : RoundFacts). z.bits) c.loop-keys.invariant.round ∙ c.requires.bits
