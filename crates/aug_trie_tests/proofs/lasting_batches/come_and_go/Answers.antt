use Rattle.std.proofs.Common.{◌∙◌, ap}
use Rattle.aug_trie.specs.Round.{RoundFacts, table_of}
use Rattle.aug_trie_tests.proofs.lasting_batches.come_and_go.Goals as goal

pub batch-put-requires-clause-together : goal.batch-put-requires-clause-together
batch-put-requires-clause-together c = ap table_of c.loop.invariant.round ∙ c.requires.together

pub batch-put-requires-clause-bits : goal.batch-put-requires-clause-bits
batch-put-requires-clause-bits c = ap (λ (z : RoundFacts). z.bits) c.loop.invariant.round ∙ c.requires.bits
