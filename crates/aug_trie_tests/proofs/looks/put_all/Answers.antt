use Rattle.std.proofs.Common.{◌∙◌, ap}
use Rattle.aug_trie.specs.Round.{RoundFacts, table_of}
use Rattle.aug_trie_tests.proofs.looks.put_all.Goals as goal

pub was_put-requires-clause-together : goal.was_put-requires-clause-together
was_put-requires-clause-together c = ap table_of c.loop-pair.invariant.round ∙ c.requires.together

pub was_put-requires-clause-bits : goal.was_put-requires-clause-bits
was_put-requires-clause-bits c = ap (λ (z : RoundFacts). z.bits) c.loop-pair.invariant.round ∙ c.requires.bits
