use Rattle.std.proofs.Common.{◌∙◌, ap}
use Rattle.aug_trie.specs.Round.{RoundFacts, table_of}
use Rattle.aug_trie_tests.proofs.lasting.good_rows.Goals as goal

pub asked-requires-clause-first : goal.asked-requires-clause-first
asked-requires-clause-first c = let same = c.loop-other.invariant.first in let was = c.requires.first in (ap table_of same.0 ∙ was.0, ap (λ (z : RoundFacts). z.bits) same.0 ∙ was.1, same.1)

pub asked-requires-clause-second : goal.asked-requires-clause-second
asked-requires-clause-second c = let same = c.loop-other.invariant.second in let was = c.requires.second in (ap table_of same.0 ∙ was.0, ap (λ (z : RoundFacts). z.bits) same.0 ∙ was.1, same.1)
