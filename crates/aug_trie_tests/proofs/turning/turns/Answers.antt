use Rattle.std.proofs.Common.{ap, refl, ◌∙◌}
use Rattle.aug_trie.specs.Climb.{ClimbFacts}
use Rattle.aug_trie_tests.proofs.turning.turns.Goals as goal

pub loop-preserved : goal.loop-preserved
loop-preserved c = ap (λ (z : ClimbFacts). z.start) (c.in-More.ensures.more c.in-More.next refl).same ∙ c.loop.invariant
