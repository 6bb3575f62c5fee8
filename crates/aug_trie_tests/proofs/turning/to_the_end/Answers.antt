use Rattle.std.proofs.Common.{refl, ap, ◌∙◌}
use Rattle.aug_trie.specs.Climb.{ClimbFacts}
use Rattle.aug_trie.specs.Pass.{PassFacts}
use Rattle.aug_trie_tests.proofs.turning.to_the_end.Goals as goal

pub loop-made-preserved : goal.loop-made-preserved
loop-made-preserved c = ap (λ (z : ClimbFacts). z.start) (c.in-More.ensures.more c.in-More.next refl).same ∙ c.loop-made.invariant

pub returns-in-Done : goal.returns-in-Done
returns-in-Done c = ap (λ (z : PassFacts). z.round) (c.in-Done.ensures.done c.in-Done.pass c.in-Done.outcome refl).goes_on.1.same ∙ ap (λ (z : PassFacts). z.round) c.loop-made.invariant
