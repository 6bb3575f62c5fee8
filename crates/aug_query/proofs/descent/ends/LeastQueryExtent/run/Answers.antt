use Rattle.std.proofs.Common.{ap, ◌∙◌}
use Rattle.aug_query.proofs.Extents.{first_of_range}
use Rattle.aug_query.proofs.descent.ends.LeastQueryExtent.run.Goals as goal

pub returns-clause-answer : goal.returns-clause-answer
returns-clause-answer g c =
    c.least_of.ensures ∙ first_of_range (g.D.Descend.set_of c.args.tree.now) c.args.self.0 c.args.self.1 c.run.result.b c.bits-bits.ensures.set (ap (λ s. s.b) c.run.ensures.answer)
