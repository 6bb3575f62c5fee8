use Rattle.std.proofs.Common.{ap, ◌∙◌}
use Rattle.aug_query.proofs.Extents.{first_of_all}
use Rattle.aug_query.proofs.descent.ends.FirstQueryExtent.run.Goals as goal

pub returns-clause-answer : goal.returns-clause-answer
returns-clause-answer g c =
    c.least_of.ensures
    ∙ first_of_all (g.D.Descend.set_of c.args.tree.now) (g.D.Descend.set_of c.top-top.new.self) c.bits-bits.result c.summary.result.b c.bits-bits.ensures.set c.bits-bits.ensures.value c.top-top.ensures.descends.same_set (ap (λ s. s.b) c.summary.ensures.value)
