use Rattle.aug_query.proofs.Ways.{top_size}
use Rattle.aug_query.proofs.descent.counts.SizeQuery.run.Goals as goal

pub returns-clause-answer : goal.returns-clause-answer
returns-clause-answer g c = top_size c.bits-bits.result c.count.result c.bits-bits.ensures.set c.top-top.ensures.descends.same_set c.bits-bits.ensures.value c.count.ensures.value
