use Rattle.std.proofs.Common.{arith}
use Rattle.aug_query.proofs.Descents.{past_weighs_none}
use Rattle.aug_query.proofs.Descending.{further, still}
use Rattle.aug_query.proofs.descent.members.WeightQuery.run.Goals as goal

pub returns-then-universe-k-clause-answer : goal.returns-then-universe-k-clause-answer
returns-then-universe-k-clause-answer g c = past_weighs_none c.args.self.0 c.universe.result c.universe.ensures.set c.universe.ensures.value c.if-universe-k.true

pub returns-then-universe-k-clause-descends : goal.returns-then-universe-k-clause-descends
returns-then-universe-k-clause-descends g c = still g.met.D.Descend.keeps_so

pub returns-clause-descends : goal.returns-clause-descends
returns-clause-descends g c = further g.met.D.Descend.keeps_on c.leaf_of-leaf.ensures.descends c.weight_of_leaf.ensures.descends (omega arith) (omega arith) (omega arith) (omega arith)
