use Rattle.std.proofs.Common.{refl, arith}
use Rattle.aug_query.proofs.Descents.{past_is}
use Rattle.aug_query.proofs.Ways.{leaf_has}
use Rattle.aug_query.proofs.Descending.{further, still}
use Rattle.aug_query.proofs.descent.members.HasQuery.run.Goals as goal

pub returns-then-universe-k-clause-answer : goal.returns-then-universe-k-clause-answer
returns-then-universe-k-clause-answer g c = past_is c.args.self.0 c.universe.result c.universe.ensures.set c.universe.ensures.value c.if-universe-k.true

pub returns-clause-answer : goal.returns-clause-answer
returns-clause-answer g c =
    let leaf = g.met.D.Descend.name_stands c.leaf_of-leaf.new.tree 0 c.args.self.0 c.leaf_of-leaf.result c.leaf_of-leaf.ensures.name in
    leaf_has c.args.self.0 c.count.result (λ _. refl) leaf c.leaf_of-leaf.ensures.descends.same_set c.count.ensures.value

pub returns-then-universe-k-clause-descends : goal.returns-then-universe-k-clause-descends
returns-then-universe-k-clause-descends g c = still g.met.D.Descend.keeps_so

pub returns-clause-descends : goal.returns-clause-descends
returns-clause-descends g c = further g.met.D.Descend.keeps_on c.leaf_of-leaf.ensures.descends c.count.ensures.descends (omega arith) (omega arith) (omega arith) (omega arith)
