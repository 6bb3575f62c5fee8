use Rattle.std.proofs.Common.{refl, subst}
use Rattle.std.proofs.Math.Nat.{div-one}
use Rattle.aug_query.proofs.Ways.{leaf_has}
use Rattle.aug_query.proofs.descent.by_key.HasByKey.end.Goals as goal

pub returns-clause-answer : goal.returns-clause-answer
returns-clause-answer g c =
    let name = subst (λ k. g.D.Descend.Names c.toward-leaf.new.tree 0 k c.toward-leaf.result) (div-one c.args.k) c.toward-leaf.ensures.name in
    let leaf = g.met.D.Descend.name_stands c.toward-leaf.new.tree 0 c.args.k c.toward-leaf.result name in
    leaf_has c.args.k c.count.result (λ _. refl) leaf c.toward-leaf.ensures.descends.same_set c.count.ensures.value
