use Rattle.std.proofs.Common.{refl, arith}
use Rattle.aug_query.proofs.Ways.{leaf_weighs, leaf_weighs_none}
use Rattle.aug_query.proofs.descent.since.weight_of_member.Goals as goal

pub returns-then-count-eq0 : goal.returns-then-count-eq0
returns-then-count-eq0 g c =
    let leaf = g.met.D.Descend.name_stands c.args.tree.now 0 c.args.key c.args.leaf.now c.requires.name in
    leaf_weighs_none c.args.key c.args.count (λ _. refl) leaf refl c.requires.count c.if-count-eq0.true

pub returns : goal.returns
returns g c =
    let leaf = g.met.D.Descend.name_stands c.args.tree.now 0 c.args.key c.args.leaf.now c.requires.name in
    leaf_weighs c.args.key c.args.count (λ _. refl) leaf refl c.requires.count _ c.weight.result (omega (arith, c.if-count-eq0.false)) refl c.weight.ensures
