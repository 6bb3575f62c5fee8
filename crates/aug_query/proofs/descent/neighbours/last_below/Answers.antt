use Rattle.std.proofs.Common.{Some, refl, sym, ap, arith}
use Rattle.aug_model.specs.Keys.{list_of}
use Rattle.aug_model.specs.Queries.{last_of}
use Rattle.aug_query.proofs.Nodes.{top_covers}
use Rattle.aug_query.proofs.Beside.{told_is}
use Rattle.aug_query.proofs.Descending.{further, within}
use Rattle.aug_query.proofs.descent.neighbours.last_below.Goals as goal

pub returns-clause-answer : goal.returns-clause-answer
returns-clause-answer g c =
    let node = g.met.D.Descend.name_stands c.args.tree.now _ _ c.args.top c.requires.name in
    told_is last_of (Some c.nearest.result) (last_of (list_of (g.D.Descend.set_of c.args.tree.now))) c.args.level 0 c.count.ensures.descends.same_set c.nearest.ensures.answer (sym (ap last_of (top_covers node c.requires.level refl)))

pub returns-then-count-eq0-clause-descends : goal.returns-then-count-eq0-clause-descends
returns-then-count-eq0-clause-descends g c = within c.count.ensures.descends (omega arith) (omega arith) (omega arith) (omega arith)

pub returns-clause-descends : goal.returns-clause-descends
returns-clause-descends g c = further g.met.D.Descend.keeps_on c.count.ensures.descends c.nearest.ensures.descends (omega arith) (omega arith) (omega arith) (omega arith)
