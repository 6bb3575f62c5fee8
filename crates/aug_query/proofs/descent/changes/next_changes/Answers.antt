use Rattle.std.proofs.Common.{ℕ, ◌*◌, subst}
use Rattle.aug_query.specs.DescendBoth.{DescendsBoth, nodes_that_differ}
use Rattle.aug_query.proofs.Changing.{page_changes}
use Rattle.aug_query.proofs.descent.changes.next_changes.Goals as goal

pub returns-clause-answer : goal.returns-clause-answer
returns-clause-answer g c = page_changes (g.D.DescendBoth.both_of c.args.trees.now) c.args.from c.bits-bits.result c.new-page.result.items c.append_changes.new.page.items c.bits-bits.ensures.sets c.bits-bits.ensures.value c.new-page.ensures c.append_changes.ensures.answer

pub returns-clause-descends : goal.returns-clause-descends
returns-clause-descends g c = let d = g.D.DescendBoth in
    subst (λ (z : ℕ). DescendsBoth d.both_of d.loads_of d.Names d.KeepsRest (2 * nodes_that_differ (d.both_of c.args.trees.now).same c.args.from z 0) c.args.trees.now c.append_changes.new.trees) c.bits-bits.ensures.value c.append_changes.ensures.descends
