use Rattle.std.proofs.Common.{take, reverse, ap, ◌∙◌}
use Rattle.aug_query.proofs.Pages.{below_clipped}
use Rattle.aug_query.proofs.descent.pages.MembersBelowQuery.run.Goals as goal

pub returns-clause-answer : goal.returns-clause-answer
returns-clause-answer g c = c.page_of.ensures.answer ∙ ap (λ xs. take 32 (reverse xs)) (below_clipped (g.D.Descend.set_of c.args.tree.now) c.args.self.0 c.page_of.ensures.set)
