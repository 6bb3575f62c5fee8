use Rattle.aug_query.proofs.Changing.{changed_keys}
use Rattle.aug_query.proofs.descent.since.ChangesSinceQuery.run.Goals as goal

pub returns-clause-answer : goal.returns-clause-answer
returns-clause-answer g c = let told = c.page_since.ensures.answer in
    (told, changed_keys (g.L.MemberList.set_of c.args.self.before.now) (g.D.Descend.set_of c.args.tree.now) c.args.self.from c.page_since.result.items c.page_since.ensures.set told)
