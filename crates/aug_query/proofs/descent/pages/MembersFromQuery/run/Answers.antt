use Rattle.std.proofs.Common.{◌≡◌, take, ap, ◌∙◌, arith}
use Rattle.std.proofs.Math.Nat.{max-eq_right}
use Rattle.aug_query.specs.Yields.{members_from}
use Rattle.aug_query.proofs.Pages.{page_keys}
use Rattle.aug_query.proofs.descent.pages.MembersFromQuery.run.Goals as goal

pub returns-clause-answer : goal.returns-clause-answer
returns-clause-answer g c =
    let set = g.D.Descend.set_of c.args.tree.now in let k = c.args.self.0 in
    let told : c.page_of.result.items ≡ take 32 (members_from set k) = c.page_of.ensures.answer ∙ ap (λ n. take 32 (members_from set n)) (max-eq_right {n = 0} {m = k} (omega arith)) in
    (told, page_keys set k c.page_of.result.items c.page_of.ensures.set told)
