use Rattle.std.proofs.Common.{◌∙◌}
use Rattle.std.proofs.lemmas.List.{map-id}
use Rattle.std.proofs.lemmas.Result.{IfOk-weaker}
use Rattle.aug_model.specs.Keys.{list_of}
use Rattle.aug_query.proofs.descent.listing.KeysQuery.run.Goals as goal

pub returns-clause-answer : goal.returns-clause-answer
returns-clause-answer g c =
    let set = g.D.Descend.set_of c.args.tree.now in
    (IfOk-weaker c.list.result _ _ (λ list is. is ∙ map-id (list_of set)) c.list.ensures.answer, c.list.ensures.room)
