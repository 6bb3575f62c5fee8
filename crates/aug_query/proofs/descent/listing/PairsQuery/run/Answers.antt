use Rattle.std.proofs.Common.{◌∙◌}
use Rattle.std.proofs.lemmas.Result.{IfOk-weaker}
use Rattle.aug_model.proofs.Pairs.{length-keys_of}
use Rattle.aug_query.proofs.Listed.{pairs-listed}
use Rattle.aug_query.proofs.descent.listing.PairsQuery.run.Goals as goal

pub returns-clause-answer : goal.returns-clause-answer
returns-clause-answer g c = (
  IfOk-weaker c.list.result _ _ (λ list is. is ∙ pairs-listed c.list.ensures.set) c.list.ensures.answer,
  IfOk-weaker c.list.result _ _ (λ list is. is ∙ length-keys_of (g.D.Descend.set_of c.args.tree.now).pairs) c.list.ensures.room,
)
