use Rattle.std.proofs.Common.{◌≢◌, ap, sym, ◌∙◌}
use mathlib.Core.Bool.{false≢true}
use Rattle.aug_core.specs.declared.view.SeatView.{SeatView}
use Rattle.aug_core.proofs.Clients.{may_store_same}
use Rattle.aug_words.proofs.Passes.{names_plainly, told_plainly}
use Rattle.aug_words_tests.proofs.steps.publish.Goals as goal

pub try_node-requires-clause-own : goal.try_node-requires-clause-own
try_node-requires-clause-own g c = names_plainly c.requires.round c.requires.own c.requires.filled

pub returns-clause-same : goal.returns-clause-same
returns-clause-same g c = (c.try_node.ensures.table, (told_plainly c.requires.round c.requires.own c.try_node.ensures.view).shaped)

pub returns-clause-own : goal.returns-clause-own
returns-clause-own g c = λ bad. let t = c.try_node.ensures.view in let told = told_plainly c.requires.round c.requires.own t in
    let miss : t.found ≢ c.args.from = λ same. false≢true (sym bad ∙ t.decided.1 same) in
    may_store_same _ _ c.args.number (ap (λ (z : SeatView). z.shape) (told.miss miss).0) (ap (λ (z : SeatView). z.held) (told.miss miss).0) c.requires.own
