use Rattle.std.proofs.Common.{[], ◌∷◌, sym, subst}
use Rattle.aug_core.specs.declared.view.SeatView.{SeatView}
use Rattle.aug_words.specs.Stocks.{Stocks}
use Rattle.aug_words.proofs.Stocking.{stocks_stored}
use Rattle.aug_words_tests.proofs.reusing.spoil.Goals as goal

pub returns-clause-stocks : goal.returns-clause-stocks
returns-clause-stocks g c = subst (λ (z : SeatView). Stocks z c.args.stock.now) (sym c.fill.ensures.1) (stocks_stored c.args.pass.now.view c.args.stock.now c.next.result (99 ∷ 99 ∷ 99 ∷ 99 ∷ 99 ∷ []) 5 c.requires.stocks)
