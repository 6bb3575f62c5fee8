use Rattle.std.proofs.Common.{sym, subst}
use Rattle.aug_words.specs.Stocks.{StockFacts, Stocks}
use Rattle.aug_words.proofs.Stocking.{stocks_released}
use Rattle.aug_words.proofs.stock.Stock.release.Goals as goal

pub returns-clause-stocks : goal.returns-clause-stocks
returns-clause-stocks g c = subst (λ (k : StockFacts). Stocks c.release_era.new.self.view (record k { era = 0 })) (sym c.self.view_is)
    (stocks_released c.args.pass.now.view c.release_era.new.self.view c.args.self.now c.requires.stocks c.release_era.ensures.view)
