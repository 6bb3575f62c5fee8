use Rattle.std.proofs.Common.{[], ◌+◌, ◌∙◌, refl, sym, ap, subst, arith}
use Rattle.aug_core.specs.declared.view.SeatView.{SeatView}
use Rattle.aug_words.specs.Stocks.{StockFacts, Stocks, ReservesAnew, later_eras}
use Rattle.aug_words.proofs.Stocking.{no_try_none, reserves_anew, not_turned, stocks_anew}
use Rattle.aug_words.proofs.stock.Stock.reserve_later.Goals.{After-reserve_era}
use Rattle.aug_words.proofs.stock.Stock.reserve_later.Goals as goal

anew : (g : _) (c : After-reserve_era g) → ReservesAnew later_eras 2 c.args.pass.now.view c.reserve_era.new.self.view (9223372036854775808 + c.min-later.result)
anew g c = let u : SeatView = c.load_era-found.new.self.view in
    reserves_anew c.args.pass.now.view u u c.reserve_era.new.self.view c.load_era-found.result _ [] later_eras c.load_era-found.ensures.view (not_turned u u refl) no_try_none (ap (λ z. 9223372036854775808 + z) c.min-later.ensures) c.reserve_era.ensures.view 2 (omega arith)

pub returns-clause-step : goal.returns-clause-step
returns-clause-step g c = record { table = c.reserve_era.ensures.table ∙ c.load_era-found.ensures.table; view = anew g (goal.at.returns-clause-step g c).After-reserve_era }

pub returns-clause-stocks : goal.returns-clause-stocks
returns-clause-stocks g c = subst (λ (k : StockFacts). Stocks c.reserve_era.new.self.view (record k { era = 9223372036854775808 + c.min-later.result })) (sym c.self.view_is)
    (stocks_anew later_eras 2 c.args.pass.now.view c.reserve_era.new.self.view c.args.self.now _ (omega arith) c.requires.stocks (anew g (goal.at.returns-clause-stocks g c).After-reserve_era))
