use Rattle.std.proofs.Common.{[], refl, sym, ap, ◌∙◌, subst, arith}
use Rattle.aug_core.specs.Places.{era_place}
use Rattle.aug_core.specs.Kinds.{turn_era}
use Rattle.aug_core.specs.declared.view.SeatView.{SeatView}
use Rattle.aug_words.specs.Seats.{Known}
use Rattle.aug_words.specs.Stocks.{StockFacts, Stocks, ReservesAnew, that_era}
use Rattle.aug_words.proofs.Stocking.{no_try_none, no_try_one, reserves_anew, turned_on, not_turned, stocks_anew}
use Rattle.aug_words.proofs.stock.Stock.reserve.Goals.{then-found-eq0, else-found-eq0}
use Rattle.aug_words.proofs.stock.Stock.reserve.Goals as goal

pub returns-clause-reserves : goal.returns-clause-reserves
returns-clause-reserves g c = let v : SeatView = c.args.pass.now.view in let u : SeatView = c.load_era-found.new.self.view in let t : SeatView = c.if-found-eq0.pass.view in let loaded = c.load_era-found.ensures.view in
    elim c.if-found-eq0.branch [
      | then-found-eq0 w ↦ reserves_anew v u t c.reserve_era.new.self.view c.load_era-found.result c.max-era.result _ that_era loaded (turned_on u t _ _ (ap (λ (k : Known). k.view) w.pass-is ∙ w.turn_era.ensures.view.stepped)) (no_try_one (turn_era (era_place u.shape) 0 _) refl) c.max-era.ensures c.reserve_era.ensures.view 3 (omega arith)
      | else-found-eq0 w ↦ reserves_anew v u t c.reserve_era.new.self.view c.load_era-found.result c.max-era.result [] that_era loaded (not_turned u t (ap (λ (k : Known). k.view) w.pass-is)) no_try_none c.max-era.ensures c.reserve_era.ensures.view 3 (omega arith)
    ]

pub returns-clause-stocks : goal.returns-clause-stocks
returns-clause-stocks g c = let v : SeatView = c.args.pass.now.view in let u : SeatView = c.load_era-found.new.self.view in let t : SeatView = c.if-found-eq0.pass.view in let loaded = c.load_era-found.ensures.view in
    let anew : ReservesAnew that_era 3 v c.reserve_era.new.self.view c.max-era.result = elim c.if-found-eq0.branch [
      | then-found-eq0 w ↦ reserves_anew v u t c.reserve_era.new.self.view c.load_era-found.result c.max-era.result _ that_era loaded (turned_on u t _ _ (ap (λ (k : Known). k.view) w.pass-is ∙ w.turn_era.ensures.view.stepped)) (no_try_one (turn_era (era_place u.shape) 0 _) refl) c.max-era.ensures c.reserve_era.ensures.view 3 (omega arith)
      | else-found-eq0 w ↦ reserves_anew v u t c.reserve_era.new.self.view c.load_era-found.result c.max-era.result [] that_era loaded (not_turned u t (ap (λ (k : Known). k.view) w.pass-is)) no_try_none c.max-era.ensures c.reserve_era.ensures.view 3 (omega arith)
    ] in
    subst (λ (k : StockFacts). Stocks c.reserve_era.new.self.view (record k { era = c.max-era.result })) (sym c.self.view_is) (stocks_anew that_era 3 v c.reserve_era.new.self.view c.args.self.now c.max-era.result (let is = c.max-era.ensures in omega arith) c.requires.stocks anew)
