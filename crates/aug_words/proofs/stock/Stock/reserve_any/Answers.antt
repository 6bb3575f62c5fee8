use Rattle.std.proofs.Common.{◌∙◌, arith}
use Rattle.aug_core.specs.declared.view.SeatView.{SeatView}
use Rattle.aug_words.specs.Stocks.{that_era, later_eras}
use Rattle.aug_words.proofs.Held.{goes_by_on, goes_by_anew, goes_by_late}
use Rattle.aug_words.proofs.stock.Stock.reserve_any.Goals as goal

pub returns-then-not-reserve-clause-goes : goal.returns-then-not-reserve-clause-goes
returns-then-not-reserve-clause-goes g c = let v : SeatView = c.args.pass.now.view in let u : SeatView = c.reserve.new.pass.view in let w : SeatView = c.reserve_later.new.pass.view in record {
  table = c.reserve_later.ensures.step.table ∙ c.reserve.ensures.table;
  view = goes_by_on 1 2 3 v u w (omega arith) (goes_by_late v u c.if-not-reserve.ensures.late) (goes_by_anew later_eras 2 u w _ c.reserve_later.ensures.step.view);
}

pub returns-else-not-reserve-clause-goes : goal.returns-else-not-reserve-clause-goes
returns-else-not-reserve-clause-goes g c = record { table = c.reserve.ensures.table; view = goes_by_anew that_era 3 c.args.pass.now.view c.reserve.new.pass.view _ c.if-not-reserve.ensures.reserves }
