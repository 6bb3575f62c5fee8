use Rattle.std.proofs.Common.{inr, ◌≤◌, ◌^◌, ap, sym, ◌∙◌, subst, arith}
use Rattle.aug_core.specs.Addresses.{IsInner}
use Rattle.aug_core.specs.Faces.{face}
use Rattle.aug_core.specs.Places.{Shape}
use Rattle.aug_core.specs.declared.view.SeatView.{SeatView}
use Rattle.aug_words.specs.Stocks.{GoesBy, later_eras}
use Rattle.aug_words.proofs.Held.{goes_by_on, goes_by_anew, seen_over_on, stocks_still, three_held, over_before}
use Rattle.aug_words.proofs.stock.Stock.load_over.Goals as goal

pub returns-in-Some-try_over-clause-loads : goal.returns-in-Some-try_over-clause-loads
returns-in-Some-try_over-clause-loads g c = let f = face g.A.Monoid.parts g.B.Monoid.parts in let v : SeatView = c.args.pass.now.view in let a : SeatView = c.try_over.new.pass.view in let b : SeatView = c.reserve_any.new.pass.view in record {
  table = c.try_over-2.ensures.still.table ∙ c.reserve_any.ensures.goes.table ∙ c.try_over.ensures.still.table;
  view = over_before f 6 3 14 _ v b c.try_over-2.new.pass.view c.args.node c.in-Some-try_over.found (omega arith) (goes_by_on 3 3 6 v a b (omega arith) c.try_over.ensures.still.view.goes c.reserve_any.ensures.goes.view) c.in-Some-try_over.ensures.loads;
}

pub returns-clause-loads : goal.returns-clause-loads
returns-clause-loads g c = let f = face g.A.Monoid.parts g.B.Monoid.parts in let v : SeatView = c.args.pass.now.view in let a : SeatView = c.try_over.new.pass.view in let b : SeatView = c.reserve_any.new.pass.view in
    let d : SeatView = c.try_over-2.new.pass.view in let u : SeatView = c.reserve_later.new.pass.view in let w : SeatView = c.load_words.new.pass.view in let r = c.load_words.result in let anew = c.reserve_later.ensures.step.view in
    let k = c.reserve_later.new.self in let before : GoesBy 11 v u = goes_by_on 9 2 11 v d u (omega arith) (goes_by_on 6 3 9 v b d (omega arith) (goes_by_on 3 3 6 v a b (omega arith) c.try_over.ensures.still.view.goes c.reserve_any.ensures.goes.view) c.try_over-2.ensures.still.view.goes)
    (goes_by_anew later_eras 2 d u _ anew) in
    let shaped = ap (λ (z : SeatView). z.shape) before.same in let era = anew.era_found in let far : 2 ^ 63 ≤ k.era = omega arith in record {
      table = c.load_words.ensures.table ∙ c.reserve_later.ensures.step.table ∙ c.try_over-2.ensures.still.table ∙ c.reserve_any.ensures.goes.table ∙ c.try_over.ensures.still.table;
      view = over_before f 11 3 14 _ v u w c.args.node r (omega arith) before
          (three_held f u w k c.args.node r (omega arith) c.reserve_later.ensures.stocks (subst (λ (z : Shape). IsInner z c.args.node) (sym shaped) c.requires.inner) (omega arith) (λ past. (omega arith, omega arith)) c.load_words.ensures.view);
    }

pub returns-clause-stocks : goal.returns-clause-stocks
returns-clause-stocks g c = stocks_still 3 c.reserve_later.new.pass.view c.load_words.new.pass.view c.reserve_later.new.self c.reserve_later.ensures.stocks c.load_words.ensures.view.still

pub returns-in-Some-try_over-clause-kept : goal.returns-in-Some-try_over-clause-kept
returns-in-Some-try_over-clause-kept g c = let a : SeatView = c.try_over.new.pass.view in let b : SeatView = c.reserve_any.new.pass.view in let w : SeatView = c.try_over-2.new.pass.view in
    inr (seen_over_on 6 a w c.args.node c.args.self.now.era (goes_by_on 3 3 6 a b w (omega arith) c.reserve_any.ensures.goes.view c.try_over-2.ensures.still.view.goes) c.in_default.ensures.late)

pub returns-clause-kept : goal.returns-clause-kept
returns-clause-kept g c = let a : SeatView = c.try_over.new.pass.view in let b : SeatView = c.reserve_any.new.pass.view in let d : SeatView = c.try_over-2.new.pass.view in let u : SeatView = c.reserve_later.new.pass.view in let w : SeatView = c.load_words.new.pass.view in
    inr (seen_over_on 11 a w c.args.node c.args.self.now.era (goes_by_on 8 3 11 a u w (omega arith) (goes_by_on 6 2 8 a d u (omega arith) (goes_by_on 3 3 6 a b d (omega arith) c.reserve_any.ensures.goes.view c.try_over-2.ensures.still.view.goes)
    (goes_by_anew later_eras 2 d u _ c.reserve_later.ensures.step.view)) c.load_words.ensures.view.still.goes) c.in_default.ensures.late)
