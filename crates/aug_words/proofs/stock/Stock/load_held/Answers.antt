use Rattle.std.proofs.Common.{inr, ◌≤◌, ◌^◌, ap, sym, ◌∙◌, subst, arith}
use Rattle.aug_core.specs.Addresses.{IsInner}
use Rattle.aug_core.specs.Faces.{face}
use Rattle.aug_core.specs.Places.{Shape}
use Rattle.aug_core.specs.declared.view.SeatView.{SeatView}
use Rattle.aug_words.specs.Stocks.{GoesBy, later_eras}
use Rattle.aug_words.proofs.Held.{goes_by_on, goes_by_anew, seen_later_on, stocks_still, word_of_node_loaded, word_held, held_before}
use Rattle.aug_words.proofs.stock.Stock.load_held.Goals as goal

pub returns-in-Some-try_held-clause-loads : goal.returns-in-Some-try_held-clause-loads
returns-in-Some-try_held-clause-loads g c = let f = face g.A.Monoid.parts g.B.Monoid.parts in let v : SeatView = c.args.pass.now.view in let a : SeatView = c.try_held.new.pass.view in let b : SeatView = c.reserve_any.new.pass.view in record {
  table = c.try_held-2.ensures.still.table ∙ c.reserve_any.ensures.goes.table ∙ c.try_held.ensures.still.table;
  view = held_before f 4 1 8 v b c.try_held-2.new.pass.view c.args.node c.in-Some-try_held.found (omega arith) (goes_by_on 1 3 4 v a b (omega arith) c.try_held.ensures.still.view.goes c.reserve_any.ensures.goes.view) c.in-Some-try_held.ensures.loads;
}

pub returns-clause-loads : goal.returns-clause-loads
returns-clause-loads g c = let f = face g.A.Monoid.parts g.B.Monoid.parts in let v : SeatView = c.args.pass.now.view in let a : SeatView = c.try_held.new.pass.view in let b : SeatView = c.reserve_any.new.pass.view in
    let d : SeatView = c.try_held-2.new.pass.view in let u : SeatView = c.reserve_later.new.pass.view in let w : SeatView = c.load_node.new.self.view in let r = c.load_node.result in let anew = c.reserve_later.ensures.step.view in
    let k = c.reserve_later.new.self in let before : GoesBy 7 v u = goes_by_on 5 2 7 v d u (omega arith) (goes_by_on 4 1 5 v b d (omega arith) (goes_by_on 1 3 4 v a b (omega arith) c.try_held.ensures.still.view.goes c.reserve_any.ensures.goes.view) c.try_held-2.ensures.still.view.goes)
    (goes_by_anew later_eras 2 d u _ anew) in
    let shaped = ap (λ (z : SeatView). z.shape) before.same in let era = anew.era_found in let far : 2 ^ 63 ≤ k.era = omega arith in record {
      table = c.load_node.ensures.table ∙ c.reserve_later.ensures.step.table ∙ c.try_held-2.ensures.still.table ∙ c.reserve_any.ensures.goes.table ∙ c.try_held.ensures.still.table;
      view = held_before f 7 1 8 v u w c.args.node r (omega arith) before
          (word_held f u w k c.args.node r (omega arith) c.reserve_later.ensures.stocks (subst (λ (z : Shape). IsInner z c.args.node) (sym shaped) c.requires.inner) (omega arith) c.load_node.ensures.view);
    }

pub returns-clause-stocks : goal.returns-clause-stocks
returns-clause-stocks g c =
    stocks_still 1 c.reserve_later.new.pass.view c.load_node.new.self.view c.reserve_later.new.self c.reserve_later.ensures.stocks (word_of_node_loaded (face g.A.Monoid.parts g.B.Monoid.parts) c.reserve_later.new.pass.view c.load_node.new.self.view c.args.node c.load_node.result c.load_node.ensures.view).still

pub returns-in-Some-try_held-clause-kept : goal.returns-in-Some-try_held-clause-kept
returns-in-Some-try_held-clause-kept g c = let a : SeatView = c.try_held.new.pass.view in let b : SeatView = c.reserve_any.new.pass.view in let w : SeatView = c.try_held-2.new.pass.view in
    inr (seen_later_on 4 a w c.args.node c.args.self.now.era (goes_by_on 3 1 4 a b w (omega arith) c.reserve_any.ensures.goes.view c.try_held-2.ensures.still.view.goes) c.in_default.ensures.late)

pub returns-clause-kept : goal.returns-clause-kept
returns-clause-kept g c = let a : SeatView = c.try_held.new.pass.view in let b : SeatView = c.reserve_any.new.pass.view in let d : SeatView = c.try_held-2.new.pass.view in let u : SeatView = c.reserve_later.new.pass.view in let w : SeatView = c.load_node.new.self.view in
    inr (seen_later_on 7 a w c.args.node c.args.self.now.era (goes_by_on 6 1 7 a u w (omega arith) (goes_by_on 4 2 6 a d u (omega arith) (goes_by_on 3 1 4 a b d (omega arith) c.reserve_any.ensures.goes.view c.try_held-2.ensures.still.view.goes)
    (goes_by_anew later_eras 2 d u _ c.reserve_later.ensures.step.view)) (word_of_node_loaded (face g.A.Monoid.parts g.B.Monoid.parts) u w c.args.node c.load_node.result c.load_node.ensures.view).still.goes) c.in_default.ensures.late)
