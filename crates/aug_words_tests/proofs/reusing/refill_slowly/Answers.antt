use Rattle.std.proofs.Common.{◌≡◌, ◌-◌, ◌≤◌, ◌∙◌, ℕ, get_or, sym, subst, arith}
use Rattle.std.proofs.lemmas.Bool.{leb-true}
use Rattle.aug_core.specs.Records.{first_era}
use Rattle.aug_core.specs.Faces.{face}
use Rattle.aug_core.specs.declared.view.SeatView.{SeatView}
use Rattle.aug_core.specs.Effects.{IsFilled}
use Rattle.aug_core.specs.inside.Refreshes.{stored}
use Rattle.aug_words.specs.Stocks.{Stocks, birth_in_word, number_in_word}
use Rattle.aug_words.proofs.Stocking.{stocks_same, stocks_stored}
use Rattle.aug_words_tests.proofs.StepTests.{first_is, second_is, still_stores, may_publish, shape3, same_lane, same_reserved}
use Rattle.aug_words_tests.proofs.ReuseTests.{covers_until}
use Rattle.aug_words_tests.proofs.reusing.refill_slowly.Goals as goal

pub returns-clause-stocks : goal.returns-clause-stocks
returns-clause-stocks g c = let f = face g.A.Monoid.parts g.B.Monoid.parts in let v : SeatView = c.args.pass.now.view in let w : SeatView = c.load_leaf-right.new.self.view in let k = c.args.stock.now in
    let one = c.requires.small.0.bits in let n = c.load_node-from.ensures.view in let l = c.load_leaf-left.ensures.view in let r = c.load_leaf-right.ensures.view in
    subst (λ (z : SeatView). Stocks z k) (sym c.fill.ensures.1) (stocks_stored w k c.next.result c.words_over.result 5 (stocks_same v w k c.requires.stocks (shape3 f _ _ _ _ _ _ _ one n l r) (same_lane f _ _ _ _ _ _ _ one n l r) (same_reserved f _ _ _ _ _ _ _ one n l r)))

pub returns-clause-filled : goal.returns-clause-filled
returns-clause-filled g c = let m = g.A.Monoid.parts in let b = g.B.Monoid.parts in let f = face m b in let v : SeatView = c.args.pass.now.view in let w : SeatView = c.load_leaf-right.new.self.view in let k = c.args.stock.now in let s = c.requires.stocks in
    let one = c.requires.small.0.bits in let n = c.load_node-from.ensures.view in let l = c.load_leaf-left.ensures.view in let r = c.load_leaf-right.ensures.view in let five = c.words_over.result in let are = c.words_over.ensures in
    let test = c.covers.ensures in let low : birth_in_word c.load_node-from.result ≤ k.era = leb-true _ _ (sym test ∙ c.if-not-covers.false) in let number : ℕ = number_in_word (get_or k.words (k.free - 1) 0) in let some = c.requires.some in
    let may = still_stores f _ _ _ _ _ _ _ one n l r number (s.free (k.free - 1) (omega arith)) in
    let guard = covers_until f v _ k c.load_node-from.result c.requires.small.0 s n c.requires.reserved low w (same_reserved f _ _ _ _ _ _ _ one n l r) in
    subst (λ (z : SeatView). IsFilled f z 2 c.load_node-from.result (first_era k.era) number) (sym (subst (λ (z : ℕ). c.fill.new.pass.view ≡ stored w z five 5) c.next.ensures c.fill.ensures.1))
    (may_publish f _ _ _ _ _ _ _ one n l r five are (first_is m b five _ _ _ are) (second_is m b five _ _ _ are) (first_era k.era) number may guard)
