use Rattle.std.proofs.Common.{◌≡◌, ◌-◌, ◌<◌, ◌∙◌, ℕ, ap, get_or, sym, subst, arith}
use Rattle.aug_core.specs.Effects.{IsFilled}
use Rattle.aug_core.specs.Faces.{face}
use Rattle.aug_core.specs.Places.{Shape}
use Rattle.aug_core.specs.Records.{first_era}
use Rattle.aug_core.specs.declared.view.SeatView.{SeatView}
use Rattle.aug_core.specs.inside.Refreshes.{stored}
use Rattle.aug_words.specs.Stocks.{StockFacts, Stocks, number_in_word}
use Rattle.aug_words.proofs.Stocking.{stocks_stored}
use Rattle.aug_words_tests.proofs.StepTests.{first_is, second_is}
use Rattle.aug_words_tests.proofs.ReuseTests.{may_publish_over}
use Rattle.aug_words_tests.proofs.reusing.refill.Goals as goal

pub returns-clause-stocks : goal.returns-clause-stocks
returns-clause-stocks g c = subst (λ (z : SeatView). Stocks z c.load_over-from.new.self) (sym c.fill.ensures.1) (stocks_stored c.load_over-from.new.pass.view c.load_over-from.new.self c.next.result c.words_over.result 5 c.load_over-from.ensures.stocks)

pub returns-clause-filled : goal.returns-clause-filled
returns-clause-filled g c = let m = g.A.Monoid.parts in let b = g.B.Monoid.parts in let f = face m b in let w : SeatView = c.load_over-from.new.pass.view in let k = c.load_over-from.new.self in let s = c.load_over-from.ensures.stocks in let l = c.load_over-from.ensures.loads.view in
    let one = ap (λ (z : Shape). z.bits) (ap (λ (z : SeatView). z.shape) l.goes.same ∙ c.requires.together.one_shape) ∙ c.requires.small.bits in let five = c.words_over.result in let are = c.words_over.ensures in
    let number : ℕ = number_in_word (get_or k.words (k.free - 1) 0) in let some : 0 < k.free = subst (λ (z : ℕ). 0 < z) (ap (λ (z : StockFacts). z.free) (sym c.load_over-from.ensures.same)) c.requires.some in
    subst (λ (z : SeatView). IsFilled f z 2 c.load_over-from.result.0 (first_era k.era) number) (sym (subst (λ (z : ℕ). c.fill.new.pass.view ≡ stored w z five 5) c.next.ensures c.fill.ensures.1))
    (may_publish_over f 14 k.era c.args.pass.now.view w c.load_over-from.result one l five are (first_is m b five _ _ _ are) (second_is m b five _ _ _ are) number (s.free (k.free - 1) (omega arith)))
