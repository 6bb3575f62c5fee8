use Rattle.std.proofs.Common.{◌≡◌, ◌<◌, ◌+◌, ◌*◌, ℕ, sym, ap, ◌∙◌, subst, arith}
use Rattle.aug_core.specs.Places.{Shape}
use Rattle.aug_core.specs.Lanes.{first_record, lane_records}
use Rattle.aug_core.specs.Effects.{own_lane}
use Rattle.aug_core.specs.declared.view.SeatView.{SeatView}
use Rattle.aug_words.specs.Seats.{Store}
use Rattle.aug_words.proofs.Stocking.{stocks_opened}
use Rattle.aug_words.proofs.stock.Stock.new.Goals as goal

pub returns-clause-stocks : goal.returns-clause-stocks
returns-clause-stocks g c p together slots knows opens own = let v : SeatView = p.view in
    let shape : Shape = c.words.inside.layout in let shaped : shape ≡ v.shape = subst (λ (z : Store). z.shape ≡ v.shape) (sym c.words.view_is) (sym together.one_shape) in
    let first : c.first_record-first.result ≡ first_record v.shape opens.lane.lane = subst (λ (z : Shape × ℕ). c.first_record-first.result ≡ first_record z.0 z.1) (λ i. (shaped i, (sym own ∙ ap own_lane opens.only) i)) c.first_record-first.ensures.value in
    let workers = knows.laid_out.workers in let used : 0 < v.shape.reservations = omega arith in
    stocks_opened v opens c.loop-i.numbers.items c.in_ok-from_elem.field-0.items _ used (knows.book.numbers used)
    (let is : c.updates.result * c.bits.result ≡ lane_records shape = (λ i. c.updates.ensures i * c.bits.ensures i) in is ∙ ap lane_records shaped) c.loop-i.invariant.long
    (λ j low. c.loop-i.invariant.filled j (omega arith) ∙ ap (λ (z : ℕ). z + j) first)
