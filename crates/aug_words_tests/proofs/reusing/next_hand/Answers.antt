use Rattle.std.proofs.Common.{◌<◌, ◌≤◌, ◌≡◌, ◌∙◌, ap, sym, subst, arith}
use Rattle.aug_core.specs.Places.{Shape}
use Rattle.aug_core.specs.Effects.{own_lane}
use Rattle.aug_core.specs.declared.view.SeatView.{SeatView}
use Rattle.aug_words.specs.Seats.{Known}
use Rattle.aug_words.specs.Stocks.{Stocks}
use Rattle.aug_words.proofs.Leads.{pass_shape}
use Rattle.aug_words.proofs.Stocking.{opens_stock}
use Rattle.aug_words_tests.proofs.reusing.next_hand.Goals as goal

pub returns-clause-stocks : goal.returns-clause-stocks
returns-clause-stocks c = let h = c.split-pass.ensures.hands_out in let view : SeatView = c.split-pass.result.view in
    let opens = opens_stock _ c.args.lead.now.view _ view c.args.lane (record { next = c.requires.room.0; exists = subst (λ (s : Shape). c.args.lane < s.workers) (sym c.requires.together.one_shape) (let low = c.requires.room.1 in let lanes = c.requires.small.lanes in omega arith) }) h in
    let shape : view.shape ≡ c.args.words.now.shape = pass_shape _ _ _ _ h ∙ c.requires.together.one_shape in
    let named : own_lane view.held ≡ c.args.lane = ap own_lane opens.only ∙ c.lane.ensures.value opens.lane opens.only ∙ c.if-lane.false in
    subst (λ (z : Known). Stocks z.view c.in_ok-stock.stock) (sym c.into_half.ensures) (c.in_ok-stock.ensures.stocks c.split-pass.result (record { one_table = c.split-pass.ensures.pass_table ∙ c.requires.together.one_table; one_shape = shape }) (subst (λ (s : Shape). s.workers ≤ s.reservations) (sym shape) c.requires.small.slots) c.lane.ensures.knows opens named)
