use Rattle.std.proofs.Common.{ap, subst, sym, refl, ◌≡◌, ◌∙◌, ◌<◌, arith, rules}
use Rattle.aug_core.specs.Places.{Shape, reservation_place}
use Rattle.aug_core.specs.declared.view.SeatView.{SeatView}
use Rattle.aug_core.proofs.EraSteps.{scans}
use Rattle.aug_words.specs.Seats.{Known}
use Rattle.aug_words.specs.Reservations.{PassesReservation}
use Rattle.aug_words.proofs.Passes.{pass_scanned, one_shape}
use Rattle.aug_words.proofs.pass.WordPass.pass_reservation.Goals as goal

pub reservation-requires : goal.reservation-requires
reservation-requires g c = subst (λ (z : Shape). c.args.lane < z.reservations) (ap (λ (k : Known). k.view.shape) (sym c.self.view_is) ∙ sym (one_shape _ _ _ _ c.self.view_is c.words.view_is c.requires.together)) c.requires.lane

pub load-requires : goal.load-requires
load-requires g c = let sits = c.self.invariant.sits in let wide = sits.placed.wide in let base = sits.placed.base_is in let v : SeatView = c.self.inside.seat.me.0 in let seat = c.self.invariant.seat in
    let at : c.reservation.result ≡ reservation_place v.shape c.args.lane = c.reservation.ensures ∙ ap (λ (z : Shape). reservation_place z c.args.lane) (one_shape _ _ _ _ c.self.view_is c.words.view_is c.requires.together) in
    let low = subst (λ (k : Known). c.args.lane < k.view.shape.reservations) (sym c.self.view_is) c.requires.lane in
    (sits.seated, omega arith, scans _ _ _ _ (reservation_place v.shape c.args.lane) _ c.args.lane _ seat.held seat.live seat.no_slot (omega arith) (omega arith) seat.only refl)

pub invariant_of-self : goal.invariant_of-self
invariant_of-self g c = let sits = c.self.invariant.sits in let wide = sits.placed.wide in let base = sits.placed.base_is in let v : SeatView = c.self.inside.seat.me.0 in let seat = c.self.invariant.seat in
    let at : c.reservation.result ≡ reservation_place v.shape c.args.lane = c.reservation.ensures ∙ ap (λ (z : Shape). reservation_place z c.args.lane) (one_shape _ _ _ _ c.self.view_is c.words.view_is c.requires.together) in
    let low = subst (λ (k : Known). c.args.lane < k.view.shape.reservations) (sym c.self.view_is) c.requires.lane in
    let told = c.load.ensures.2 (reservation_place v.shape c.args.lane) (omega arith) c.args.lane refl in
    pass_scanned _ _ _ _ _ _ _ _ _ c.self.inside.seat.me c.load.new.seat.me c.self.invariant c.load.ensures.0 c.args.lane c.load.result _ told.0 told.1

pub returns : goal.returns
returns g c = let sits = c.self.invariant.sits in let wide = sits.placed.wide in let base = sits.placed.base_is in let v : SeatView = c.self.inside.seat.me.0 in let seat = c.self.invariant.seat in
    let at : c.reservation.result ≡ reservation_place v.shape c.args.lane = c.reservation.ensures ∙ ap (λ (z : Shape). reservation_place z c.args.lane) (one_shape _ _ _ _ c.self.view_is c.words.view_is c.requires.together) in
    let low = subst (λ (k : Known). c.args.lane < k.view.shape.reservations) (sym c.self.view_is) c.requires.lane in
    record { table = search rules; view = subst (λ (k : Known). PassesReservation k.view c.args.lane c.load.result c.load.new.seat.me.0) c.self.view_is (c.load.ensures.2 (reservation_place v.shape c.args.lane) (omega arith) c.args.lane refl).1 }
