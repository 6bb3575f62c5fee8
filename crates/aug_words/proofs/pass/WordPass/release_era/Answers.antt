use Rattle.std.proofs.Common.{refl, ap, subst, sym, ◌≡◌, ◌∙◌, ◌<◌, ℕ, arith, rules}
use Rattle.aug_core.specs.Places.{Shape, reservation_place}
use Rattle.aug_core.specs.Effects.{own_lane}
use Rattle.aug_core.specs.Reclaiming.{releasing}
use Rattle.aug_core.specs.declared.view.SeatView.{SeatView}
use Rattle.aug_core.proofs.EraSteps.{releases_era}
use Rattle.aug_words.specs.Seats.{Known}
use Rattle.aug_words.specs.Reservations.{HasReservations}
use Rattle.aug_words.proofs.Passes.{pass_released, one_shape, own_lane_is, has_reservation}
use Rattle.aug_words.proofs.pass.WordPass.release_era.Goals as goal

pub reservation-requires : goal.reservation-requires
reservation-requires g c = let slots = subst (λ (k : Known). HasReservations k.view) (sym c.self.view_is) c.requires.slots in let low = c.self.invariant.seat.exists in
    subst (λ (z : Shape). c.self.inside.lane < z.reservations) (sym (one_shape _ _ _ _ c.self.view_is c.words.view_is c.requires.together)) (omega arith)

pub store-requires : goal.store-requires
store-requires g c = let sits = c.self.invariant.sits in let wide = sits.placed.wide in let base = sits.placed.base_is in let v : SeatView = c.self.inside.seat.me.0 in let seat = c.self.invariant.seat in
    let at : c.reservation.result ≡ reservation_place v.shape c.self.inside.lane = c.reservation.ensures ∙ ap (λ (z : Shape). reservation_place z c.self.inside.lane) (one_shape _ _ _ _ c.self.view_is c.words.view_is c.requires.together) in
    let slots = subst (λ (k : Known). HasReservations k.view) (sym c.self.view_is) c.requires.slots in let low = seat.exists in
    (sits.seated, omega arith, releases_era _ _ _ _ (reservation_place v.shape c.self.inside.lane) _ c.self.inside.lane _ seat.live seat.no_slot (omega arith) (omega arith) (has_reservation _ _ _ _ seat slots) refl)

pub invariant_of-self : goal.invariant_of-self
invariant_of-self g c = let sits = c.self.invariant.sits in let wide = sits.placed.wide in let base = sits.placed.base_is in let v : SeatView = c.self.inside.seat.me.0 in let seat = c.self.invariant.seat in
    let at : c.reservation.result ≡ reservation_place v.shape c.self.inside.lane = c.reservation.ensures ∙ ap (λ (z : Shape). reservation_place z c.self.inside.lane) (one_shape _ _ _ _ c.self.view_is c.words.view_is c.requires.together) in
    let slots = subst (λ (k : Known). HasReservations k.view) (sym c.self.view_is) c.requires.slots in let low = seat.exists in
    pass_released _ _ _ _ _ _ _ _ _ c.self.inside.seat.me c.store.new.seat.me c.self.invariant c.store.ensures.0 c.self.inside.lane (c.store.ensures.2 (reservation_place v.shape c.self.inside.lane) (omega arith) c.self.inside.lane refl)

pub returns : goal.returns
returns g c = let sits = c.self.invariant.sits in let wide = sits.placed.wide in let base = sits.placed.base_is in let v : SeatView = c.self.inside.seat.me.0 in let seat = c.self.invariant.seat in
    let at : c.reservation.result ≡ reservation_place v.shape c.self.inside.lane = c.reservation.ensures ∙ ap (λ (z : Shape). reservation_place z c.self.inside.lane) (one_shape _ _ _ _ c.self.view_is c.words.view_is c.requires.together) in
    let slots = subst (λ (k : Known). HasReservations k.view) (sym c.self.view_is) c.requires.slots in let low = seat.exists in
    record { table = search rules; view = subst (λ (k : Known). c.store.new.seat.me.0 ≡ releasing k.view (own_lane k.view.held)) c.self.view_is (subst (λ (z : ℕ). c.store.new.seat.me.0 ≡ releasing v z) (own_lane_is _ _ _ _ seat) (c.store.ensures.2 (reservation_place v.shape c.self.inside.lane) (omega arith) c.self.inside.lane refl).1) }
