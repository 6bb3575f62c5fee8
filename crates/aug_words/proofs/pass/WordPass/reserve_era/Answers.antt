use Rattle.std.proofs.Common.{refl, ap, subst, sym, ◌≡◌, ◌∙◌, ◌<◌, ◌≤◌, ℕ, arith, rules}
use Rattle.aug_core.specs.Places.{Shape, reservation_place}
use Rattle.aug_core.specs.Records.{first_era}
use Rattle.aug_core.specs.Effects.{own_lane}
use Rattle.aug_core.specs.Reclaiming.{Reserves}
use Rattle.aug_core.specs.declared.view.SeatView.{SeatView}
use Rattle.aug_core.proofs.EraSteps.{reserves_era}
use Rattle.aug_words.specs.Seats.{Known}
use Rattle.aug_words.specs.Reservations.{HasReservations}
use Rattle.aug_words.proofs.Passes.{pass_reserved, one_shape, own_lane_is, has_reservation}
use Rattle.aug_words.proofs.pass.WordPass.reserve_era.Goals as goal

pub reservation-requires : goal.reservation-requires
reservation-requires g c = let slots = subst (λ (k : Known). HasReservations k.view) (sym c.self.view_is) c.requires.slots in let low = c.self.invariant.seat.exists in
    subst (λ (z : Shape). c.self.inside.lane < z.reservations) (sym (one_shape _ _ _ _ c.self.view_is c.words.view_is c.requires.together)) (omega arith)

pub store-requires : goal.store-requires
store-requires g c = let sits = c.self.invariant.sits in let wide = sits.placed.wide in let base = sits.placed.base_is in let v : SeatView = c.self.inside.seat.me.0 in let seat = c.self.invariant.seat in
    let at : c.reservation.result ≡ reservation_place v.shape c.self.inside.lane = c.reservation.ensures ∙ ap (λ (z : Shape). reservation_place z c.self.inside.lane) (one_shape _ _ _ _ c.self.view_is c.words.view_is c.requires.together) in
    let slots = subst (λ (k : Known). HasReservations k.view) (sym c.self.view_is) c.requires.slots in let low = seat.exists in
    let known = subst (λ (k : Known). first_era c.args.era ≤ k.view.reached) (sym c.self.view_is) c.requires.reached in
    (sits.seated, omega arith, reserves_era _ _ _ _ (reservation_place v.shape c.self.inside.lane) _ c.self.inside.lane c.args.era _ seat.live seat.no_slot (omega arith) (omega arith) (has_reservation _ _ _ _ seat slots) refl (let some = c.requires.some_era in omega arith) known)

pub invariant_of-self : goal.invariant_of-self
invariant_of-self g c = let sits = c.self.invariant.sits in let wide = sits.placed.wide in let base = sits.placed.base_is in let v : SeatView = c.self.inside.seat.me.0 in let seat = c.self.invariant.seat in
    let at : c.reservation.result ≡ reservation_place v.shape c.self.inside.lane = c.reservation.ensures ∙ ap (λ (z : Shape). reservation_place z c.self.inside.lane) (one_shape _ _ _ _ c.self.view_is c.words.view_is c.requires.together) in
    let slots = subst (λ (k : Known). HasReservations k.view) (sym c.self.view_is) c.requires.slots in let low = seat.exists in
    pass_reserved _ _ _ _ _ _ _ _ _ c.self.inside.seat.me c.store.new.seat.me c.self.invariant c.store.ensures.0 c.self.inside.lane c.args.era (c.store.ensures.2 (reservation_place v.shape c.self.inside.lane) (omega arith) c.self.inside.lane refl)

pub returns : goal.returns
returns g c = let sits = c.self.invariant.sits in let wide = sits.placed.wide in let base = sits.placed.base_is in let v : SeatView = c.self.inside.seat.me.0 in let seat = c.self.invariant.seat in
    let at : c.reservation.result ≡ reservation_place v.shape c.self.inside.lane = c.reservation.ensures ∙ ap (λ (z : Shape). reservation_place z c.self.inside.lane) (one_shape _ _ _ _ c.self.view_is c.words.view_is c.requires.together) in
    let slots = subst (λ (k : Known). HasReservations k.view) (sym c.self.view_is) c.requires.slots in let low = seat.exists in
    record { table = search rules; view = subst (λ (k : Known). Reserves k.view (own_lane k.view.held) c.args.era c.store.new.seat.me.0) c.self.view_is (subst (λ (z : ℕ). Reserves v z c.args.era c.store.new.seat.me.0) (own_lane_is _ _ _ _ seat) (c.store.ensures.2 (reservation_place v.shape c.self.inside.lane) (omega arith) c.self.inside.lane refl).1) }
