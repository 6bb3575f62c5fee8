use Rattle.std.proofs.Common.{ap, subst, sym, refl, ◌≡◌, ◌∙◌, arith, rules}
use Rattle.aug_core.specs.Places.{era_place}
use Rattle.aug_core.specs.declared.view.SeatView.{SeatView}
use Rattle.aug_core.proofs.EraSteps.{loads_era}
use Rattle.aug_words.specs.Seats.{Known}
use Rattle.aug_words.specs.Reservations.{HasReservations, LoadsEra}
use Rattle.aug_words.proofs.Passes.{pass_reached, one_shape, works_on}
use Rattle.aug_words.proofs.pass.WordPass.load_era.Goals as goal

pub load-requires : goal.load-requires
load-requires g c = let sits = c.self.invariant.sits in let wide = sits.placed.wide in let base = sits.placed.base_is in let v : SeatView = c.self.inside.seat.me.0 in
    let at : c.era.result ≡ era_place v.shape = c.era.ensures ∙ ap era_place (one_shape _ _ _ _ c.self.view_is c.words.view_is c.requires.together) in
    let slots = subst (λ (k : Known). HasReservations k.view) (sym c.self.view_is) c.requires.slots in let low = c.self.invariant.seat.exists in
    (sits.seated, omega arith, loads_era _ _ _ _ (era_place v.shape) _ _ (works_on _ _ _ _ c.self.invariant.seat) c.self.invariant.seat.live c.self.invariant.seat.no_slot (omega arith) (omega arith) refl)

pub invariant_of-self : goal.invariant_of-self
invariant_of-self g c = let v : SeatView = c.self.inside.seat.me.0 in let base = c.self.invariant.sits.placed.base_is in
    let at : c.era.result ≡ era_place v.shape = c.era.ensures ∙ ap era_place (one_shape _ _ _ _ c.self.view_is c.words.view_is c.requires.together) in
    let told = c.load.ensures.2 (era_place v.shape) (omega arith) in
    pass_reached _ _ _ _ _ _ _ _ _ c.self.inside.seat.me c.load.new.seat.me c.self.invariant c.load.ensures.0 c.load.result _ told.0 told.1

pub returns : goal.returns
returns g c = let v : SeatView = c.self.inside.seat.me.0 in let base = c.self.invariant.sits.placed.base_is in
    let at : c.era.result ≡ era_place v.shape = c.era.ensures ∙ ap era_place (one_shape _ _ _ _ c.self.view_is c.words.view_is c.requires.together) in
    let told = c.load.ensures.2 (era_place v.shape) (omega arith) in
    record { table = search rules; view = subst (λ (k : Known). LoadsEra k.view c.load.result c.load.new.seat.me.0) c.self.view_is record { stepped = told.1; later = told.2 } }
