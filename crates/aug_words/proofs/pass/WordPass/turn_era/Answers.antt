use Rattle.std.proofs.Common.{ap, subst, sym, refl, ◌≡◌, ◌∙◌, arith, rules}
use Rattle.std.proofs.lemmas.Bool.{eq-eqb, eqb-true}
use Rattle.std.specs.Prelude.{◌==◌}
use Rattle.aug_core.specs.Places.{era_place}
use Rattle.aug_core.specs.declared.view.SeatView.{SeatView}
use Rattle.aug_core.proofs.EraSteps.{turns_era}
use Rattle.aug_words.specs.Seats.{Known}
use Rattle.aug_words.specs.Reservations.{HasReservations, TurnsEra}
use Rattle.aug_words.proofs.Passes.{pass_reached, one_shape, works_on}
use Rattle.aug_words.proofs.pass.WordPass.turn_era.Goals as goal

pub compare_exchange-found-requires : goal.compare_exchange-found-requires
compare_exchange-found-requires g c = let sits = c.self.invariant.sits in let wide = sits.placed.wide in let base = sits.placed.base_is in let v : SeatView = c.self.inside.seat.me.0 in
    let at : c.era.result ≡ era_place v.shape = c.era.ensures ∙ ap era_place (one_shape _ _ _ _ c.self.view_is c.words.view_is c.requires.together) in
    let slots = subst (λ (k : Known). HasReservations k.view) (sym c.self.view_is) c.requires.slots in let low = c.self.invariant.seat.exists in
    (sits.seated, omega arith, turns_era _ _ _ _ (era_place v.shape) _ c.args.era _ (works_on _ _ _ _ c.self.invariant.seat) c.self.invariant.seat.live c.self.invariant.seat.no_slot (omega arith) (omega arith) (omega arith) refl)

pub invariant_of-self : goal.invariant_of-self
invariant_of-self g c = let v : SeatView = c.self.inside.seat.me.0 in let base = c.self.invariant.sits.placed.base_is in
    let at : c.era.result ≡ era_place v.shape = c.era.ensures ∙ ap era_place (one_shape _ _ _ _ c.self.view_is c.words.view_is c.requires.together) in
    let told = c.compare_exchange-found.ensures.2 (era_place v.shape) (omega arith) in
    pass_reached _ _ _ _ _ _ _ _ _ c.self.inside.seat.me c.compare_exchange-found.new.seat.me c.self.invariant c.compare_exchange-found.ensures.0 _ _ told.0 told.1

pub returns : goal.returns
returns g c = let v : SeatView = c.self.inside.seat.me.0 in let base = c.self.invariant.sits.placed.base_is in
    let at : c.era.result ≡ era_place v.shape = c.era.ensures ∙ ap era_place (one_shape _ _ _ _ c.self.view_is c.words.view_is c.requires.together) in
    let told = c.compare_exchange-found.ensures.2 (era_place v.shape) (omega arith) in
    let found = c.compare_exchange-found.result in
    record { table = search rules; view = subst (λ (k : Known). TurnsEra k.view c.args.era (found == c.args.era) c.compare_exchange-found.new.seat.me.0) c.self.view_is record { found = found; decided = (eqb-true found c.args.era, eq-eqb found c.args.era); stepped = told.1; later = told.2 } }
