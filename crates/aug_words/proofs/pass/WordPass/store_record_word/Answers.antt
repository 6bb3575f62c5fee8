use Rattle.std.proofs.Common.{refl, subst, sym, ◌+◌, ℕ, arith}
use Rattle.aug_core.specs.Places.{record_start}
use Rattle.aug_core.specs.Effects.{MayStore}
use Rattle.aug_core.proofs.EraSteps.{stores_record_word}
use Rattle.aug_words.specs.Seats.{Known}
use Rattle.aug_words.proofs.Passes.{pass_stored, has_taken, stores_inside}
use Rattle.aug_words.proofs.pass.WordPass.store_record_word.Goals as goal

pub record_word-place-requires : goal.record_word-place-requires
record_word-place-requires g c =
    let sits = c.self.invariant.sits in let begins = sits.records_are in let far = sits.placed.wide in let most = sits.placed.few in let small = c.self.invariant.seat.knows.laid_out.words in let field = c.offset.ensures.small in
    let below = stores_inside c.self.inside.seat.me.0 c.args.number (subst (λ (k : Known). MayStore k.view c.args.number) (sym c.self.view_is) c.requires) in
    omega arith

pub store-requires : goal.store-requires
store-requires g c =
    let sits = c.self.invariant.sits in let begins = sits.records_are in let wide = sits.placed.wide in let field = c.offset.ensures.small in let at = c.record_word-place.ensures in
    let may = subst (λ (k : Known). MayStore k.view c.args.number) (sym c.self.view_is) c.requires in
    let below = stores_inside c.self.inside.seat.me.0 c.args.number may in
    (sits.seated, omega arith, stores_record_word _ _ _ _ (record_start c.self.inside.seat.me.0.shape c.args.number + c.offset.result) _ c.args.number c.offset.result _ _ c.self.invariant.seat.live c.self.invariant.seat.no_slot (omega arith) (omega arith) (has_taken _ _ _ _ c.self.invariant.seat) may field refl)

pub invariant_of-self : goal.invariant_of-self
invariant_of-self g c = let begins = c.self.invariant.sits.records_are in let at = c.record_word-place.ensures in let place : ℕ = record_start c.self.inside.seat.me.0.shape c.args.number + c.offset.result in
    pass_stored _ _ _ _ _ _ _ _ _ c.self.inside.seat.me c.store.new.seat.me c.self.invariant c.store.ensures.0 place c.args.value (c.store.ensures.2 place (omega arith))
