use Rattle.std.proofs.Common.{refl, subst, sym, ◌+◌, ℕ, arith, rules}
use Rattle.aug_core.specs.Places.{record_start}
use Rattle.aug_core.specs.Fields.{field_offset}
use Rattle.aug_core.proofs.EraSteps.{loads_record_word}
use Rattle.aug_words.specs.Seats.{Known, MayLoad, LoadsRecordWord}
use Rattle.aug_words.proofs.Passes.{pass_loaded, loads_inside, tells, works_on}
use Rattle.aug_words.proofs.pass.WordPass.load_record_word.Goals as goal

pub record_word-place-requires : goal.record_word-place-requires
record_word-place-requires g c =
    let sits = c.self.invariant.sits in let begins = sits.records_are in let far = sits.placed.wide in let most = sits.placed.few in let small = c.self.invariant.seat.knows.laid_out.words in let field = c.offset.ensures.small in
    let below = loads_inside _ _ _ c.self.inside.seat.me c.self.invariant.seat c.args.number (subst (λ (k : Known). MayLoad k.view c.args.number) (sym c.self.view_is) c.requires) in
    omega arith

pub load-requires : goal.load-requires
load-requires g c =
    let sits = c.self.invariant.sits in let begins = sits.records_are in let wide = sits.placed.wide in let field = c.offset.ensures.small in let at = c.record_word-place.ensures in
    let below = loads_inside _ _ _ c.self.inside.seat.me c.self.invariant.seat c.args.number (subst (λ (k : Known). MayLoad k.view c.args.number) (sym c.self.view_is) c.requires) in
    (sits.seated, omega arith, loads_record_word _ _ _ _ (record_start c.self.inside.seat.me.0.shape c.args.number + c.offset.result) _ _ (works_on _ _ _ _ c.self.invariant.seat) c.self.invariant.seat.live c.self.invariant.seat.no_slot (omega arith) (omega arith))

pub invariant_of-self : goal.invariant_of-self
invariant_of-self g c = let begins = c.self.invariant.sits.records_are in let at = c.record_word-place.ensures in let place : ℕ = record_start c.self.inside.seat.me.0.shape c.args.number + c.offset.result in
    pass_loaded _ _ _ _ _ _ _ _ _ c.self.inside.seat.me c.load.new.seat.me c.self.invariant c.load.ensures.0 place c.load.result (c.load.ensures.2 place (omega arith))

pub returns : goal.returns
returns g c = let begins = c.self.invariant.sits.records_are in let at = c.record_word-place.ensures in
    let place : ℕ = record_start c.self.inside.seat.me.0.shape c.args.number + c.offset.result in
    let told = tells c.self.inside.seat.me.0 c.load.new.seat.me.0 place c.args.number c.offset.result c.load.result c.offset.ensures.small refl (c.load.ensures.2 place (omega arith)).1 in
    record { table = search rules; view = subst (λ (k : Known). LoadsRecordWord k.view c.args.number (field_offset c.args.field) c.load.result c.load.new.seat.me.0) c.self.view_is (subst (λ (z : ℕ). LoadsRecordWord c.self.inside.seat.me.0 c.args.number z c.load.result c.load.new.seat.me.0) c.offset.ensures.value told) }
