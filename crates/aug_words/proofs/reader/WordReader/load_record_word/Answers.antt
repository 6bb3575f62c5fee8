use Rattle.std.proofs.Common.{refl, subst, sym, ◌+◌, ℕ, arith, rules}
use Rattle.aug_core.specs.Effects.{GuardsRecord}
use Rattle.aug_core.specs.Faces.{face}
use Rattle.aug_core.specs.Fields.{field_offset}
use Rattle.aug_core.specs.Places.{record_start}
use Rattle.aug_core.proofs.Lending.{reads_record_word}
use Rattle.aug_words.specs.Seats.{Known, LoadsRecordWord}
use Rattle.aug_words.proofs.Aims.{reader_looked}
use Rattle.aug_words.proofs.Passes.{sits_at, guarded_inside, tells}
use Rattle.aug_words.proofs.reader.WordReader.load_record_word.Goals as goal

pub record_word-place-requires : goal.record_word-place-requires
record_word-place-requires g c =
    let w = c.words.invariant in let sits = sits_at _ _ _ _ c.self.inside.base c.words.inside.lanes c.words.inside.records c.self.view_is c.words.view_is c.requires.together c.self.invariant.placed w.lanes_are w.records_are in
    let begins = sits.records_are in let far = sits.placed.wide in let most = sits.placed.few in let small = c.self.invariant.knows.laid_out.words in let field = c.offset.ensures.small in
    let below = guarded_inside (face g.A.Monoid.parts g.B.Monoid.parts) c.self.inside.seat.me.0 c.args.number c.self.invariant.knows (subst (λ (k : Known). GuardsRecord k.view c.args.number) (sym c.self.view_is) c.requires.guards) in
    omega arith

pub load-requires : goal.load-requires
load-requires g c =
    let w = c.words.invariant in let sits = sits_at _ _ _ _ c.self.inside.base c.words.inside.lanes c.words.inside.records c.self.view_is c.words.view_is c.requires.together c.self.invariant.placed w.lanes_are w.records_are in
    let begins = sits.records_are in let wide = sits.placed.wide in let field = c.offset.ensures.small in let at = c.record_word-place.ensures in
    let below = guarded_inside (face g.A.Monoid.parts g.B.Monoid.parts) c.self.inside.seat.me.0 c.args.number c.self.invariant.knows (subst (λ (k : Known). GuardsRecord k.view c.args.number) (sym c.self.view_is) c.requires.guards) in
    (sits.seated, omega arith, reads_record_word _ _ _ _ (record_start c.self.inside.seat.me.0.shape c.args.number + c.offset.result) _ _ c.self.invariant.keeps_records c.self.invariant.reads c.self.invariant.live c.self.invariant.no_lane c.self.invariant.no_slot (omega arith))

pub invariant_of-self : goal.invariant_of-self
invariant_of-self g c = let w = c.words.invariant in let sits = sits_at _ _ _ _ c.self.inside.base c.words.inside.lanes c.words.inside.records c.self.view_is c.words.view_is c.requires.together c.self.invariant.placed w.lanes_are w.records_are in let begins = sits.records_are in let at = c.record_word-place.ensures in
    let told = c.load.ensures.2 (record_start c.self.inside.seat.me.0.shape c.args.number + c.offset.result) (omega arith) in
    reader_looked (face g.A.Monoid.parts g.B.Monoid.parts) _ _ c.self.inside.base c.self.inside.seat.me c.load.new.seat.me c.self.invariant c.load.ensures.0 _ told.1.stepped told.0

pub returns : goal.returns
returns g c = let w = c.words.invariant in let sits = sits_at _ _ _ _ c.self.inside.base c.words.inside.lanes c.words.inside.records c.self.view_is c.words.view_is c.requires.together c.self.invariant.placed w.lanes_are w.records_are in
    let begins = sits.records_are in let at = c.record_word-place.ensures in let place : ℕ = record_start c.self.inside.seat.me.0.shape c.args.number + c.offset.result in
    let told = tells c.self.inside.seat.me.0 c.load.new.seat.me.0 place c.args.number c.offset.result c.load.result c.offset.ensures.small refl (c.load.ensures.2 place (omega arith)).1 in
    record { table = search rules; view = subst (λ (k : Known). LoadsRecordWord k.view c.args.number (field_offset c.args.field) c.load.result c.load.new.seat.me.0) c.self.view_is (subst (λ (z : ℕ). LoadsRecordWord c.self.inside.seat.me.0 c.args.number z c.load.result c.load.new.seat.me.0) c.offset.ensures.value told) }
