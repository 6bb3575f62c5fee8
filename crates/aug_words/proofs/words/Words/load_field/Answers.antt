use Rattle.std.proofs.Common.{arith, ap, refl, subst, sym, ◌<◌, ◌+◌, ◌∙◌}
use Rattle.aug_core.specs.Faces.{face}
use Rattle.aug_core.specs.Places.{record_start}
use Rattle.aug_core.specs.declared.view.SeatView.{SeatView}
use Rattle.aug_core.proofs.Eras.{hands_out}
use Rattle.aug_core.proofs.EraSteps.{loads_record_word}
use Rattle.aug_words.specs.Seats.{Store}
use Rattle.aug_words.proofs.Lays.{beside_looked, brings_on}
use Rattle.aug_words.proofs.Passes.{guarded_inside}
use Rattle.aug_words.proofs.words.Words.load_field.Goals as goal

pub load-requires : goal.load-requires
load-requires g c = let m = c.requires.may in let l = m.may.leads in let v : SeatView = c.args.seat.now.me.0 in let begins = m.records_are in let far = m.wide in let field = c.requires.field in let at = c.record_word-place.ensures in
    let same = ap (λ (z : Store). z.table) c.self.view_is in
    let below = guarded_inside (face g.A.Monoid.parts g.B.Monoid.parts) v c.args.number m.knows c.requires.guards in
    (m.may.seated ∙ sym same, subst (λ z. c.record_word-place.result < z.words) (sym same) (omega arith), loads_record_word _ _ _ _ (record_start v.shape c.args.number + c.args.field) _ _ (hands_out v l.next l.leads) l.live m.may.no_slot (omega arith) (omega arith))

pub returns-clause-view : goal.returns-clause-view
returns-clause-view g c = let m = c.requires.may in let begins = m.records_are in let v : SeatView = c.args.seat.now.me.0 in let at = c.record_word-place.ensures in
    beside_looked c.args.base c.args.self.now.shape _ _ _ (c.load.ensures.2 (record_start v.shape c.args.number + c.args.field) (omega arith)).1.stepped

pub returns-clause-same : goal.returns-clause-same
returns-clause-same g c = let m = c.requires.may in let begins = m.records_are in let v : SeatView = c.args.seat.now.me.0 in let at = c.record_word-place.ensures in
    ap (λ (z : SeatView). z.whole) (c.load.ensures.2 (record_start v.shape c.args.number + c.args.field) (omega arith)).1.stepped

pub returns-clause-may : goal.returns-clause-may
returns-clause-may g c = let m = c.requires.may in let begins = m.records_are in let v : SeatView = c.args.seat.now.me.0 in let at = c.record_word-place.ensures in
    let told = c.load.ensures.2 (record_start v.shape c.args.number + c.args.field) (omega arith) in
    brings_on c.args.base c.args.self.now.shape (face g.A.Monoid.parts g.B.Monoid.parts) _ _ _ c.args.records _ _ m c.load.ensures.0 told.0 (beside_looked c.args.base c.args.self.now.shape _ _ _ told.1.stepped)

pub returns-clause-says : goal.returns-clause-says
returns-clause-says g c = let m = c.requires.may in let begins = m.records_are in let v : SeatView = c.args.seat.now.me.0 in let at = c.record_word-place.ensures in
    let told = (c.load.ensures.2 (record_start v.shape c.args.number + c.args.field) (omega arith)).1 in told.known c.args.number c.args.field c.requires.field refl
