use Rattle.std.proofs.Common.{arith, ap, subst, sym, refl, ◌∙◌, ◌+◌}
use Rattle.atomic_table.specs.Seated.{TableId}
use Rattle.aug_core.specs.Renewals.{rewriting}
use Rattle.aug_core.specs.declared.view.SeatView.{SeatView}
use Rattle.aug_words.specs.Seats.{Store}
use Rattle.aug_words.specs.inside.Laying.{ChangesPart, MayLay}
use Rattle.aug_words.proofs.Lays.{changes_none, lay_loads, lay_stores, lays_on, puts_word}
use Rattle.aug_words.proofs.words.Words.put_word.Goals as goal

pub load-requires : goal.load-requires
load-requires g c = let m = c.requires.may in let inside = m.inside in let same = ap (λ (z : Store). z.table) c.self.view_is in let words = ap (λ (z : TableId). z.words) same in let low = c.requires.place in
    (m.seated ∙ sym same, omega arith, lay_loads _ _ _ _ _ m _ _ _ _ c.args.place _ 0 refl low)

pub store-requires : goal.store-requires
store-requires g c = let m = c.requires.may in let inside = m.inside in let same = ap (λ (z : Store). z.table) c.self.view_is in let words = ap (λ (z : TableId). z.words) same in let low = c.requires.place in
    let next : MayLay c.load.new.seat.table_id c.args.self.now.table c.args.base c.args.self.now.shape c.load.new.seat.me =
    lays_on _ _ _ _ _ _ _ m c.load.ensures.0 c.load.ensures.2.0 (subst (ChangesPart c.args.base c.args.self.now.shape c.args.seat.now.me.0) (sym c.load.ensures.2.1) (changes_none _ _ _)) in
    (next.seated ∙ sym same, omega arith, lay_stores _ _ _ _ _ next _ _ _ _ c.args.place _ c.args.value refl low)

pub returns-then-load-value-clause-may : goal.returns-then-load-value-clause-may
returns-then-load-value-clause-may g c = let m = c.requires.may in
    let next : MayLay c.load.new.seat.table_id c.args.self.now.table c.args.base c.args.self.now.shape c.load.new.seat.me =
    lays_on _ _ _ _ _ _ _ m c.load.ensures.0 c.load.ensures.2.0 (subst (ChangesPart c.args.base c.args.self.now.shape c.args.seat.now.me.0) (sym c.load.ensures.2.1) (changes_none _ _ _)) in
    lays_on _ _ _ _ _ _ _ next c.store.ensures.0 c.store.ensures.2.0 (puts_word c.args.base c.args.self.now.shape _ _ (c.args.base + c.args.place) c.args.place c.args.value refl c.requires.place c.store.ensures.2.1).changes

pub returns-then-load-value-clause-puts : goal.returns-then-load-value-clause-puts
returns-then-load-value-clause-puts g c = puts_word c.args.base c.args.self.now.shape _ _ (c.args.base + c.args.place) c.args.place c.args.value refl c.requires.place
    (c.store.ensures.2.1 ∙ ap (λ (z : SeatView). rewriting z (c.args.base + c.args.place) c.args.value) c.load.ensures.2.1)
