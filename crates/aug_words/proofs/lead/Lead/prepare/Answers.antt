use Rattle.std.proofs.Common.{ap, subst, sym, ◌∙◌, ◌≡◌, ◌+◌, ◌-◌, ◌^◌, ◌≤◌, ℕ, List}
use Rattle.aug_core.specs.Addresses.{level_of, place_on, root_place}
use Rattle.aug_core.specs.Faces.{face}
use Rattle.aug_core.specs.Places.{Shape, record_start, word_count}
use Rattle.aug_core.specs.declared.view.SeatView.{SeatView}
use Rattle.aug_words.specs.Seats.{Known, Store}
use Rattle.aug_words.specs.inside.Laying.{Brings, MayBring, ShownBelow, StepsBeside, words_in}
use Rattle.aug_words.specs.inside.SeatState.{IsLead}
use Rattle.aug_words.proofs.Aimed.{Aimed, aimed, aimed_below, aimed_brought, aimed_may, aimed_named}
use Rattle.aug_words.proofs.Lays.{root_at}
use Rattle.aug_words.proofs.lead.Lead.prepare.Goals.{After-aim, After-words}
use Rattle.aug_words.proofs.lead.Lead.prepare.Goals as goal

top : (g : _) (c : After-words g) → c.words.inside.lanes - 1 ≡ root_place c.args.words.now.shape
top g c = (root_at _ _ _ c.args.words.now.shape _ _ c.words.invariant (ap (λ (z : Store). z.shape) c.words.view_is)).1

-- the lead aims at a part
aims : (g : _) (c : After-aim g) → let i = c.self.inside in let d = c.aim.new in
    Aimed (face g.A.Monoid.parts g.B.Monoid.parts) i.seat.table_id i.base i.next i.root d.self.base d.self.shown.items d.parts i.seat.me c.args.words.now.shape i.parts.out.items
aims g c = let i = c.self.inside in let d = c.aim.new in let e = c.aim.ensures in let one = c.requires.together.one_shape in
    aimed (face g.A.Monoid.parts g.B.Monoid.parts) i.seat.table_id i.base i.next i.root _ _ i.parts i.seat.me c.self.invariant c.args.words.now.shape
    (ap (λ (k : Known). k.view.shape) c.self.view_is ∙ ap (λ (z : SeatView). z.shape) c.survey-size.ensures.view.loaded.stepped ∙ one) (subst (λ (z : Shape). 2 ^ z.bits ≤ z.members) one c.requires.room) (subst (λ (z : Shape). z.reservations ≡ 0) one c.requires.keeps)
    _ (c.words-size.ensures.value ∙ ap (λ (z : Store). word_count z.shape) c.words.view_is) d.parts d.self.base d.self.shown.items e.own e.out e.next e.same e.turned

pub invariant_of-self : goal.invariant_of-self
invariant_of-self g c = (aims g (goal.at.invariant_of-self g c).After-aim).lead

pub bring-done-requires-clause-may : goal.bring-done-requires-clause-may
bring-done-requires-clause-may g c = let i = c.self.inside in let table = c.args.words.now.table in let records : ℕ = i.base + c.words.inside.records in
    subst (λ (z : ℕ). MayBring (face g.A.Monoid.parts g.B.Monoid.parts) i.seat.table_id table records z c.args.words.now.shape i.seat.me) (sym c.begin.ensures.base)
    (aimed_may (aims g (goal.at.bring-done-requires-clause-may g c).After-aim) table records (c.aim.ensures.free c.if-not-aim.false)
    (ap (λ (k : Known). k.table) c.self.view_is ∙ c.survey-size.ensures.table ∙ c.requires.together.one_table)
    (ap (λ (z : ℕ). i.base + z) (c.words.invariant.records_are ∙ ap (λ (z : Store). record_start z.shape 0) c.words.view_is)))

pub bring-done-requires-clause-named : goal.bring-done-requires-clause-named
bring-done-requires-clause-named g c = let at = goal.at.bring-done-requires-clause-named g c in aimed_named (aims g at.After-aim) (top g at.After-words)

pub bring-done-requires-clause-below : goal.bring-done-requires-clause-below
bring-done-requires-clause-below g c = let at = goal.at.bring-done-requires-clause-below g c in let s : Shape = c.args.words.now.shape in let v : SeatView = c.self.inside.seat.me.0 in let q : ℕ = c.words.inside.lanes - 1 in
    subst (λ (z : ℕ × List ℕ). ShownBelow (face g.A.Monoid.parts g.B.Monoid.parts) s v.seen (words_in z.0 s v) z.1 (level_of s q) (place_on s q)) (λ i. (sym c.begin.ensures.base i, (sym c.begin.ensures.shown i).items))
    (aimed_below (aims g at.After-aim) (top g at.After-words))

pub invariant_of-self-2 : goal.invariant_of-self-2
invariant_of-self-2 g c =
    let f = face g.A.Monoid.parts g.B.Monoid.parts in let i = c.self.inside in let s : Shape = c.args.words.now.shape in let v : SeatView = i.seat.me.0 in let w : SeatView = c.bring-done.new.seat.me.0 in
    let at = goal.at.invariant_of-self-2 g c in let q : ℕ = c.words.inside.lanes - 1 in let began = c.begin.ensures.base in let e = c.bring-done.ensures in
    let one = e.may.may.seated ∙ sym (ap (λ (k : Known). k.table) c.self.view_is ∙ c.survey-size.ensures.table ∙ c.requires.together.one_table) in
    subst (λ (z : ℕ × List ℕ). IsLead f c.bring-done.new.seat.table_id i.base i.next i.root z.0 z.1 c.aim.new.parts c.bring-done.new.seat.me)
    (λ j. (sym (c.end.ensures.base ∙ e.base ∙ began) j, (sym c.end.ensures.shown j).items))
    (aimed_brought (aims g at.After-aim) (top g at.After-words) c.bring-done.new.seat.table_id c.bring-done.new.draft.shown.items c.bring-done.new.seat.me one e.may.may.no_slot
    (subst (λ (z : ℕ). StepsBeside z s v w) began e.view)
    (subst (λ (z : ℕ × List ℕ). Brings f s v.seen (level_of s q) (place_on s q) (words_in z.0 s v) (words_in z.0 s w) z.1 c.bring-done.new.draft.shown.items) (λ j. (began j, (c.begin.ensures.shown j).items)) e.brings))

pub overflow_sub-words-inside : goal.overflow_sub-words-inside
overflow_sub-words-inside g c = (root_at _ _ _ c.args.words.now.shape _ _ c.words.invariant (ap (λ (z : Store). z.shape) c.words.view_is)).0

pub bring-done-requires-clause-node : goal.bring-done-requires-clause-node
bring-done-requires-clause-node g c = (root_at _ _ _ c.args.words.now.shape _ _ c.words.invariant (ap (λ (z : Store). z.shape) c.words.view_is)).2
