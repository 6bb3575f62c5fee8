use Rattle.std.proofs.Common.{ap, inl, inr, sym, subst, ◌∙◌, ◌*◌, ◌/◌, ◌<◌, ◌≤◌, ◌≡◌, ℕ, rules}
use Rattle.aug_core.specs.Faces.{face}
use Rattle.aug_core.specs.Places.{word_count}
use Rattle.aug_core.specs.Effects.{Sat}
use Rattle.aug_words.specs.Seats.{Known, Store}
use Rattle.aug_core.proofs.Eras.{hands_out}
use Rattle.aug_core.proofs.Lending.{takes_reader}
use Rattle.aug_words.specs.Leads.{IsNotTaken}
use Rattle.aug_words.proofs.Aims.{lead_elsewhere, lead_kept, lead_refuses}
use Rattle.aug_words.proofs.Leads.{lead_took, some_words}
use Rattle.aug_words.proofs.lead.Lead.take.Goals.{then-part-size-via-then-part-size, then-part-size-via-else-part-size+then-part-len}
use Rattle.aug_words.proofs.lead.Lead.take.Goals as goal

pub returns-then-part-size : goal.returns-then-part-size
returns-then-part-size g c = let f = face g.A.Monoid.parts g.B.Monoid.parts in let stored = ap (λ (z : Store). z.shape) c.words.view_is in
    let sized : c.words-size.result ≡ word_count c.self.inside.seat.me.0.shape = c.words-size.ensures.value ∙ ap word_count (stored ∙ sym (ap (λ (z : Known). z.view.shape) c.self.view_is ∙ c.requires.together.one_shape)) in
    let refused = subst (λ (z : Known × Known). IsNotTaken z.0.view z.1.view) (λ i. (c.self.view_is i, c.reader.view_is i))
    (lead_elsewhere f _ _ _ _ _ _ c.self.inside.parts c.self.inside.seat.me c.self.invariant c.reader.inside.base c.words-size.result c.reader.inside.seat.me.0 c.reader.invariant.placed.base_is sized (elim c.then-part-size.branch [
      | then-part-size-via-then-part-size w ↦ inl w.if-part-size.true
      | then-part-size-via-else-part-size+then-part-len w ↦ inr (subst (λ (z : ℕ). z ≤ c.reader.inside.base / c.words-size.result) (w.len.ensures ∙ c.self.inside.parts.out.ok.0) w.if-part-len.true)
    ])) in
    record { table = search rules; taken = search rules; same = search rules; refused = refused }

pub invariant_of-self : goal.invariant_of-self
invariant_of-self g c = let k = c.take.ensures.kept c.if-not-take.true in
    lead_kept (face g.A.Monoid.parts g.B.Monoid.parts) _ _ _ _ _ _ c.self.inside.parts c.self.inside.seat.me c.self.invariant c.take.new.self c.take.ensures.own c.take.ensures.next k.0

pub returns-then-not-take : goal.returns-then-not-take
returns-then-not-take g c = let f = face g.A.Monoid.parts g.B.Monoid.parts in let stored = ap (λ (z : Store). z.shape) c.words.view_is in
    let sized : c.words-size.result ≡ word_count c.self.inside.seat.me.0.shape = c.words-size.ensures.value ∙ ap word_count (stored ∙ sym (ap (λ (z : Known). z.view.shape) c.self.view_is ∙ c.requires.together.one_shape)) in
    let part = c.reader.inside.base / c.words-size.result in
    let refused = subst (λ (z : Known × Known). IsNotTaken z.0.view z.1.view) (λ i. (c.self.view_is i, c.reader.view_is i))
    (lead_refuses f _ _ _ _ _ _ c.self.inside.parts c.self.inside.seat.me c.self.invariant part c.reader.inside.seat.me.0 (subst (λ (z : ℕ). part < z) (c.len.ensures ∙ c.self.inside.parts.out.ok.0) c.if-part-len.false)
    (sym c.reader.invariant.placed.base_is ∙ sym c.if-part-size.false ∙ ap (λ z. part * z) sized) (c.take.ensures.kept c.if-not-take.true).1) in
    record { table = search rules; taken = search rules; same = search rules; refused = refused }

pub join_seat-requires : goal.join_seat-requires
join_seat-requires g c = let stored = ap (λ (z : Store). z.table) (sym c.words.view_is) in let seat = c.reader.invariant in let here = c.requires.together.one_table ∙ stored in (
  ap (λ (z : Known). z.table) c.self.view_is ∙ here,
  ap (λ (z : Known). z.table) c.reader.view_is ∙ c.requires.reader ∙ here,
  seat.no_slot,
  some_words _ _ _ _ _ c.words.invariant,
  takes_reader _ _ _ _ _ _ (hands_out c.self.inside.seat.me.0 c.self.inside.next c.self.invariant.1.hands_out) seat.reads seat.no_lane seat.follows,
)

pub invariant_of-self-2 : goal.invariant_of-self-2
invariant_of-self-2 g c = let f = face g.A.Monoid.parts g.B.Monoid.parts in let stored = ap (λ (z : Store). z.shape) c.words.view_is in
    let sized : c.words-size.result ≡ word_count c.self.inside.seat.me.0.shape = c.words-size.ensures.value ∙ ap word_count (stored ∙ sym (ap (λ (z : Known). z.view.shape) c.self.view_is ∙ c.requires.together.one_shape)) in
    let part = c.reader.inside.base / c.words-size.result in let t = c.take.ensures.taken c.if-not-take.false in
    lead_took f _ _ c.self.inside.base c.self.inside.next c.self.inside.root c.self.inside.draft.base c.self.inside.draft.shown.items c.self.inside.parts c.self.inside.seat.me c.join_seat.new.seat.me c.self.invariant c.join_seat.ensures.0 c.reader.inside.seat.me.0
    part c.take.new.self (subst (λ (z : ℕ). part < z) (c.len.ensures ∙ c.self.inside.parts.out.ok.0) c.if-part-len.false) (sym c.reader.invariant.placed.base_is ∙ sym c.if-part-size.false ∙ ap (λ z. part * z) sized) t.0 t.1 c.take.ensures.own c.take.ensures.next t.2 (ap (λ (z : Sat). z.0) c.join_seat.ensures.2) (ap (λ (z : Sat). z.1) c.join_seat.ensures.2)
