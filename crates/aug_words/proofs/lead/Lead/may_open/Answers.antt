use Rattle.std.proofs.Common.{ap, refl, sym, subst, ◌∙◌, ◌≡◌, ◌*◌, ◌^◌, ◌≤◌, Bool, true, false, IsTrue, ℕ}
use Rattle.aug_core.specs.Faces.{face}
use Rattle.aug_core.specs.Places.{word_count}
use Rattle.aug_words.specs.Leads.{MayOpen}
use Rattle.aug_words.specs.Seats.{Known, Store}
use Rattle.aug_words.proofs.Aims.{lead_aimed, may_not_open, may_open_there}
use Rattle.aug_words.proofs.lead.Lead.may_open.Goals as goal

pub invariant_of-self : goal.invariant_of-self
invariant_of-self g c = let sized = c.words-2.ensures.value ∙ ap word_count (ap (λ (z : Store). z.shape) c.words.view_is ∙ sym (ap (λ (z : Known). z.view.shape) c.self.view_is ∙ c.requires.together.one_shape)) in let e = c.aim.ensures in
    lead_aimed (face g.A.Monoid.parts g.B.Monoid.parts) _ _ _ _ _ _ c.self.inside.parts c.self.inside.seat.me c.self.invariant c.aim.new.parts c.aim.new.self.base c.aim.new.self.shown.items e.own e.out e.next e.same
    (λ ne. let t = e.turned ne in (t.0 ∙ ap (λ (z : ℕ). c.aim.new.parts.next * z) sized, t.1, t.2))

pub returns-clause-value : goal.returns-clause-value
returns-clause-value g c = let f = face g.A.Monoid.parts g.B.Monoid.parts in
    let sized = c.words-2.ensures.value ∙ ap word_count (ap (λ (z : Store). z.shape) c.words.view_is ∙ sym (ap (λ (z : Known). z.view.shape) c.self.view_is ∙ c.requires.together.one_shape)) in let e = c.aim.ensures in
    let room : 2 ^ c.self.inside.seat.me.0.shape.bits ≤ c.self.inside.seat.me.0.shape.members = subst (λ (z : Known). 2 ^ z.view.shape.bits ≤ z.view.shape.members) (sym c.self.view_is) c.requires.room in (
      (λ is. subst MayOpen c.self.view_is (may_open_there f _ _ _ _ _ _ c.self.inside.parts c.self.inside.seat.me c.self.invariant c.aim.new.parts c.aim.new.self.base c.aim.new.self.shown.items e.own e.out e.next e.same
          (λ ne. let t = e.turned ne in (t.0 ∙ ap (λ (z : ℕ). c.aim.new.parts.next * z) sized, t.1, t.2)) room (e.free is))),
      (λ may. by_result c.aim.result (λ not. may_not_open f _ _ _ _ _ _ c.self.inside.parts c.self.inside.seat.me c.self.invariant (e.none not) (subst MayOpen (sym c.self.view_is) may))),
    )
  where
    by_result : (b : Bool) → (b ≡ false → ⊥) → IsTrue b
    by_result true never = refl
    by_result false never = absurd (never refl)
