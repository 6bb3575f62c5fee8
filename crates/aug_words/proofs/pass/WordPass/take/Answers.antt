use Rattle.std.proofs.Common.{ap, refl, sym, subst, arith, inl, inr, ◌∙◌, rules}
use Rattle.aug_core.specs.Faces.{face}
use Rattle.aug_core.specs.Effects.{Sat}
use Rattle.aug_words.specs.Seats.{Known}
use Rattle.aug_core.proofs.Lending.{takes_reader}
use Rattle.aug_words.specs.Leads.{IsNotTaken}
use Rattle.aug_words.proofs.Aims.{pass_refuses, pass_took}
use Rattle.aug_words.proofs.Leads.{pass_has_words}
use Rattle.aug_words.proofs.Passes.{works_on}
use Rattle.aug_words.proofs.pass.WordPass.take.Goals.{then-reader-self-via-then-reader-self, then-reader-self-via-else-reader-self+then-self-eq0, then-reader-self-via-else-reader-self+else-self-eq0+then-self}
use Rattle.aug_words.proofs.pass.WordPass.take.Goals as goal

pub returns-then-reader-self : goal.returns-then-reader-self
returns-then-reader-self g c = let f = face g.A.Monoid.parts g.B.Monoid.parts in
    let refused = subst (λ (z : Known × Known). IsNotTaken z.0.view z.1.view) (λ i. (c.self.view_is i, c.reader.view_is i))
    (pass_refuses f _ c.self.inside.seat.table_id _ _ _ _ _ c.self.inside.lent c.self.inside.seat.me c.self.inside.seat.me c.self.invariant refl c.reader.inside.seat.me.0 (λ at. elim c.then-reader-self.branch [
      | then-reader-self-via-then-reader-self w ↦ absurd (w.if-reader-self.true (c.reader.invariant.placed.base_is ∙ at ∙ sym c.self.invariant.sits.placed.base_is))
      | then-reader-self-via-else-reader-self+then-self-eq0 w ↦ inl w.if-self-eq0.true
      | then-reader-self-via-else-reader-self+else-self-eq0+then-self w ↦ inr w.if-self.true
    ])) in
    record { table = search rules; taken = search rules; same = search rules; refused = refused }

pub join_seat-requires : goal.join_seat-requires
join_seat-requires g c = let seat = c.reader.invariant in (
  c.self.invariant.sits.seated,
  ap (λ (z : Known). z.table) c.reader.view_is ∙ c.requires.table ∙ sym (ap (λ (z : Known). z.table) c.self.view_is) ∙ c.self.invariant.sits.seated,
  seat.no_slot,
  pass_has_words _ _ _ _ _ _ _ _ _ c.self.invariant,
  takes_reader _ _ _ _ _ _ (works_on _ _ _ _ c.self.invariant.seat) seat.reads seat.no_lane seat.follows,
)

pub invariant_of-self : goal.invariant_of-self
invariant_of-self g c = let joined = c.join_seat.ensures.2 in
    pass_took (face g.A.Monoid.parts g.B.Monoid.parts) _ _ _ _ _ _ _ c.self.inside.lent c.self.inside.seat.me c.join_seat.new.seat.me c.self.invariant c.join_seat.ensures.0 c.reader.inside.seat.me.0
    (sym c.reader.invariant.placed.base_is ∙ c.if-reader-self.false ∙ c.self.invariant.sits.placed.base_is) (omega (arith, c.if-self-eq0.false)) (let few = c.self.invariant.seat.lends.few in omega (arith, c.if-self.false)) (ap (λ (z : Sat). z.0) joined) (ap (λ (z : Sat). z.1) joined)
