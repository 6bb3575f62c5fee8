use Rattle.std.proofs.Common.{ap, subst, sym, ◌∙◌, ◌≡◌, rules}
use Rattle.aug_core.specs.Faces.{face}
use Rattle.aug_core.specs.Addresses.{root_place}
use Rattle.std.specs.Prelude.{IfSome}
use Rattle.aug_core.specs.Pasts.{IsLearnt}
use Rattle.aug_core.specs.Learning.{learning}
use Rattle.aug_core.specs.Effects.{Sat, LoadsNode}
use Rattle.aug_core.specs.declared.view.SeatView.{SeatView}
use Rattle.aug_core.proofs.Eras.{hands_out}
use Rattle.aug_core.proofs.Notes.{learns_in_its_era}
use Rattle.aug_words.specs.Seats.{Store, Known}
use Rattle.aug_words.proofs.Leads.{some_words, lead_learnt, learnt_note}
use Rattle.aug_words.proofs.lead.Lead.learn.Goals as goal

pub join_seat-requires : goal.join_seat-requires
join_seat-requires g c = let here = c.requires.together.one_table ∙ ap (λ (s : Store). s.table) (sym c.words.view_is) in (
  ap (λ (k : Known). k.table) c.self.view_is ∙ here,
  ap (λ (k : Known). k.table) c.note.view_is ∙ c.requires.table ∙ here,
  c.note.invariant.no_slot,
  some_words _ _ _ _ _ c.words.invariant,
  learns_in_its_era _ _ _ _ _ _ (hands_out c.self.inside.seat.me.0 c.self.inside.next c.self.invariant.1.hands_out) c.self.invariant.1.live c.note.invariant.live c.note.invariant.no_lane c.note.invariant.follows,
)

pub invariant_of-self : goal.invariant_of-self
invariant_of-self g c = lead_learnt (face g.A.Monoid.parts g.B.Monoid.parts) _ _ c.self.inside.base c.self.inside.next c.self.inside.root c.self.inside.draft.base c.self.inside.draft.shown.items c.self.inside.parts c.self.inside.seat.me c.join_seat.new.seat.me c.self.invariant c.join_seat.ensures.0 c.note.inside.seat.me.0
    (ap (λ (z : Sat). z.0) c.join_seat.ensures.2) (ap (λ (z : Sat). z.1) c.join_seat.ensures.2)

pub returns : goal.returns
returns g c = let m = g.A.Monoid in let n = g.B.Monoid in let f = face m.parts n.parts in
    let old : SeatView = c.args.self.now.view in let note : SeatView = c.args.note.view in let after : SeatView = c.load_after_note.new.self.view in let told = c.load_after_note.ensures.view in
    let is : c.join_seat.new.seat.me.0 ≡ learning old note = ap (λ (z : Sat). z.0) c.join_seat.ensures.2 ∙ ap (λ (k : Known). learning k.view c.note.inside.seat.me.0) c.self.view_is ∙ ap (λ (k : Known). learning old k.view) c.note.view_is in
    let both = subst (λ (z : SeatView). LoadsNode f z (root_place z.shape) told.0 after × IfSome z.told (IsLearnt z.shape z.era z.past z.members)) is (told.1, c.load_after_note.ensures.told) in
    record { table = search rules; view = (told.0, learnt_note f old note after told.0 both.0 both.1) }
