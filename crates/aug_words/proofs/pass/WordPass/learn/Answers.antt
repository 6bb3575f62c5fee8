use Rattle.std.proofs.Common.{ap, subst, sym, ◌∙◌, ◌≡◌, rules}
use Rattle.std.specs.Prelude.{IfSome}
use Rattle.aug_core.specs.Faces.{face}
use Rattle.aug_core.specs.Addresses.{root_place}
use Rattle.aug_core.specs.Pasts.{IsLearnt}
use Rattle.aug_core.specs.Learning.{learning}
use Rattle.aug_core.specs.Effects.{Sat, LoadsNode}
use Rattle.aug_core.specs.declared.view.SeatView.{SeatView}
use Rattle.aug_core.proofs.Notes.{learns_in_its_era}
use Rattle.aug_words.specs.Seats.{Known}
use Rattle.aug_words.proofs.Leads.{pass_has_words, learnt_note}
use Rattle.aug_words.proofs.Passes.{works_on}
use Rattle.aug_words.proofs.pass.WordPass.learn.Goals as goal

pub join_seat-requires : goal.join_seat-requires
join_seat-requires g c = let seated = c.self.invariant.sits.seated in (
  seated,
  ap (λ (k : Known). k.table) c.note.view_is ∙ c.requires.table ∙ ap (λ (k : Known). k.table) (sym c.self.view_is) ∙ seated,
  c.note.invariant.no_slot,
  pass_has_words _ _ _ _ _ _ _ _ _ c.self.invariant,
  learns_in_its_era _ _ _ _ _ _ (works_on _ _ _ _ c.self.invariant.seat) c.self.invariant.seat.live c.note.invariant.live c.note.invariant.no_lane c.note.invariant.follows,
)

pub returns : goal.returns
returns g c = let m = g.A.Monoid in let n = g.B.Monoid in let f = face m.parts n.parts in
    let old : SeatView = c.args.self.now.view in let note : SeatView = c.args.note.view in let mid : SeatView = c.join_seat.new.seat.me.0 in
    let number = c.load_after_note.result in let after : SeatView = c.load_after_note.new.self.view in
    let is : mid ≡ learning old note = ap (λ (z : Sat). z.0) c.join_seat.ensures.2 ∙ ap (λ (k : Known). learning k.view c.note.inside.seat.me.0) c.self.view_is ∙ ap (λ (k : Known). learning old k.view) c.note.view_is in
    let both = subst (λ (z : SeatView). LoadsNode f z (root_place z.shape) number after × IfSome z.told (IsLearnt z.shape z.era z.past z.members)) is (c.load_after_note.ensures.view, c.load_after_note.ensures.told) in
    record { table = search rules; view = learnt_note f old note after number both.0 both.1 }
