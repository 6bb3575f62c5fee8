use Rattle.std.proofs.Common.{ap, subst, sym, ◌∙◌, ◌≡◌, ◌+◌, arith, rules}
use Rattle.aug_core.specs.Faces.{face}
use Rattle.aug_core.specs.Addresses.{root_place}
use Rattle.aug_core.specs.Renewals.{Surveys}
use Rattle.aug_core.proofs.Eras.{hands_out}
use Rattle.aug_core.proofs.Renewals.{surveys}
use Rattle.aug_core.specs.declared.view.SeatView.{SeatView}
use Rattle.aug_words.specs.Seats.{Known}
use Rattle.aug_words.proofs.Leads.{lead_loaded, root_inner}
use Rattle.aug_words.proofs.lead.Lead.load_root.Goals as goal

pub load-found-requires : goal.load-found-requires
load-found-requires g c = let f = face g.A.Monoid.parts g.B.Monoid.parts in let v : SeatView = c.self.inside.seat.me.0 in let bits = c.self.invariant.1.knows.laid_out.bits in let inner = root_inner v.shape bits.0 bits.1 in
    let at : c.args.root ≡ v.base + root_place v.shape = subst (λ (k : Known). c.args.root ≡ k.view.base + root_place k.view.shape) (sym c.self.view_is) c.requires.root in
    let inside = inner.inside in (ap (λ (k : Known). k.table) c.self.view_is ∙ c.requires.table, c.requires.inside, surveys _ _ _ _ (root_place v.shape) _ _ (hands_out v c.self.inside.next c.self.invariant.1.hands_out) c.self.invariant.1.live c.self.invariant.1.no_slot (omega arith) at)

pub invariant_of-self : goal.invariant_of-self
invariant_of-self g c = let f = face g.A.Monoid.parts g.B.Monoid.parts in let v : SeatView = c.self.inside.seat.me.0 in let bits = c.self.invariant.1.knows.laid_out.bits in let inner = root_inner v.shape bits.0 bits.1 in
    let at : c.args.root ≡ v.base + root_place v.shape = subst (λ (k : Known). c.args.root ≡ k.view.base + root_place k.view.shape) (sym c.self.view_is) c.requires.root in
    let told = c.load-found.ensures.2 (root_place v.shape) at in
    lead_loaded f _ _ c.self.inside.base c.self.inside.next c.self.inside.root c.self.inside.draft.base c.self.inside.draft.shown.items c.self.inside.parts c.self.inside.seat.me c.load-found.new.seat.me c.self.invariant c.load-found.ensures.0 c.load-found.result told.0 (told.1 inner).loaded

pub returns : goal.returns
returns g c = let f = face g.A.Monoid.parts g.B.Monoid.parts in let v : SeatView = c.self.inside.seat.me.0 in let bits = c.self.invariant.1.knows.laid_out.bits in let inner = root_inner v.shape bits.0 bits.1 in
    let at : c.args.root ≡ v.base + root_place v.shape = subst (λ (k : Known). c.args.root ≡ k.view.base + root_place k.view.shape) (sym c.self.view_is) c.requires.root in
    record { table = search rules; view = subst (λ (k : Known). Surveys f k.view (root_place k.view.shape) c.load-found.result c.load-found.new.seat.me.0) c.self.view_is ((c.load-found.ensures.2 (root_place v.shape) at).1 inner) }
