use Rattle.std.proofs.Common.{refl, ap, sym, subst, ◌∙◌, ◌≡◌, ◌+◌, ◌-◌, ℕ}
use Rattle.aug_core.specs.Addresses.{IsInner, root_place}
use Rattle.aug_core.specs.Faces.{face}
use Rattle.aug_core.specs.Places.{Shape, record_start, word_count}
use Rattle.aug_core.specs.Renewals.{HoldsAll}
use Rattle.aug_words.specs.Leads.{MayOpen}
use Rattle.aug_words.specs.Rests.{OpensAgain}
use Rattle.aug_words.specs.Seats.{Known, Store}
use Rattle.aug_words.specs.inside.Laying.{OpensOver}
use Rattle.aug_words.proofs.Aimed.{Aimed, aimed, aimed_below, aimed_may, aimed_named, aimed_renews}
use Rattle.aug_words.proofs.Aims.{may_not_open}
use Rattle.aug_words.proofs.Lays.{root_at}
use Rattle.aug_words.proofs.Leads.{root_inner}
use Rattle.aug_words.proofs.Renewed.{lead_renewed, renewed_opens, renewed_shape}
use Rattle.aug_words.proofs.Reopens.{opens_over, still_all}
use Rattle.aug_words.proofs.words.Words.open_again.Goals.{After-aim, After-self}
use Rattle.aug_words.proofs.words.Words.open_again.Goals as goal

pub unreachable-requires : goal.unreachable-requires
unreachable-requires g c = let i = c.lead.inside in may_not_open (face g.A.Monoid.parts g.B.Monoid.parts) i.seat.table_id i.base i.next i.root _ _ i.parts i.seat.me c.lead.invariant
    (c.aim.ensures.none c.if-not-aim.true) (subst MayOpen (sym c.lead.view_is) c.requires.free)

top : (g : _) (c : After-self g) → c.self.inside.lanes - 1 ≡ root_place c.args.self.now.shape
top g c = (root_at _ _ _ c.args.self.now.shape _ _ c.self.invariant (ap (λ (z : Store). z.shape) c.self.view_is)).1

-- the lead aims at a part
aims : (g : _) (c : After-aim g) → let i = c.lead.inside in let d = c.aim.new in
    Aimed (face g.A.Monoid.parts g.B.Monoid.parts) i.seat.table_id i.base i.next i.root d.self.base d.self.shown.items d.parts i.seat.me c.args.self.now.shape i.parts.out.items
aims g c = let i = c.lead.inside in let d = c.aim.new in let e = c.aim.ensures in
    aimed (face g.A.Monoid.parts g.B.Monoid.parts) i.seat.table_id i.base i.next i.root _ _ i.parts i.seat.me c.lead.invariant c.args.self.now.shape
    (ap (λ (k : Known). k.view.shape) c.lead.view_is ∙ c.requires.together.one_shape) c.requires.room c.requires.keeps _ (c.words-size.ensures.value ∙ ap (λ (z : Store). word_count z.shape) c.self.view_is)
    d.parts d.self.base d.self.shown.items e.own e.out e.next e.same e.turned

pub bring-requires-clause-may : goal.bring-requires-clause-may
bring-requires-clause-may g c = aimed_may (aims g (goal.at.bring-requires-clause-may g c).After-aim) c.args.self.now.table (c.lead.inside.base + c.self.inside.records)
    (c.aim.ensures.free c.if-not-aim.false) (ap (λ (k : Known). k.table) c.lead.view_is ∙ c.requires.together.one_table)
    (ap (λ (z : ℕ). c.lead.inside.base + z) (c.self.invariant.records_are ∙ ap (λ (z : Store). record_start z.shape 0) c.self.view_is))

pub bring-requires-clause-named : goal.bring-requires-clause-named
bring-requires-clause-named g c = let at = goal.at.bring-requires-clause-named g c in aimed_named (aims g at.After-aim) (top g at.After-self)

pub bring-requires-clause-below : goal.bring-requires-clause-below
bring-requires-clause-below g c = let at = goal.at.bring-requires-clause-below g c in aimed_below (aims g at.After-aim) (top g at.After-self)

pub reopen-requires-clause-opened : goal.reopen-requires-clause-opened
reopen-requires-clause-opened g c = let at = goal.at.reopen-requires-clause-opened g c in let b = c.bring.ensures in let l = c.lay_shared.ensures in let d = c.free_lanes.ensures in
    let a = aims g at.After-aim in let r = aimed_renews a (top g at.After-self) b.base b.view (b.done (b.all refl).0) l.changes l.shares d.changes d.frees in
    subst (λ (z : ℕ). OpensOver (face g.A.Monoid.parts g.B.Monoid.parts) z c.free_lanes.new.seat.me.0) (sym b.base) (opens_over a.keeps a.lead.1.knows a.lead.1.names_root r (a.clear (c.aim.ensures.free c.if-not-aim.false)))

pub reopen-requires-clause-all : goal.reopen-requires-clause-all
reopen-requires-clause-all g c = let at = goal.at.reopen-requires-clause-all g c in let b = c.bring.ensures in let l = c.lay_shared.ensures in let d = c.free_lanes.ensures in
    let a = aims g at.After-aim in let r = aimed_renews a (top g at.After-self) b.base b.view (b.done (b.all refl).0) l.changes l.shares d.changes d.frees in
    still_all a.keeps a.lead.1.knows a.lead.1.names_root r (subst (λ (k : Known). HoldsAll k.view) (sym c.lead.view_is) c.requires.all)

pub own_number-requires : goal.own_number-requires
own_number-requires g c = let bits = c.lead.invariant.1.knows.laid_out.bits in
    let shape = ap (λ (k : Known). k.view.shape) c.lead.view_is ∙ c.requires.together.one_shape in record {
      node = subst (IsInner c.args.self.now.shape) (sym (top g (goal.at.own_number-requires g c).After-self))
          (subst (λ (z : Shape). IsInner z (root_place z)) shape (root_inner c.lead.inside.seat.me.0.shape bits.0 bits.1));
    }

pub returns-clause-together : goal.returns-clause-together
returns-clause-together g c = let at = goal.at.returns-clause-together g c in let b = c.bring.ensures in let l = c.lay_shared.ensures in let d = c.free_lanes.ensures in
    let a = aims g at.After-aim in let r = aimed_renews a (top g at.After-self) b.base b.view (b.done (b.all refl).0) l.changes l.shares d.changes d.frees in
    record { one_table = c.reopen.ensures.table ∙ d.may.seated; one_shape = renewed_shape a r c.reopen.new.seat.me b.base c.reopen.ensures.view }

pub returns-clause-opens : goal.returns-clause-opens
returns-clause-opens g c = let at = goal.at.returns-clause-opens g c in let b = c.bring.ensures in let l = c.lay_shared.ensures in let d = c.free_lanes.ensures in
    let a = aims g at.After-aim in let r = aimed_renews a (top g at.After-self) b.base b.view (b.done (b.all refl).0) l.changes l.shares d.changes d.frees in
    subst (λ (k : Known). OpensAgain (face g.A.Monoid.parts g.B.Monoid.parts) k.view c.reopen.new.seat.me.0) c.lead.view_is (renewed_opens a r c.reopen.new.seat.me b.base c.reopen.ensures.view)

pub invariant_of-result : goal.invariant_of-result
invariant_of-result g c = let at = goal.at.invariant_of-result g c in let b = c.bring.ensures in let l = c.lay_shared.ensures in let d = c.free_lanes.ensures in
    let a = aims g at.After-aim in let r = aimed_renews a (top g at.After-self) b.base b.view (b.done (b.all refl).0) l.changes l.shares d.changes d.frees in
    let turned = c.turn.ensures in let swapped = c.swap.ensures in
    let one = c.reopen.ensures.table ∙ d.may.seated ∙ sym (ap (λ (k : Known). k.table) c.lead.view_is ∙ c.requires.together.one_table) in
    lead_renewed a r c.reopen.new.seat.me b.base c.reopen.ensures.view (top g at.After-self) c.own_number.ensures one c.reopen.ensures.no_slot
    turned.base (turned.noted ∙ b.brings.noted) turned.none swapped.own swapped.next swapped.out

pub overflow_sub-top : goal.overflow_sub-top
overflow_sub-top g c = (root_at _ _ _ c.args.self.now.shape _ _ c.self.invariant (ap (λ (z : Store). z.shape) c.self.view_is)).0

pub bring-requires-clause-node : goal.bring-requires-clause-node
bring-requires-clause-node g c = (root_at _ _ _ c.args.self.now.shape _ _ c.self.invariant (ap (λ (z : Store). z.shape) c.self.view_is)).2
