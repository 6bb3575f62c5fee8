use Rattle.std.proofs.Common.{arith, subst}
use Rattle.std.specs.Prelude.{IfSome}
use Rattle.aug_core.specs.Faces.{face}
use Rattle.aug_core.specs.Addresses.{root_place}
use Rattle.aug_core.specs.Pasts.{IsLearnt}
use Rattle.aug_core.specs.Places.{Shape}
use Rattle.aug_core.specs.Effects.{LoadsNode}
use Rattle.aug_core.proofs.EraSteps.{loads_after_note}
use Rattle.aug_core.proofs.Sizes.{twice, some_leaf}
use Rattle.aug_words.specs.Seats.{Known}
use Rattle.aug_words.proofs.Leads.{root_inner}
use Rattle.aug_words.proofs.Passes.{pass_loaded_node, works_on}
use Rattle.aug_words.proofs.pass.WordPass.load_after_note.Goals as goal

pub load-requires : goal.load-requires
load-requires g c =
    let sits = c.self.invariant.sits in let wide = sits.placed.wide in let begins = sits.lanes_are in let s : Shape = c.self.inside.seat.me.0.shape in let t = twice s.bits in let bits = c.self.invariant.seat.knows.laid_out.bits in
    let low = (root_inner s bits.0 bits.1).inside in
    (sits.seated, omega arith, loads_after_note _ _ _ _ (root_place s) _ _ (works_on _ _ _ _ c.self.invariant.seat) c.self.invariant.seat.live c.self.invariant.seat.no_slot (omega arith) (omega arith))

pub overflow_sub-self-inside : goal.overflow_sub-self-inside
overflow_sub-self-inside g c = let begins = c.self.invariant.sits.lanes_are in let s : Shape = c.self.inside.seat.me.0.shape in let t = twice s.bits in let some = some_leaf s.bits in omega arith

pub invariant_of-self : goal.invariant_of-self
invariant_of-self g c = let f = face g.A.Monoid.parts g.B.Monoid.parts in
    let begins = c.self.invariant.sits.lanes_are in let s : Shape = c.self.inside.seat.me.0.shape in let t = twice s.bits in let some = some_leaf s.bits in let bits = c.self.invariant.seat.knows.laid_out.bits in
    let told = (c.load.ensures.2 (root_place s) (omega arith)).0 in
    pass_loaded_node f _ _ _ _ _ _ _ _ c.self.inside.seat.me c.load.new.seat.me c.self.invariant c.load.ensures.0 (root_place s) c.load.result told.0 (told.1 (root_inner s bits.0 bits.1))

pub returns-clause-view : goal.returns-clause-view
returns-clause-view g c = let f = face g.A.Monoid.parts g.B.Monoid.parts in
    let begins = c.self.invariant.sits.lanes_are in let s : Shape = c.self.inside.seat.me.0.shape in let t = twice s.bits in let some = some_leaf s.bits in let bits = c.self.invariant.seat.knows.laid_out.bits in
    subst (λ (k : Known). LoadsNode f k.view (root_place k.view.shape) c.load.result c.load.new.seat.me.0) c.self.view_is ((c.load.ensures.2 (root_place s) (omega arith)).0.1 (root_inner s bits.0 bits.1))

pub returns-clause-told : goal.returns-clause-told
returns-clause-told g c = subst (λ (k : Known). IfSome k.view.told (IsLearnt k.view.shape k.view.era k.view.past k.view.members)) c.self.view_is (let begins = c.self.invariant.sits.lanes_are in let t = twice c.self.inside.seat.me.0.shape.bits in let some = some_leaf c.self.inside.seat.me.0.shape.bits in (c.load.ensures.2 (root_place c.self.inside.seat.me.0.shape) (omega arith)).1)
