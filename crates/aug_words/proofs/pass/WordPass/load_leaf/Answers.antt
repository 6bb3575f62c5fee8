use Rattle.std.proofs.Common.{ap, subst, sym, ◌^◌, ◌+◌, ◌<◌, ℕ, arith, rules}
use Rattle.aug_core.specs.Faces.{face}
use Rattle.aug_core.specs.Effects.{LoadsLeaf}
use Rattle.aug_core.proofs.EraSteps.{loads_leaf}
use Rattle.aug_words.specs.Seats.{Known}
use Rattle.aug_words.proofs.Passes.{pass_loaded_leaf, works_on}
use Rattle.aug_core.proofs.Sizes.{twice}
use Rattle.aug_words.proofs.pass.WordPass.load_leaf.Goals as goal

pub load-requires : goal.load-requires
load-requires g c =
    let sits = c.self.invariant.sits in let wide = sits.placed.wide in let base = sits.placed.base_is in let t = twice c.self.inside.seat.me.0.shape.bits in
    let low = subst (λ (k : Known). c.args.leaf < 2 ^ k.view.shape.bits) (sym c.self.view_is) c.requires in
    (sits.seated, omega arith, loads_leaf _ _ _ _ c.args.leaf _ _ (works_on _ _ _ _ c.self.invariant.seat) c.self.invariant.seat.live c.self.invariant.seat.no_slot (omega arith) (omega arith))

pub invariant_of-self : goal.invariant_of-self
invariant_of-self g c = let m = g.A.Monoid in let n = g.B.Monoid in let f = face m.parts n.parts in
    let low = subst (λ (k : Known). c.args.leaf < 2 ^ k.view.shape.bits) (sym c.self.view_is) c.requires in
    let told = c.load.ensures.2 c.args.leaf (ap (λ (z : ℕ). z + c.args.leaf) c.self.invariant.sits.placed.base_is) in
    pass_loaded_leaf f _ _ _ _ _ _ _ _ c.self.inside.seat.me c.load.new.seat.me c.self.invariant c.load.ensures.0 c.args.leaf c.load.result told.0 (told.1 low)

pub returns : goal.returns
returns g c = let m = g.A.Monoid in let n = g.B.Monoid in let f = face m.parts n.parts in
    let low = subst (λ (k : Known). c.args.leaf < 2 ^ k.view.shape.bits) (sym c.self.view_is) c.requires in
    record { table = search rules; view = subst (λ (k : Known). LoadsLeaf f k.view c.args.leaf c.load.result c.load.new.seat.me.0) c.self.view_is ((c.load.ensures.2 c.args.leaf (ap (λ (z : ℕ). z + c.args.leaf) c.self.invariant.sits.placed.base_is)).1 low) }
