use Rattle.std.proofs.Common.{ap, subst, sym, ◌+◌, ◌^◌, ◌<◌, ℕ, arith, rules}
use Rattle.aug_core.specs.Faces.{face}
use Rattle.aug_core.specs.Effects.{MayChange, KnowsSerial, TriesLeaf}
use Rattle.aug_core.proofs.EraSteps.{allows_leaf}
use Rattle.aug_words.specs.Seats.{Known, MayAdvance}
use Rattle.aug_words.proofs.Passes.{pass_tried_leaf, has_taken}
use Rattle.aug_core.proofs.Sizes.{twice}
use Rattle.aug_words.proofs.pass.WordPass.try_leaf.Goals as goal

pub compare_exchange-found-requires : goal.compare_exchange-found-requires
compare_exchange-found-requires g c =
    let sits = c.self.invariant.sits in let wide = sits.placed.wide in let base = sits.placed.base_is in let t = twice c.self.inside.seat.me.0.shape.bits in
    let low = subst (λ (k : Known). c.args.leaf < 2 ^ k.view.shape.bits) (sym c.self.view_is) c.requires.leaf in
    let m = subst (λ (k : Known). MayAdvance k.view c.args.leaf c.args.old c.args.new) (sym c.self.view_is) c.requires.advance in
    let may = subst (λ (k : Known). MayChange k.view) (sym c.self.view_is) c.requires.change in
    (sits.seated, omega arith, allows_leaf _ _ _ _ c.args.leaf _ c.args.old c.args.new m.advance _ m.from m.to c.self.invariant.seat.live c.self.invariant.seat.no_slot (omega arith) (omega arith) low (has_taken _ _ _ _ c.self.invariant.seat) may m.known m.is_advance)

pub invariant_of-self : goal.invariant_of-self
invariant_of-self g c = let m = g.A.Monoid in let n = g.B.Monoid in let f = face m.parts n.parts in
    let may = subst (λ (k : Known). MayAdvance k.view c.args.leaf c.args.old c.args.new) (sym c.self.view_is) c.requires.advance in
    let told = c.compare_exchange-found.ensures.2 c.args.leaf (ap (λ (z : ℕ). z + c.args.leaf) c.self.invariant.sits.placed.base_is) in
    pass_tried_leaf f _ _ _ _ _ _ _ _ c.self.inside.seat.me c.compare_exchange-found.new.seat.me c.self.invariant c.compare_exchange-found.ensures.0 c.args.leaf may.advance c.compare_exchange-found.result told.0 (told.1 may.advance may.is_advance may.known may.from may.to)

pub returns : goal.returns
returns g c = let f = face g.A.Monoid.parts g.B.Monoid.parts in
    let told = c.compare_exchange-found.ensures.2 c.args.leaf (ap (λ (z : ℕ). z + c.args.leaf) c.self.invariant.sits.placed.base_is) in
    let found = c.compare_exchange-found.result in
    record { table = search rules; view = record { found = found; decided = search rules; told = λ a is known from to. subst (λ (k : Known). TriesLeaf f k.view c.args.leaf a found c.compare_exchange-found.new.seat.me.0) c.self.view_is (told.1 a is (subst (λ (k : Known). KnowsSerial k.view c.args.leaf a) (sym c.self.view_is) known) from to) } }
