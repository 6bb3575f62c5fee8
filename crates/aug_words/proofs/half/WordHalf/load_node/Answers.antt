use Rattle.std.proofs.Common.{ap, subst, sym, ◌+◌, ℕ, arith, rules}
use Rattle.atomic_table.specs.Seated.{TableId}
use Rattle.aug_core.specs.Faces.{face}
use Rattle.aug_core.specs.Addresses.{IsInner}
use Rattle.aug_core.specs.Effects.{LoadsNode}
use Rattle.aug_core.proofs.EraSteps.{loads_node}
use Rattle.aug_words.specs.Seats.{Known}
use Rattle.aug_words.specs.inside.SeatState.{IsPlaced}
use Rattle.aug_words.proofs.Passes.{sits_at, pass_loaded_node, works_on}
use Rattle.aug_words.proofs.half.WordHalf.load_node.Goals as goal

pub load-requires : goal.load-requires
load-requires g c =
    let w = c.words.invariant in let sits = sits_at _ _ _ _ c.self.inside.base c.words.inside.lanes c.words.inside.records c.self.view_is c.words.view_is c.requires.together c.self.invariant.placed w.lanes_are w.records_are in let wide = sits.placed.wide in let base = sits.placed.base_is in
    let inner = subst (λ (k : Known). IsInner k.view.shape c.args.node) (sym c.self.view_is) c.requires.inner in let low = inner.inside in
    (sits.seated, omega arith, loads_node _ _ _ _ c.args.node _ _ (works_on _ _ _ _ c.self.invariant.seat) c.self.invariant.seat.live c.self.invariant.seat.no_slot (omega arith) (omega arith))

pub invariant_of-self : goal.invariant_of-self
invariant_of-self g c = let f = face g.A.Monoid.parts g.B.Monoid.parts in
    let w = c.words.invariant in let sits = sits_at _ _ _ _ c.self.inside.base c.words.inside.lanes c.words.inside.records c.self.view_is c.words.view_is c.requires.together c.self.invariant.placed w.lanes_are w.records_are in
    let inner = subst (λ (k : Known). IsInner k.view.shape c.args.node) (sym c.self.view_is) c.requires.inner in let told = c.load.ensures.2 c.args.node (ap (λ (z : ℕ). z + c.args.node) c.self.invariant.placed.base_is) in
    let p = pass_loaded_node f _ _ _ _ _ _ _ _ c.self.inside.seat.me c.load.new.seat.me (record { sits = sits; seat = c.self.invariant.seat }) c.load.ensures.0 c.args.node c.load.result told.0 (told.1 inner) in
    record { placed = subst (λ (z : TableId). IsPlaced z c.self.inside.base c.load.new.seat.me.0) (sym p.sits.seated) p.sits.placed; seat = p.seat }

pub returns : goal.returns
returns g c = let f = face g.A.Monoid.parts g.B.Monoid.parts in
    let inner = subst (λ (k : Known). IsInner k.view.shape c.args.node) (sym c.self.view_is) c.requires.inner in
    record { table = search rules; view = subst (λ (k : Known). LoadsNode f k.view c.args.node c.load.result c.load.new.seat.me.0) c.self.view_is ((c.load.ensures.2 c.args.node (ap (λ (z : ℕ). z + c.args.node) c.self.invariant.placed.base_is)).1 inner) }
