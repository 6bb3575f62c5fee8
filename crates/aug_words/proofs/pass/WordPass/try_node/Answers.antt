use Rattle.std.proofs.Common.{ap, subst, sym, ◌+◌, ◌<◌, ℕ, arith, rules}
use Rattle.std.specs.Prelude.{◌==◌}
use Rattle.std.proofs.lemmas.Bool.{eq-eqb, eqb-true}
use Rattle.aug_core.specs.Faces.{face}
use Rattle.aug_core.specs.Addresses.{IsInner}
use Rattle.aug_core.specs.Places.{record_count}
use Rattle.aug_core.proofs.EraSteps.{tries_node}
use Rattle.aug_words.specs.Seats.{Known, NamesOwn, TriedNode}
use Rattle.aug_words.proofs.Passes.{pass_tried_node, has_taken}
use Rattle.aug_words.proofs.pass.WordPass.try_node.Goals as goal

pub compare_exchange-found-requires : goal.compare_exchange-found-requires
compare_exchange-found-requires g c = let m = g.A.Monoid in let n = g.B.Monoid in let f = face m.parts n.parts in
    let sits = c.self.invariant.sits in let wide = sits.placed.wide in let base = sits.placed.base_is in
    let inner = subst (λ (k : Known). IsInner k.view.shape c.args.node) (sym c.self.view_is) c.requires.inner in let low = inner.inside in
    let own = subst (λ (k : Known). NamesOwn f k.view c.args.node c.args.from c.args.to) (sym c.self.view_is) c.requires.own in
    (sits.seated, omega arith, tries_node f _ _ _ c.args.node _ _ own.birth own.number _ _ own.named c.self.invariant.seat.live c.self.invariant.seat.no_slot (omega arith) (omega arith) inner (has_taken _ _ _ _ c.self.invariant.seat) own.own own.filled)

pub invariant_of-self : goal.invariant_of-self
invariant_of-self g c = let m = g.A.Monoid in let n = g.B.Monoid in let f = face m.parts n.parts in
    let told = c.compare_exchange-found.ensures.2 c.args.node (ap (λ (z : ℕ). z + c.args.node) c.self.invariant.sits.placed.base_is) in
    let own = subst (λ (k : Known). NamesOwn f k.view c.args.node c.args.from c.args.to) (sym c.self.view_is) c.requires.own in
    pass_tried_node f _ _ _ _ _ _ _ _ c.self.inside.seat.me c.compare_exchange-found.new.seat.me c.self.invariant c.compare_exchange-found.ensures.0 c.args.node c.args.from own.number c.args.to c.compare_exchange-found.result told.0
    (told.1 own.birth own.number (subst (λ (z : ℕ). z < record_count c.self.inside.seat.me.0.shape) own.own.numbered own.own.exists) own.named)

pub returns : goal.returns
returns g c = let m = g.A.Monoid in let n = g.B.Monoid in let f = face m.parts n.parts in let found = c.compare_exchange-found.result in
    let told = c.compare_exchange-found.ensures.2 c.args.node (ap (λ (z : ℕ). z + c.args.node) c.self.invariant.sits.placed.base_is) in
    record {
      table = search rules;
      view = subst (λ (k : Known). TriedNode f k.view c.args.node c.args.from c.args.to (found == c.args.from) c.compare_exchange-found.new.seat.me.0) c.self.view_is
          record { found = found; decided = (eqb-true found c.args.from, eq-eqb found c.args.from); told = told.1 };
    }
