use Rattle.std.proofs.Common.{subst, sym}
use Rattle.aug_core.specs.Faces.{face}
use Rattle.aug_core.specs.Effects.{IsFilled, MayStore}
use Rattle.aug_core.specs.declared.view.SeatView.{SeatView}
use Rattle.aug_core.proofs.Filling.{may_fill}
use Rattle.aug_words_tests.proofs.StepTests.{first_is, second_is, still_stores, may_publish, covers_round}
use Rattle.aug_words_tests.proofs.steps.refill.Goals as goal

pub fill-requires : goal.fill-requires
fill-requires g c = still_stores (face g.A.Monoid.parts g.B.Monoid.parts) _ _ _ _ c.load_node-from.result c.load_leaf-left.result c.load_leaf-right.result c.requires.bits c.load_node-from.ensures.view c.load_leaf-left.ensures.view c.load_leaf-right.ensures.view c.args.number c.requires.own

pub returns-clause-own : goal.returns-clause-own
returns-clause-own g c = let f = face g.A.Monoid.parts g.B.Monoid.parts in
    let may = still_stores f _ _ _ _ c.load_node-from.result c.load_leaf-left.result c.load_leaf-right.result c.requires.bits c.load_node-from.ensures.view c.load_leaf-left.ensures.view c.load_leaf-right.ensures.view c.args.number c.requires.own in
    subst (λ (z : SeatView). MayStore z c.args.number) (sym c.fill.ensures.1) (may_fill _ c.args.number c.words_over-five.result may 5)

pub returns-clause-filled : goal.returns-clause-filled
returns-clause-filled g c = let m = g.A.Monoid in let n = g.B.Monoid in let f = face m.parts n.parts in let five = c.words_over-five.result in let are = c.words_over-five.ensures in
    let may = still_stores f _ _ _ _ c.load_node-from.result c.load_leaf-left.result c.load_leaf-right.result c.requires.bits c.load_node-from.ensures.view c.load_leaf-left.ensures.view c.load_leaf-right.ensures.view c.args.number c.requires.own in
    let covers = covers_round f _ _ _ _ c.load_node-from.result c.load_leaf-left.result c.load_leaf-right.result c.requires.bits c.load_node-from.ensures.view c.load_leaf-left.ensures.view c.load_leaf-right.ensures.view 0 c.requires.round in
    subst (λ (z : SeatView). IsFilled f z 2 c.load_node-from.result 0 c.args.number) (sym c.fill.ensures.1)
    (may_publish f _ _ _ _ c.load_node-from.result c.load_leaf-left.result c.load_leaf-right.result c.requires.bits c.load_node-from.ensures.view c.load_leaf-left.ensures.view c.load_leaf-right.ensures.view five are (first_is m.parts n.parts five _ _ _ are) (second_is m.parts n.parts five _ _ _ are) 0 c.args.number may covers)
