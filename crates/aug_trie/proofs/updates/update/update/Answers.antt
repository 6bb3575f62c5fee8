use Rattle.std.proofs.Common.{arith, ap, subst, sym, ◌+◌, ◌∙◌, []}
use Rattle.aug_core.specs.Faces.{face}
use Rattle.aug_core.specs.Places.{Shape}
use Rattle.aug_core.specs.declared.view.SeatView.{SeatView}
use Rattle.aug_words.specs.Seats.{MayAdvance}
use Rattle.aug_trie.specs.inside.Climbing.{UpdatedFrom}
use Rattle.aug_trie.specs.inside.Goes.{HasLeaves}
use Rattle.aug_trie.specs.inside.Stages.{MayRise, HasRisen}
use Rattle.aug_trie.proofs.Updating.{bits_in, bits_out, goes_begun, advances, may_rise, refused_at_once, leaf_tried}
use Rattle.aug_trie.proofs.updates.update.update.Goals as goal

pub propagate-requires-clause-rises : goal.propagate-requires-clause-rises
propagate-requires-clause-rises g c = let f = face g.A.Monoid.parts g.B.Monoid.parts in let v : SeatView = c.args.pass.view in let w0 : SeatView = c.begin_at_leaf-word.new.self.view in
    let goes = goes_begun f v w0 c.args.key c.begin_at_leaf-word.result c.requires.knows c.begin_at_leaf-word.ensures.view in
    bits_in (λ z. MayRise f z c.args.number c.args.key w0) c.requires.bits goes.shaped (may_rise f c.args.bits c.args.number c.args.key [] v w0 c.requires.key c.requires.bits c.requires.room goes)

pub returns-then-not-goes_on-clause-updated : goal.returns-then-not-goes_on-clause-updated
returns-then-not-goes_on-clause-updated g c = let f = face g.A.Monoid.parts g.B.Monoid.parts in let is = c.requires.bits in let some = c.requires.knows.laid_out.bits.0 in let w0 : SeatView = c.begin_at_leaf-word.new.self.view in
    subst (UpdatedFrom f (c.args.number + c.args.bits) c.args.pass.view c.args.key c.args.request c.propagate.result.view c.begin_at_leaf-word.result) (sym c.at_once-outcome.ensures) (refused_at_once f c.args.pass.view w0 c.args.key c.begin_at_leaf-word.result c.args.request c.requires.key c.requires.knows c.begin_at_leaf-word.ensures.view c.args.bits c.args.number is (omega arith) c.propagate.result.view
    (sym c.goes_on.ensures ∙ c.if-not-goes_on.true) (bits_out (λ z. HasRisen f z c.args.number c.args.key w0 c.args.bits c.propagate.result.view) is (goes_begun f c.args.pass.view w0 c.args.key c.begin_at_leaf-word.result c.requires.knows c.begin_at_leaf-word.ensures.view).shaped c.propagate.ensures.risen))

pub try_leaf-done-requires-clause-advance : goal.try_leaf-done-requires-clause-advance
try_leaf-done-requires-clause-advance g c = let w0 : SeatView = c.begin_at_leaf-word.new.self.view in let word = c.begin_at_leaf-word.result in subst (MayAdvance w0 c.args.key word) (sym c.word_after-next.ensures)
    (advances (face g.A.Monoid.parts g.B.Monoid.parts) c.args.pass.view w0 c.args.key word c.args.request c.requires.key c.requires.knows c.begin_at_leaf-word.ensures.view c.requires.fits (sym c.goes_on.ensures ∙ c.if-not-goes_on.false))

pub propagate-requires-2-clause-rises : goal.propagate-requires-2-clause-rises
propagate-requires-2-clause-rises g c = let f = face g.A.Monoid.parts g.B.Monoid.parts in let w1 : SeatView = c.try_leaf-done.new.self.view in let t = leaf_tried (face g.A.Monoid.parts g.B.Monoid.parts) c.args.request c.requires.key c.requires.bits c.requires.knows c.requires.room c.begin_at_leaf-word.ensures.view
    c.requires.fits (sym c.goes_on.ensures ∙ c.if-not-goes_on.false) c.word_after-next.ensures c.try_leaf-done.ensures.view in
    bits_in (λ z. MayRise f z c.args.number c.args.key w1) c.requires.bits t.same_shape t.rises

pub returns-clause-updated : goal.returns-clause-updated
returns-clause-updated g c = let f = face g.A.Monoid.parts g.B.Monoid.parts in let w1 : SeatView = c.try_leaf-done.new.self.view in let t = leaf_tried (face g.A.Monoid.parts g.B.Monoid.parts) c.args.request c.requires.key c.requires.bits c.requires.knows c.requires.room c.begin_at_leaf-word.ensures.view
    c.requires.fits (sym c.goes_on.ensures ∙ c.if-not-goes_on.false) c.word_after-next.ensures c.try_leaf-done.ensures.view in
    t.updated c.propagate-2.result.view c.outcome_of-outcome.result (bits_out (λ z. HasRisen f z c.args.number c.args.key w1 c.args.bits c.propagate-2.result.view) c.requires.bits t.same_shape c.propagate-2.ensures.risen) c.outcome_of-outcome.ensures

pub propagate-requires-2-clause-leaves : goal.propagate-requires-2-clause-leaves
propagate-requires-2-clause-leaves g c = subst (λ (z : Shape). HasLeaves z c.args.leaves) (sym (leaf_tried (face g.A.Monoid.parts g.B.Monoid.parts) c.args.request c.requires.key c.requires.bits c.requires.knows c.requires.room c.begin_at_leaf-word.ensures.view
    c.requires.fits (sym c.goes_on.ensures ∙ c.if-not-goes_on.false) c.word_after-next.ensures c.try_leaf-done.ensures.view).same_shape) c.requires.leaves

pub word_after-next-requires : goal.word_after-next-requires
word_after-next-requires g c = sym c.goes_on.ensures ∙ c.if-not-goes_on.false

pub propagate-requires-clause-levels : goal.propagate-requires-clause-levels
propagate-requires-clause-levels g c = let is = c.requires.bits in let same = ap (λ (z : Shape). z.bits) (goes_begun (face g.A.Monoid.parts g.B.Monoid.parts) c.args.pass.view c.begin_at_leaf-word.new.self.view c.args.key c.begin_at_leaf-word.result c.requires.knows c.begin_at_leaf-word.ensures.view).shaped in omega (arith, is, same)

pub propagate-requires-2-clause-levels : goal.propagate-requires-2-clause-levels
propagate-requires-2-clause-levels g c = let is = c.requires.bits in let same = ap (λ (z : Shape). z.bits) (leaf_tried (face g.A.Monoid.parts g.B.Monoid.parts) c.args.request c.requires.key c.requires.bits c.requires.knows c.requires.room c.begin_at_leaf-word.ensures.view
    c.requires.fits (sym c.goes_on.ensures ∙ c.if-not-goes_on.false) c.word_after-next.ensures c.try_leaf-done.ensures.view).same_shape in omega (arith, is, same)
