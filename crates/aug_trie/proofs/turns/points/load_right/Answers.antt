use Rattle.std.proofs.Common.{arith, ap, refl, subst, sym, ◌∙◌, ◌≡◌, ◌+◌, ◌-◌, ◌*◌, ◌^◌, ℕ}
use Rattle.aug_monoid.proofs.BoundLaws.{laws_of}
use Rattle.aug_core.specs.Faces.{face}
use Rattle.aug_core.specs.Places.{Shape}
use Rattle.aug_core.specs.Addresses.{left_of, right_of}
use Rattle.aug_core.specs.inside.Refreshes.{HasNewest}
use Rattle.aug_core.specs.declared.view.SeatView.{SeatView}
use Rattle.aug_trie.specs.inside.Points.{IsOverLeaves}
use Rattle.aug_trie.specs.declared.turns.points.Point.TheVariants.{Right}
use Rattle.aug_trie.proofs.Levels.{child_places}
use Rattle.aug_trie.proofs.Advancing.{goes_at, right_on, to_words, leaves_told}
use Rattle.aug_trie.proofs.turns.points.load_right.Goals as goal

pub returns-then-child-leaves-clause-on : goal.returns-then-child-leaves-clause-on
returns-then-child-leaves-clause-on g c = λ v number t. let m = g.A.Monoid in let n = g.B.Monoid in let f = face m.parts n.parts in let old : SeatView = c.args.pass.now.view in let w : SeatView = c.look-right.new.pass.view in let x = c.look-right.result in
    let are = c.requires.leaves.are in let fewer = c.requires.leaves.few in let inner = t.inner in let past = inner.past_leaves in let shaped = (goes_at f v c.args.node number (Right c.args.from c.args.left) old t).shaped in
    let same : v.shape.bits ≡ old.shape.bits = ap (λ (z : Shape). z.bits) (sym shaped) in let bits : 2 ^ v.shape.bits ≡ c.args.leaves = ap (λ (z : ℕ). 2 ^ z) same ∙ sym are in
    let er : 2 * (c.args.node - c.args.leaves) + 1 ≡ right_of v.shape c.args.node = omega arith in let el : 2 * (c.args.node - c.args.leaves) ≡ left_of v.shape c.args.node = omega arith in
    let a = right_on f v c.args.node number old w x c.look-right.ensures.goes c.look-right.ensures.took c.args.from c.args.left t (subst (λ (z : ℕ). HasNewest w.seen z x) er c.look-right.ensures.newest) in
    let low = c.if-child-leaves.true in
    leaves_told m.parts n.parts (laws_of g.met.A.Monoid) (laws_of g.met.B.Monoid) v c.args.node number c.args.from c.args.left x old w c.over_leaves.result c.over_leaves.ensures.from c.over_leaves.ensures.count (omega arith) (omega arith)
    (subst (λ (z : ℕ). IsOverLeaves m.parts n.parts z c.args.left x c.over_leaves.result.five) el c.over_leaves.ensures.five) t a

pub returns-clause-on : goal.returns-clause-on
returns-clause-on g c = λ v number t. let m = g.A.Monoid in let n = g.B.Monoid in let f = face m.parts n.parts in let old : SeatView = c.args.pass.now.view in let w : SeatView = c.look-right.new.pass.view in let x = c.look-right.result in
    let are = c.requires.leaves.are in let fewer = c.requires.leaves.few in let inner = t.inner in let past = inner.past_leaves in let shaped = (goes_at f v c.args.node number (Right c.args.from c.args.left) old t).shaped in
    let same : v.shape.bits ≡ old.shape.bits = ap (λ (z : Shape). z.bits) (sym shaped) in let bits : 2 ^ v.shape.bits ≡ c.args.leaves = ap (λ (z : ℕ). 2 ^ z) same ∙ sym are in
    let er : 2 * (c.args.node - c.args.leaves) + 1 ≡ right_of v.shape c.args.node = omega arith in let el : 2 * (c.args.node - c.args.leaves) ≡ left_of v.shape c.args.node = omega arith in
    let a = right_on f v c.args.node number old w x c.look-right.ensures.goes c.look-right.ensures.took c.args.from c.args.left t (subst (λ (z : ℕ). HasNewest w.seen z x) er c.look-right.ensures.newest) in
    let high = c.if-child-leaves.false in
    to_words f v c.args.node number c.args.from c.args.left x old w _ refl (omega arith) t a

pub look-right-requires-clause-place : goal.look-right-requires-clause-place
look-right-requires-clause-place g c = let f = face g.A.Monoid.parts g.B.Monoid.parts in let b = c.requires.begun in let v : SeatView = b.0 in let t = b.2 in
    (child_places c.requires.leaves t.inner (sym (goes_at f v c.args.node b.1 (Right c.args.from c.args.left) c.args.pass.now.view t).shaped) refl).1
