use Rattle.std.proofs.Common.{arith, ap, refl, subst, sym, ◌∙◌, ◌≡◌, ◌-◌, ◌*◌, ◌^◌, ℕ}
use Rattle.aug_core.specs.Faces.{face}
use Rattle.aug_core.specs.Places.{Shape}
use Rattle.aug_core.specs.Addresses.{left_of}
use Rattle.aug_core.specs.inside.Refreshes.{HasNewest}
use Rattle.aug_core.specs.declared.view.SeatView.{SeatView}
use Rattle.aug_trie.specs.inside.Points.{TryAt}
use Rattle.aug_trie.specs.declared.turns.points.Point.{Point}
use Rattle.aug_trie.specs.declared.turns.points.Point.TheVariants.{Left}
use Rattle.aug_trie.proofs.Levels.{child_places}
use Rattle.aug_trie.proofs.Advancing.{goes_at, node_on, left_on}
use Rattle.aug_trie.proofs.turns.points.advance.Goals as goal

pub returns-in-Node-clause-on : goal.returns-in-Node-clause-on
returns-in-Node-clause-on g c = λ v t. let f = face g.A.Monoid.parts g.B.Monoid.parts in let old : SeatView = c.args.pass.now.view in
    node_on f v c.args.node c.args.number old c.look.new.pass.view c.look.result c.look.ensures.goes c.look.ensures.took (subst (λ (z : Point). TryAt f v c.args.node c.args.number z old) c.in-Node.is t) c.look.ensures.newest

pub returns-in-Left-clause-on : goal.returns-in-Left-clause-on
returns-in-Left-clause-on g c = λ v t. let f = face g.A.Monoid.parts g.B.Monoid.parts in let old : SeatView = c.args.pass.now.view in let w : SeatView = c.look-left.new.pass.view in let x = c.look-left.result in
    let u : TryAt f v c.args.node c.args.number (Left c.in-Left.from) old = subst (λ (z : Point). TryAt f v c.args.node c.args.number z old) c.in-Left.is t in
    let are = c.requires.leaves.are in let past = u.inner.past_leaves in let shaped = (goes_at f v c.args.node c.args.number (Left c.in-Left.from) old u).shaped in
    let same : v.shape.bits ≡ old.shape.bits = ap (λ (z : Shape). z.bits) (sym shaped) in let bits : 2 ^ v.shape.bits ≡ c.args.leaves = ap (λ (z : ℕ). 2 ^ z) same ∙ sym are in
    let el : 2 * (c.args.node - c.args.leaves) ≡ left_of v.shape c.args.node = omega arith in
    left_on f v c.args.node c.args.number old w x c.look-left.ensures.goes c.look-left.ensures.took c.in-Left.from u (subst (λ (z : ℕ). HasNewest w.seen z x) el c.look-left.ensures.newest)

pub returns-in-Right-clause-on : goal.returns-in-Right-clause-on
returns-in-Right-clause-on g c = λ v t. let f = face g.A.Monoid.parts g.B.Monoid.parts in let old : SeatView = c.args.pass.now.view in
    c.load_right.ensures.on v c.args.number (subst (λ (z : Point). TryAt f v c.args.node c.args.number z old) c.in-Right.is t)

pub returns-in-Part-clause-on : goal.returns-in-Part-clause-on
returns-in-Part-clause-on g c = λ v t. let f = face g.A.Monoid.parts g.B.Monoid.parts in let old : SeatView = c.args.pass.now.view in
    c.load_part.ensures.on v c.args.node c.args.number (subst (λ (z : Point). TryAt f v c.args.node c.args.number z old) c.in-Part.is t)

pub returns-in-Record-clause-on : goal.returns-in-Record-clause-on
returns-in-Record-clause-on g c = λ v t. let f = face g.A.Monoid.parts g.B.Monoid.parts in let old : SeatView = c.args.pass.now.view in
    c.store_or_try.ensures.on v (subst (λ (z : Point). TryAt f v c.args.node c.args.number z old) c.in-Record.is t)

pub look-left-requires-clause-place : goal.look-left-requires-clause-place
look-left-requires-clause-place g c = let f = face g.A.Monoid.parts g.B.Monoid.parts in let v : SeatView = c.requires.begun.0 in let t = c.requires.begun.1 in
    (child_places c.requires.leaves t.inner (sym (goes_at f v c.args.node c.args.number c.args.point c.args.pass.now.view t).shaped) refl).0
