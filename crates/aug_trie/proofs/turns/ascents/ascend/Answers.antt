use Rattle.std.proofs.Common.{subst, sym, ◌≡◌, ◌+◌, ℕ}
use Rattle.aug_core.specs.Faces.{face}
use Rattle.aug_core.specs.Addresses.{left_of}
use Rattle.aug_core.specs.declared.view.SeatView.{SeatView}
use Rattle.aug_trie.specs.inside.Goes.{part_steps}
use Rattle.aug_trie.specs.inside.Points.{TryAt, Advances, Falls}
use Rattle.aug_trie.specs.inside.Stages.{part_above}
use Rattle.aug_trie.specs.declared.turns.points.Advanced.{Advanced}
use Rattle.aug_trie.proofs.Ascending.{leaves_are, part_is, step_on, past_try, point_some, ascent_falls}
use Rattle.aug_trie.proofs.turns.ascents.ascend.Goals as goal

pub returns-in-To-clause-on : goal.returns-in-To-clause-on
returns-in-To-clause-on g c = λ key leaf o. let f = face g.A.Monoid.parts g.B.Monoid.parts in let a = c.args.ascent in let old : SeatView = c.args.pass.now.view in let w : SeatView = c.advance.new.pass.view in let at : a.level ≡ c.from.result = sym c.from.ensures in
    let told = λ (v : SeatView) (t : TryAt f v a.node (c.args.number + a.level) a.point old). subst (λ (z : ℕ). Advances f v a.node (c.args.number + z) c.advance.result w) (sym at) (c.advance.ensures.on v (subst (λ (z : ℕ). TryAt f v a.node (c.args.number + z) a.point old) at t)) in
    step_on f c.args.bits c.args.number key leaf a old o w c.in-To.point (subst (λ (z : Advanced). Advances f o.begun a.node (c.args.number + a.level) z w) c.in-To.is (told o.begun o.try_at))

pub returns-in-To-clause-falls : goal.returns-in-To-clause-falls
returns-in-To-clause-falls g c = let key = c.requires.on_way.0 in let leaf : SeatView = c.requires.on_way.1 in let o = c.requires.on_way.2 in let f = face g.A.Monoid.parts g.B.Monoid.parts in let a = c.args.ascent in let old : SeatView = c.args.pass.now.view in let w : SeatView = c.advance.new.pass.view in let at : a.level ≡ c.from.result = sym c.from.ensures in
    let told = λ (v : SeatView) (t : TryAt f v a.node (c.args.number + a.level) a.point old). subst (λ (z : ℕ). Advances f v a.node (c.args.number + z) c.advance.result w) (sym at) (c.advance.ensures.on v (subst (λ (z : ℕ). TryAt f v a.node (c.args.number + z) a.point old) at t)) in
    let part = part_steps old.shape (left_of old.shape a.node) in let is = part_is f c.args.bits c.args.number key leaf a old o in
    ascent_falls c.args.bits part a c.in-To.point is (subst (Falls part a.point) c.in-To.is c.advance.ensures.falls)
    (point_some f o.begun a.node (c.args.number + a.level) (part_above a.level) c.in-To.point w (subst (λ (z : Advanced). Advances f o.begun a.node (c.args.number + a.level) z w) c.in-To.is (told o.begun o.try_at)))

pub returns-in-Exchanged-clause-on : goal.returns-in-Exchanged-clause-on
returns-in-Exchanged-clause-on g c = λ key leaf o. let f = face g.A.Monoid.parts g.B.Monoid.parts in let a = c.args.ascent in let old : SeatView = c.args.pass.now.view in let w : SeatView = c.advance.new.pass.view in let at : a.level ≡ c.from.result = sym c.from.ensures in
    let told = λ (v : SeatView) (t : TryAt f v a.node (c.args.number + a.level) a.point old). subst (λ (z : ℕ). Advances f v a.node (c.args.number + z) c.advance.result w) (sym at) (c.advance.ensures.on v (subst (λ (z : ℕ). TryAt f v a.node (c.args.number + z) a.point old) at t)) in
    c.after_try.ensures.on f c.args.number key leaf w (leaves_are f c.args.bits c.args.number key leaf a old o c.args.leaves c.requires.leaves.are)
    (past_try f c.args.bits c.args.number key leaf a old o w c.in-Exchanged.done (subst (λ (z : Advanced). Advances f o.begun a.node (c.args.number + a.level) z w) c.in-Exchanged.is (told o.begun o.try_at)))
