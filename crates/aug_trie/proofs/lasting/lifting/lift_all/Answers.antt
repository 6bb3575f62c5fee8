use Rattle.std.proofs.Common.{◌≡◌, ◌∙◌, ◌+◌, ◌/◌, ℕ, suc, add-one, refl, sym, ap, subst, arith}
use Rattle.aug_core.specs.Faces.{face}
use Rattle.aug_core.specs.inside.Shows.{above}
use Rattle.aug_core.specs.declared.view.SeatView.{SeatView}
use Rattle.aug_trie.specs.inside.Lasting.{LiftedTo}
use Rattle.aug_trie.proofs.Levels.{place_is}
use Rattle.aug_trie.proofs.Lifting.{lifted_none, lifted_on, inner_lifted}
use Rattle.aug_trie.proofs.lasting.lifting.lift_all.Goals as goal

pub loop-level-init : goal.loop-level-init
loop-level-init g c = record { keeps = c.requires.keeps; reserved = c.requires.reserved; node = refl; lifted = lifted_none (face g.A.Monoid.parts g.B.Monoid.parts) c.requires.leaf c.requires.keeps.knows_table c.requires.below; records = omega arith }

pub lift-requires-clause-inner : goal.lift-requires-clause-inner
lift-requires-clause-inner g c = let v : SeatView = c.args.pass.now.view in let inv = c.loop-level.invariant in let level : ℕ = c.loop-level.level in let test = c.loop-level-test.true in let few = c.requires.levels in
    inner_lifted (face g.A.Monoid.parts g.B.Monoid.parts) c.requires.leaf (omega arith) inv.lifted (place_is v.shape c.args.leaf level c.args.leaves c.loop-level.node c.requires.leaves.are inv.node)

pub lift-requires-clause-some : goal.lift-requires-clause-some
lift-requires-clause-some g c = let test = c.loop-level-test.true in let left = c.loop-level.invariant.records in let room = c.requires.records in omega arith

pub loop-level-preserved : goal.loop-level-preserved
loop-level-preserved g c = let f = face g.A.Monoid.parts g.B.Monoid.parts in let v : SeatView = c.args.pass.now.view in let inv = c.loop-level.invariant in let level : ℕ = c.loop-level.level in let test = c.loop-level-test.true in let few = c.requires.levels in
    let is : c.args.leaves + c.loop-level.node / 2 ≡ above v.shape c.args.leaf (suc level) = place_is v.shape c.args.leaf level c.args.leaves c.loop-level.node c.requires.leaves.are inv.node in record {
      keeps = c.lift.ensures.keeps;
      reserved = c.lift.ensures.reserved;
      node = is ∙ ap (above v.shape c.args.leaf) (sym (add-one level));
      lifted = lifted_on f c.requires.leaf (omega arith) inv.lifted is c.lift.ensures.covered;
      records = let left = inv.records in let used = c.lift.ensures.free in omega arith;
    }

pub returns-clause-lifted : goal.returns-clause-lifted
returns-clause-lifted g c = let all : c.loop-level.level ≡ c.args.levels = omega arith in
    subst (λ (z : ℕ). LiftedTo (face g.A.Monoid.parts g.B.Monoid.parts) c.args.leaf c.args.pass.now.view z c.loop-level.pass.view) all c.loop-level.invariant.lifted
