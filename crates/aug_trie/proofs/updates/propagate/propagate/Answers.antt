use Rattle.std.proofs.Common.{ap, subst, sym, refl, ◌∙◌, ◌≡◌, ◌+◌, ◌/◌, ◌<◌, ℕ, suc, add-one, arith}
use Rattle.aug_core.specs.Faces.{face}
use Rattle.aug_core.specs.Places.{Shape}
use Rattle.aug_core.specs.inside.Shows.{above}
use Rattle.aug_core.specs.declared.view.SeatView.{SeatView}
use Rattle.aug_trie.specs.inside.Goes.{HasLeaves, HasRoom}
use Rattle.aug_trie.specs.inside.Batching.{Raises}
use Rattle.aug_trie.specs.inside.Stages.{IsCovered, HasRisen}
use Rattle.aug_trie.proofs.Ascending.{risen_none, inner_above, room_above, risen_on}
use Rattle.aug_trie.proofs.Levels.{place_is}
use Rattle.aug_trie.proofs.Raising.{raises_none, raises_on}
use Rattle.aug_trie.proofs.updates.propagate.propagate.Goals as goal

pub loop-level-init : goal.loop-level-init
loop-level-init g c = record { table = refl; node = refl; risen = risen_none (face g.A.Monoid.parts g.B.Monoid.parts) c.args.pass.view.shape.bits c.args.number c.args.leaf c.args.pass.view c.requires.rises; raises = raises_none (face g.A.Monoid.parts g.B.Monoid.parts) c.args.pass.view c.args.leaf }

pub refresh_twice-requires : goal.refresh_twice-requires
refresh_twice-requires g c = let f = face g.A.Monoid.parts g.B.Monoid.parts in let v : SeatView = c.args.pass.view in let u : SeatView = c.loop-level.pass.view in let inv = c.loop-level.invariant in let level : ℕ = c.loop-level.level in let low : level < v.shape.bits = (let test = c.loop-level-test.true in let few = c.requires.levels in omega arith) in let m = c.requires.rises in
    let is : c.args.leaves + c.loop-level.node / 2 ≡ above v.shape c.args.leaf (suc level) = place_is v.shape c.args.leaf level c.args.leaves c.loop-level.node c.requires.leaves.are inv.node in record {
      leaves = subst (λ (z : Shape). HasLeaves z c.args.leaves) (sym c.loop-level.invariant.risen.goes.shaped) c.requires.leaves;
      inner = inner_above f c.args.pass.view.shape.bits c.args.number c.args.leaf v m level u low inv.risen (c.args.leaves + c.loop-level.node / 2) is;
      knows = c.loop-level.invariant.risen.goes.knows_table;
      room = subst (λ (z : ℕ). HasRoom u (c.args.number + z) 1) (sym c.from.ensures) (room_above f c.args.pass.view.shape.bits c.args.number c.args.leaf v m level u low inv.risen);
    }

pub loop-level-preserved : goal.loop-level-preserved
loop-level-preserved g c = let f = face g.A.Monoid.parts g.B.Monoid.parts in let v : SeatView = c.args.pass.view in let u : SeatView = c.loop-level.pass.view in let inv = c.loop-level.invariant in let level : ℕ = c.loop-level.level in let low : level < v.shape.bits = (let test = c.loop-level-test.true in let few = c.requires.levels in omega arith) in let m = c.requires.rises in
    let is : c.args.leaves + c.loop-level.node / 2 ≡ above v.shape c.args.leaf (suc level) = place_is v.shape c.args.leaf level c.args.leaves c.loop-level.node c.requires.leaves.are inv.node in
    let w : SeatView = c.refresh_twice.new.pass.view in let node = c.args.leaves + c.loop-level.node / 2 in
    let covered : IsCovered f u w node (c.args.number + level) = subst (λ (z : ℕ). IsCovered f u w node (c.args.number + z)) c.from.ensures c.refresh_twice.ensures.view in record {
      table = c.refresh_twice.ensures.table ∙ inv.table;
      node = is ∙ ap (above v.shape c.args.leaf) (sym (add-one level));
      risen = risen_on f c.args.pass.view.shape.bits c.args.number c.args.leaf v m level u low inv.risen node w is covered;
      raises = raises_on f v u w c.args.leaf level node (omega arith) inv.risen.goes.shaped is covered.goes covered.covers inv.raises;
    }

pub returns-clause-risen : goal.returns-clause-risen
returns-clause-risen g c = let all : c.loop-level.level ≡ c.args.levels = omega arith in
    subst (λ (z : ℕ). HasRisen (face g.A.Monoid.parts g.B.Monoid.parts) c.args.pass.view.shape.bits c.args.number c.args.leaf c.args.pass.view z c.loop-level.pass.view) all c.loop-level.invariant.risen

pub returns-clause-raises : goal.returns-clause-raises
returns-clause-raises g c = let all : c.loop-level.level ≡ c.args.levels = omega arith in subst (λ (z : ℕ). Raises c.args.leaf c.args.pass.view z c.loop-level.pass.view) all c.loop-level.invariant.raises
