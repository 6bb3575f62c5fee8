use Rattle.std.proofs.Common.{arith, ap, refl}
use Rattle.aug_core.specs.Faces.{face}
use Rattle.aug_core.specs.Kinds.{load_leaf, load_node}
use Rattle.aug_core.specs.declared.view.SeatView.{SeatView}
use Rattle.aug_trie.proofs.Going.{goes_seeing, quiet_seeing, took_one}
use Rattle.aug_trie.proofs.Whole.{leaf_loaded, node_loaded}
use Rattle.aug_trie.proofs.updates.refreshing.look.Goals as goal

pub load_leaf-requires : goal.load_leaf-requires
load_leaf-requires g c = let are = c.requires.over.leaves.are in let low = c.if-place-leaves.true in omega arith

pub load_node-requires : goal.load_node-requires
load_node-requires g c = let are = c.requires.over.leaves.are in let past = c.if-place-leaves.false in record { past_leaves = omega arith; inside = c.requires.place }

pub returns-then-place-leaves-clause-goes : goal.returns-then-place-leaves-clause-goes
returns-then-place-leaves-clause-goes g c = let l = c.load_leaf.ensures.view in goes_seeing (face g.A.Monoid.parts g.B.Monoid.parts) c.args.pass.now.view c.load_leaf.new.self.view _ l.stepped c.requires.over.knows l.sees

pub returns-then-place-leaves-clause-took : goal.returns-then-place-leaves-clause-took
returns-then-place-leaves-clause-took g c = let l = c.load_leaf.ensures.view in took_one c.args.pass.now.view c.load_leaf.new.self.view (load_leaf c.args.place c.load_leaf.result) refl (ap (λ (z : SeatView). z.steps) l.stepped)

pub returns-then-place-leaves-clause-newest : goal.returns-then-place-leaves-clause-newest
returns-then-place-leaves-clause-newest g c = let are = c.requires.over.leaves.are in let low = c.if-place-leaves.true in
    leaf_loaded (face g.A.Monoid.parts g.B.Monoid.parts) c.args.pass.now.view c.load_leaf.new.self.view c.args.place c.load_leaf.result (omega arith) c.load_leaf.ensures.view

pub returns-else-place-leaves-clause-goes : goal.returns-else-place-leaves-clause-goes
returns-else-place-leaves-clause-goes g c = let l = c.load_node.ensures.view in goes_seeing (face g.A.Monoid.parts g.B.Monoid.parts) c.args.pass.now.view c.load_node.new.self.view _ l.stepped c.requires.over.knows l.sees

pub returns-else-place-leaves-clause-took : goal.returns-else-place-leaves-clause-took
returns-else-place-leaves-clause-took g c = let l = c.load_node.ensures.view in took_one c.args.pass.now.view c.load_node.new.self.view (load_node c.args.place c.load_node.result) refl (ap (λ (z : SeatView). z.steps) l.stepped)

pub returns-else-place-leaves-clause-newest : goal.returns-else-place-leaves-clause-newest
returns-else-place-leaves-clause-newest g c =
    node_loaded (face g.A.Monoid.parts g.B.Monoid.parts) c.args.pass.now.view c.load_node.new.self.view c.args.place c.load_node.result c.load_node.ensures.view

pub returns-then-place-leaves-clause-step : goal.returns-then-place-leaves-clause-step
returns-then-place-leaves-clause-step g c = let l = c.load_leaf.ensures.view in record { table = c.load_leaf.ensures.table; view = quiet_seeing c.args.pass.now.view c.load_leaf.new.self.view _ l.stepped l.sees.later }

pub returns-else-place-leaves-clause-step : goal.returns-else-place-leaves-clause-step
returns-else-place-leaves-clause-step g c = let l = c.load_node.ensures.view in record { table = c.load_node.ensures.table; view = quiet_seeing c.args.pass.now.view c.load_node.new.self.view _ l.stepped l.sees.later }
