use Rattle.aug_core.specs.Faces.{face}
use Rattle.std.proofs.Common.{arith}
use Rattle.aug_words.proofs.Held.{word_of_leaf_loaded, word_of_node_loaded}
use Rattle.aug_words.proofs.loading.load_word.Goals as goal

pub returns-then-place-leaves : goal.returns-then-place-leaves
returns-then-place-leaves g c = let are = c.requires.leaves in let low = c.if-place-leaves.true in
    record { table = c.load_leaf.ensures.table; view = word_of_leaf_loaded (face g.A.Monoid.parts g.B.Monoid.parts) c.args.pass.now.view c.load_leaf.new.self.view c.args.place c.load_leaf.result (omega arith) c.load_leaf.ensures.view }

pub returns-else-place-leaves : goal.returns-else-place-leaves
returns-else-place-leaves g c = record { table = c.load_node.ensures.table; view = word_of_node_loaded (face g.A.Monoid.parts g.B.Monoid.parts) c.args.pass.now.view c.load_node.new.self.view c.args.place c.load_node.result c.load_node.ensures.view }
