use Rattle.std.proofs.Common.{◌∙◌, refl}
use Rattle.aug_trie.specs.inside.NamedCuts.{cut_named}
use Rattle.aug_trie.proofs.Looking.{leaf_weighs}
use Rattle.aug_trie.proofs.queries.snapshot_walk.SnapshotWalkDescend.weight.Goals as goal

pub returns : goal.returns
returns g c = let v = c.args.self.now.words.view in
    c.leaf_weight.ensures ∙ leaf_weighs g.A.Monoid.parts g.B.Monoid.parts v c.requires.reads.knows_table (cut_named v.shape v.seen c.args.self.now.snapshot) 0 c.args._place c.args.node.now c.requires.holds.node refl
