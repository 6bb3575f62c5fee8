use Rattle.aug_core.specs.Faces.{face}
use Rattle.aug_trie.proofs.Comparing.{sees_same}
use Rattle.aug_trie.proofs.queries.both_walk.BothWalkDescendBoth.same.Goals as goal

pub returns : goal.returns
returns g c = let w = c.args.self.now in sees_same (face g.A.Monoid.parts g.B.Monoid.parts) w.words.view w.earlier w.later c.args._level c.args._place c.args.nodes.now c.requires
