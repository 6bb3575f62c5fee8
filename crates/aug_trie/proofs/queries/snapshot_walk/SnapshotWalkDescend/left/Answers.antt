use Rattle.std.proofs.Common.{◌*◌}
use Rattle.aug_core.specs.Faces.{face}
use Rattle.aug_trie.specs.inside.SnapshotWalk.{Walking}
use Rattle.aug_trie.proofs.SnapshotWalks.{walk_on, named_then, descends_node}
use Rattle.aug_trie.proofs.queries.snapshot_walk.SnapshotWalkDescend.left.Goals as goal

pub invariant_of-self : goal.invariant_of-self
invariant_of-self g c = let f = face g.A.Monoid.parts g.B.Monoid.parts in let i = c.self.inside in
    walk_on f 1 (g.W.RecordWords.known i.words).view (g.W.RecordWords.known c.left_word.new.words).view i.snapshot i.bits c.left_word.ensures.looks c.self.invariant

pub returns-clause-descends : goal.returns-clause-descends
returns-clause-descends g c = let f = face g.A.Monoid.parts g.B.Monoid.parts in let i = c.self.inside in
    let first : Walking = record { words = g.W.RecordWords.known i.words; snapshot = i.snapshot; bits = i.bits; loaded = i.loaded } in
    descends_node f first c.args.self.now (g.W.RecordWords.known c.left_word.new.words) c.one_node.new.self c.self.view_is c.left_word.ensures.table c.left_word.ensures.looks c.one_node.ensures

pub returns-clause-name : goal.returns-clause-name
returns-clause-name g c = let f = face g.A.Monoid.parts g.B.Monoid.parts in let i = c.self.inside in
    named_then f 1 c.args.level (2 * c.args.place) c.left_word.result (g.W.RecordWords.known i.words).view (g.W.RecordWords.known c.left_word.new.words).view i.snapshot i.bits c.left_word.ensures.looks c.self.invariant c.left_word.ensures.node
