use Rattle.std.proofs.Common.{◌+◌, ◌*◌, ◌∙◌, sym, subst, arith}
use Rattle.aug_core.specs.Faces.{face}
use Rattle.aug_trie.specs.inside.BothWalk.{top_of, WalkingBoth}
use Rattle.aug_trie.specs.inside.NodesUnder.{IsNodeUnder}
use Rattle.aug_trie.proofs.Looked.{looks_on}
use Rattle.aug_trie.proofs.SnapshotWalks.{knows_on}
use Rattle.aug_trie.proofs.Comparing.{both_walk_on, both_named_then, node_under_on, node_under_back, descends_children}
use Rattle.aug_trie.proofs.queries.both_walk.BothWalkDescendBoth.rights.Goals as goal

pub right_under-later-requires-clause-knows : goal.right_under-later-requires-clause-knows
right_under-later-requires-clause-knows g c = knows_on (face g.A.Monoid.parts g.B.Monoid.parts) 1 _ _ c.right_under-earlier.ensures.looks c.self.invariant.tops.in_earlier.knows_records

pub right_under-later-requires-clause-node : goal.right_under-later-requires-clause-node
right_under-later-requires-clause-node g c = node_under_on (face g.A.Monoid.parts g.B.Monoid.parts) 1 _ _ c.self.inside.later (c.args.level + 1) c.args.place c.args.nodes.now.1 c.right_under-earlier.ensures.looks
    (subst (λ (z : WalkingBoth). IsNodeUnder z.words.view.shape z.words.view.seen (top_of z.words.view z.later) (c.args.level + 1) c.args.place c.args.nodes.now.1) (sym c.self.view_is) c.requires.in_later.node)

pub invariant_of-self : goal.invariant_of-self
invariant_of-self g c = let i = c.self.inside in
    both_walk_on (face g.A.Monoid.parts g.B.Monoid.parts) 2 _ _ i.earlier i.later i.bits (looks_on 1 1 2 _ _ _ (omega arith) c.right_under-earlier.ensures.looks c.right_under-later.ensures.looks) c.self.invariant

pub returns-clause-descends : goal.returns-clause-descends
returns-clause-descends g c = let f = face g.A.Monoid.parts g.B.Monoid.parts in let i = c.self.inside in
    let first : WalkingBoth = record { words = g.W.RecordWords.known i.words; earlier = i.earlier; later = i.later; bits = i.bits; loaded = i.loaded } in
    descends_children f first c.args.self.now (g.W.RecordWords.known c.right_under-later.new.words) c.one_more-self-inside.result c.self.view_is (c.right_under-later.ensures.table ∙ c.right_under-earlier.ensures.table) (looks_on 1 1 2 _ _ _ (omega arith) c.right_under-earlier.ensures.looks c.right_under-later.ensures.looks) c.one_more-self-inside.ensures

pub returns-clause-name : goal.returns-clause-name
returns-clause-name g c = let f = face g.A.Monoid.parts g.B.Monoid.parts in let i = c.self.inside in
    both_named_then f 2 _ _ i.earlier i.later i.bits c.args.level (2 * c.args.place + 1) (c.right_under-earlier.result, c.right_under-later.result) (looks_on 1 1 2 _ _ _ (omega arith) c.right_under-earlier.ensures.looks c.right_under-later.ensures.looks) c.self.invariant
    c.right_under-earlier.ensures.node (node_under_back f 1 _ _ i.later c.args.level (2 * c.args.place + 1) c.right_under-later.result c.right_under-earlier.ensures.looks c.right_under-later.ensures.node)
