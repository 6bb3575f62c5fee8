use Rattle.std.proofs.Common.{◌+◌, ◌*◌, ◌∙◌, sym, subst, arith}
use Rattle.aug_core.specs.Faces.{face}
use Rattle.aug_trie.specs.inside.NodeWords.{HoldsNodeAt}
use Rattle.aug_trie.specs.inside.Goes.{Looks}
use Rattle.aug_trie.specs.inside.NamedCuts.{cut_named}
use Rattle.aug_trie.specs.inside.SnapshotWalk.{Walking}
use Rattle.aug_trie.proofs.Looked.{looks_on}
use Rattle.aug_trie.proofs.SnapshotWalks.{reads_on, walk_on, named_then, node_on, node_back, descends_past, counted_before}
use Rattle.aug_trie.proofs.queries.snapshot_walk.SnapshotWalkDescend.past_right.Goals as goal

-- what the three loads leave
three : (g : _) (c : goal.After-left_word-left g) → Looks 3 (g.W.RecordWords.known c.self.inside.words).view (g.W.RecordWords.known c.left_word-left.new.words).view
three g c = looks_on 2 1 3 _ _ _ (omega arith) (looks_on 1 1 2 _ _ _ (omega arith) c.right_word-right.ensures.looks c.count_at-passed.ensures.looks) c.left_word-left.ensures.looks

pub count_at-passed-requires-clause-knows : goal.count_at-passed-requires-clause-knows
count_at-passed-requires-clause-knows g c = reads_on (face g.A.Monoid.parts g.B.Monoid.parts) 1 _ _ c.right_word-right.ensures.looks c.self.invariant.top.reads

pub count_at-passed-requires-clause-node : goal.count_at-passed-requires-clause-node
count_at-passed-requires-clause-node g c = node_on (face g.A.Monoid.parts g.B.Monoid.parts) 1 c.args.level (2 * c.args.place + 1) c.right_word-right.result _ _ c.self.inside.snapshot c.right_word-right.ensures.looks c.right_word-right.ensures.node

pub left_word-left-requires-clause-knows : goal.left_word-left-requires-clause-knows
left_word-left-requires-clause-knows g c = reads_on (face g.A.Monoid.parts g.B.Monoid.parts) 2 _ _ (looks_on 1 1 2 _ _ _ (omega arith) c.right_word-right.ensures.looks c.count_at-passed.ensures.looks) c.self.invariant.top.reads

pub left_word-left-requires-clause-node : goal.left_word-left-requires-clause-node
left_word-left-requires-clause-node g c = node_on (face g.A.Monoid.parts g.B.Monoid.parts) 2 (c.args.level + 1) c.args.place c.args.node.now _ _ c.self.inside.snapshot (looks_on 1 1 2 _ _ _ (omega arith) c.right_word-right.ensures.looks c.count_at-passed.ensures.looks)
    (subst (λ (z : Walking). HoldsNodeAt z.words.view (cut_named z.words.view.shape z.words.view.seen z.snapshot) (c.args.level + 1) c.args.place c.args.node.now) (sym c.self.view_is) c.requires.holds)

pub invariant_of-self : goal.invariant_of-self
invariant_of-self g c = walk_on (face g.A.Monoid.parts g.B.Monoid.parts) 3 _ _ c.self.inside.snapshot c.self.inside.bits (three g c) c.self.invariant

pub returns-clause-descends : goal.returns-clause-descends
returns-clause-descends g c = let f = face g.A.Monoid.parts g.B.Monoid.parts in let i = c.self.inside in
    let first : Walking = record { words = g.W.RecordWords.known i.words; snapshot = i.snapshot; bits = i.bits; loaded = i.loaded } in
    descends_past f first c.args.self.now (g.W.RecordWords.known c.left_word-left.new.words) c.one_past.new.self c.self.view_is (c.left_word-left.ensures.table ∙ c.count_at-passed.ensures.table ∙ c.right_word-right.ensures.table) (three g c) c.one_past.ensures

pub returns-clause-name : goal.returns-clause-name
returns-clause-name g c = let f = face g.A.Monoid.parts g.B.Monoid.parts in let s = c.self.inside.snapshot in
    named_then f 3 c.args.level (2 * c.args.place) c.left_word-left.result _ _ s c.self.inside.bits (three g c) c.self.invariant (node_back f 2 c.args.level (2 * c.args.place) c.left_word-left.result _ _ s (looks_on 1 1 2 _ _ _ (omega arith) c.right_word-right.ensures.looks c.count_at-passed.ensures.looks) c.left_word-left.ensures.node)

pub returns-clause-count : goal.returns-clause-count
returns-clause-count g c = let f = face g.A.Monoid.parts g.B.Monoid.parts in let i = c.self.inside in let first : Walking = record { words = g.W.RecordWords.known i.words; snapshot = i.snapshot; bits = i.bits; loaded = i.loaded } in
    counted_before f 1 first c.args.self.now (g.W.RecordWords.known c.right_word-right.new.words).view c.args.level (2 * c.args.place + 1) c.count_at-passed.result c.self.view_is c.right_word-right.ensures.looks c.count_at-passed.ensures.value
