use Rattle.std.proofs.Common.{ℕ, ◌+◌, ◌*◌, if◌then◌else◌, length, ap, sym, ◌∙◌, subst, arith}
use Rattle.aug_model.specs.Keys.{list_of}
use Rattle.aug_model.specs.NodeKeys.{keys_below}
use Rattle.aug_core.specs.Faces.{face}
use Rattle.aug_trie.specs.inside.NodeWords.{HoldsNodeAt}
use Rattle.aug_trie.specs.inside.Goes.{Looks}
use Rattle.aug_trie.specs.inside.NamedCuts.{cut_named}
use Rattle.aug_trie.specs.inside.SnapshotWalk.{set_seen, IsNamed, Walking}
use Rattle.aug_trie.proofs.Looked.{looks_on}
use Rattle.aug_trie.proofs.SnapshotWalks.{reads_on, walk_on, named_then, node_on, node_back, descends_past, counted_before}
use Rattle.aug_trie.proofs.queries.snapshot_walk.SnapshotWalkDescend.child_past.Goals as goal
use Rattle.aug_trie.proofs.queries.snapshot_walk.SnapshotWalkDescend.child_past.Goals.{Joined-right, then-right, else-right}

-- what the three loads leave
three : (g : _) (c : Joined-right g) → Looks 3 (g.W.RecordWords.known c.self.inside.words).view (g.W.RecordWords.known c.right_word-high.new.words).view
three g c = looks_on 2 1 3 _ _ _ (omega arith) (looks_on 1 1 2 _ _ _ (omega arith) c.left_word-low.ensures.looks c.count_at-passed.ensures.looks) c.right_word-high.ensures.looks

pub count_at-passed-requires-clause-knows : goal.count_at-passed-requires-clause-knows
count_at-passed-requires-clause-knows g c = reads_on (face g.A.Monoid.parts g.B.Monoid.parts) 1 _ _ c.left_word-low.ensures.looks c.self.invariant.top.reads

pub count_at-passed-requires-clause-node : goal.count_at-passed-requires-clause-node
count_at-passed-requires-clause-node g c = node_on (face g.A.Monoid.parts g.B.Monoid.parts) 1 c.args.level (2 * c.args.place) c.left_word-low.result _ _ c.self.inside.snapshot c.left_word-low.ensures.looks c.left_word-low.ensures.node

pub right_word-high-requires-clause-knows : goal.right_word-high-requires-clause-knows
right_word-high-requires-clause-knows g c = reads_on (face g.A.Monoid.parts g.B.Monoid.parts) 2 _ _ (looks_on 1 1 2 _ _ _ (omega arith) c.left_word-low.ensures.looks c.count_at-passed.ensures.looks) c.self.invariant.top.reads

pub right_word-high-requires-clause-node : goal.right_word-high-requires-clause-node
right_word-high-requires-clause-node g c = node_on (face g.A.Monoid.parts g.B.Monoid.parts) 2 (c.args.level + 1) c.args.place c.args.node.now _ _ c.self.inside.snapshot (looks_on 1 1 2 _ _ _ (omega arith) c.left_word-low.ensures.looks c.count_at-passed.ensures.looks)
    (subst (λ (z : Walking). HoldsNodeAt z.words.view (cut_named z.words.view.shape z.words.view.seen z.snapshot) (c.args.level + 1) c.args.place c.args.node.now) (sym c.self.view_is) c.requires.holds)

pub invariant_of-self : goal.invariant_of-self
invariant_of-self g c = walk_on (face g.A.Monoid.parts g.B.Monoid.parts) 3 _ _ c.self.inside.snapshot c.self.inside.bits (three g c) c.self.invariant

pub returns-clause-descends : goal.returns-clause-descends
returns-clause-descends g c = let f = face g.A.Monoid.parts g.B.Monoid.parts in let i = c.self.inside in
    let first : Walking = record { words = g.W.RecordWords.known i.words; snapshot = i.snapshot; bits = i.bits; loaded = i.loaded } in
    descends_past f first c.args.self.now (g.W.RecordWords.known c.right_word-high.new.words) c.one_past.new.self c.self.view_is (c.right_word-high.ensures.table ∙ c.count_at-passed.ensures.table ∙ c.left_word-low.ensures.table) (three g c) c.one_past.ensures

-- both children are named
low : (g : _) (c : Joined-right g) → IsNamed (face g.A.Monoid.parts g.B.Monoid.parts) g.W.RecordWords.number (g.W.RecordWords.known c.right_word-high.new.words).view c.self.inside.snapshot c.args.level (2 * c.args.place) c.left_word-low.result
low g c = let f = face g.A.Monoid.parts g.B.Monoid.parts in named_then f 3 c.args.level (2 * c.args.place) c.left_word-low.result _ _ c.self.inside.snapshot c.self.inside.bits (three g c) c.self.invariant c.left_word-low.ensures.node

high : (g : _) (c : Joined-right g) → IsNamed (face g.A.Monoid.parts g.B.Monoid.parts) g.W.RecordWords.number (g.W.RecordWords.known c.right_word-high.new.words).view c.self.inside.snapshot c.args.level (2 * c.args.place + 1) c.right_word-high.result
high g c = let f = face g.A.Monoid.parts g.B.Monoid.parts in let s = c.self.inside.snapshot in
    named_then f 3 c.args.level (2 * c.args.place + 1) c.right_word-high.result _ _ s c.self.inside.bits (three g c) c.self.invariant (node_back f 2 c.args.level (2 * c.args.place + 1) c.right_word-high.result _ _ s (looks_on 1 1 2 _ _ _ (omega arith) c.left_word-low.ensures.looks c.count_at-passed.ensures.looks) c.right_word-high.ensures.node)

pub returns-clause-name : goal.returns-clause-name
returns-clause-name g c =
    let f = face g.A.Monoid.parts g.B.Monoid.parts in let v = (g.W.RecordWords.known c.right_word-high.new.words).view in let s = c.self.inside.snapshot in let p = c.args.place in
    elim c.if-right.branch [
      | then-right w ↦ subst (λ (r : ℕ × ℕ). IsNamed f g.W.RecordWords.number v s c.args.level (if c.args.right then 2 * p + 1 else 2 * p) r.0) (sym w.result-is) (subst (λ b. IsNamed f g.W.RecordWords.number v s c.args.level (if b then 2 * p + 1 else 2 * p) c.right_word-high.result) (sym w.if-right.true) (high g c))
      | else-right w ↦ subst (λ (r : ℕ × ℕ). IsNamed f g.W.RecordWords.number v s c.args.level (if c.args.right then 2 * p + 1 else 2 * p) r.0) (sym w.result-is) (subst (λ b. IsNamed f g.W.RecordWords.number v s c.args.level (if b then 2 * p + 1 else 2 * p) c.left_word-low.result) (sym w.if-right.false) (low g c))
    ]

pub returns-clause-count : goal.returns-clause-count
returns-clause-count g c =
    let f = face g.A.Monoid.parts g.B.Monoid.parts in let i = c.self.inside in let first : Walking = record { words = g.W.RecordWords.known i.words; snapshot = i.snapshot; bits = i.bits; loaded = i.loaded } in
    let all = length (keys_below (list_of (set_seen c.args.self.now.words.view c.args.self.now.snapshot)) c.args.level (2 * c.args.place)) in
    elim c.if-right.branch [
      | then-right w ↦ ap (λ (r : ℕ × ℕ). r.1) w.result-is ∙ counted_before f 1 first c.args.self.now (g.W.RecordWords.known c.left_word-low.new.words).view c.args.level (2 * c.args.place) c.count_at-passed.result c.self.view_is c.left_word-low.ensures.looks c.count_at-passed.ensures.value ∙ sym (ap (λ b. if b then all else 0) w.if-right.true)
      | else-right w ↦ ap (λ (r : ℕ × ℕ). r.1) w.result-is ∙ sym (ap (λ b. if b then all else 0) w.if-right.false)
    ]
