use Rattle.std.proofs.Common.{ℕ, ◌-◌, ◌*◌, ◌+◌, inl, sym, subst, arith}
use Rattle.aug_core.specs.Faces.{face}
use Rattle.aug_core.specs.declared.view.SeatView.{SeatView}
use Rattle.aug_trie.specs.inside.NodeWords.{IsNodeAt}
use Rattle.aug_trie.specs.inside.NamedCuts.{cut_named}
use Rattle.aug_trie.proofs.Looking.{holds_plainly, reads_plainly, record_guarded, right_is}
use Rattle.aug_trie.proofs.Looked.{looks_one, looks_on}
use Rattle.aug_trie.proofs.queries.nodes.right_of.Goals as goal

pub load_record_word-word-requires : goal.load_record_word-word-requires
load_record_word-word-requires g c = let v : SeatView = c.args.pass.now.view in
    inl (record_guarded g.A.Monoid.parts g.B.Monoid.parts (λ word. word) v (reads_plainly (face g.A.Monoid.parts g.B.Monoid.parts) v c.requires.knows) (cut_named v.shape v.seen c.args.node.now.snapshot) c.args.node.now.level c.args.node.now.place c.args.node.now.word (holds_plainly v c.requires.knows.keeps_records (cut_named v.shape v.seen c.args.node.now.snapshot) c.args.node.now.level c.args.node.now.place c.args.node.now.word c.requires.node) c.requires.inner)

pub node_at-requires-clause-node : goal.node_at-requires-clause-node
node_at-requires-clause-node g c = let v : SeatView = c.args.pass.now.view in let r = c.load_record_word-word.result in let l = c.load_record_word-word.ensures.view in let s = c.args.node.now.snapshot in
    subst (λ (z : SeatView). IsNodeAt z.shape z.seen (cut_named z.shape z.seen s) (c.args.node.now.level - 1) (2 * c.args.node.now.place + 1) r) (sym l.stepped)
    (right_is g.A.Monoid.parts g.B.Monoid.parts (λ word. word) v (reads_plainly (face g.A.Monoid.parts g.B.Monoid.parts) v c.requires.knows) (cut_named v.shape v.seen s) c.args.node.now.level c.args.node.now.place c.args.node.now.word (holds_plainly v c.requires.knows.keeps_records (cut_named v.shape v.seen s) c.args.node.now.level c.args.node.now.place c.args.node.now.word c.requires.node) c.requires.inner r l.known).node

pub returns-clause-named : goal.returns-clause-named
returns-clause-named g c = let v : SeatView = c.args.pass.now.view in let r = c.load_record_word-word.result in let l = c.load_record_word-word.ensures.view in let s = c.args.node.now.snapshot in let n = c.node_at.ensures in
    subst (λ (z : ℕ × ℕ × ℕ). IsNodeAt v.shape v.seen (cut_named v.shape v.seen s) z.0 z.1 z.2) (λ i. (sym n.level i, sym n.place i, sym n.word i))
    (right_is g.A.Monoid.parts g.B.Monoid.parts (λ word. word) v (reads_plainly (face g.A.Monoid.parts g.B.Monoid.parts) v c.requires.knows) (cut_named v.shape v.seen s) c.args.node.now.level c.args.node.now.place c.args.node.now.word (holds_plainly v c.requires.knows.keeps_records (cut_named v.shape v.seen s) c.args.node.now.level c.args.node.now.place c.args.node.now.word c.requires.node) c.requires.inner r l.known).node

pub returns-clause-looks : goal.returns-clause-looks
returns-clause-looks g c = let v : SeatView = c.args.pass.now.view in let w : SeatView = c.load_record_word-word.new.self.view in
    looks_on 1 3 4 v w c.node_at.new.pass.view (omega arith) (looks_one v w _ c.load_record_word-word.ensures.view.stepped) c.node_at.ensures.looks
