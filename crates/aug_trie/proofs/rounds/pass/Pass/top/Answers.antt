use Rattle.std.proofs.Common.{ℕ, sym, subst, arith}
use Rattle.aug_model.specs.Folds.{summary_of}
use Rattle.aug_core.specs.Cuts.{Cut}
use Rattle.aug_core.specs.declared.view.SeatView.{SeatView}
use Rattle.aug_trie.specs.TreeOf.{IsTreeOf}
use Rattle.aug_trie.specs.inside.NamedCuts.{cut_named}
use Rattle.aug_trie.specs.inside.NodeWords.{IsNodeAt}
use Rattle.aug_trie.proofs.PassCalls.{top_at, looked, reads, node_read}
use Rattle.aug_trie.proofs.rounds.pass.Pass.top.Goals as goal

pub node_at-requires-clause-node : goal.node_at-requires-clause-node
node_at-requires-clause-node g c = let i = c.self.inside in top_at g.A.Monoid.parts g.B.Monoid.parts i.words i.account c.args.self.now c.in-Some.words c.self.invariant c.self.view_is c.in-Some.is c.args.s.now c.requires

pub invariant_of-self : goal.invariant_of-self
invariant_of-self g c = let i = c.self.inside in looked g.A.Monoid.parts g.B.Monoid.parts i.words i.account c.args.self.now c.in-Some.words c.self.invariant c.self.view_is c.in-Some.is 3 c.node_at.new.pass c.node_at.ensures.looks

pub returns-clause-node : goal.returns-clause-node
returns-clause-node g c = let i = c.self.inside in let v : SeatView = c.in-Some.words.view in let cut : Cut = cut_named v.shape v.seen c.args.s.now in let e = c.node_at.ensures in let n = c.node_at.result in
    node_read g.A.Monoid.parts g.B.Monoid.parts i.words i.account c.args.self.now c.in-Some.words c.self.invariant c.self.view_is c.in-Some.is 3 c.node_at.new.pass e.looks c.args.s.now n e.table e.snapshot c.requires
    (subst (λ (z : ℕ × ℕ × ℕ). IsNodeAt v.shape v.seen cut z.0 z.1 z.2) (λ j. (sym e.level j, sym e.place j, sym e.word j)) (top_at g.A.Monoid.parts g.B.Monoid.parts i.words i.account c.args.self.now c.in-Some.words c.self.invariant c.self.view_is c.in-Some.is c.args.s.now c.requires))
    (subst (λ (z : ℕ × ℕ). IsTreeOf (summary_of g.A.Monoid.parts g.B.Monoid.parts) v.shape.bits cut z.0 z.1 n.summary) (λ j. (sym e.level j, sym e.place j)) e.tells)

pub returns-clause-reads : goal.returns-clause-reads
returns-clause-reads g c = let i = c.self.inside in let three = reads g.A.Monoid.parts g.B.Monoid.parts i.words i.account c.args.self.now c.in-Some.words c.self.invariant c.self.view_is c.in-Some.is 3 c.node_at.new.pass c.node_at.ensures.looks c.node_at.ensures.table in
    record { stays = three.stays; few_steps = omega (arith, three.few_steps) }
