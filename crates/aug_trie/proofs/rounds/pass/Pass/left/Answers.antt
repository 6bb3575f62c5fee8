use Rattle.aug_trie.proofs.PassCalls.{looked, reads, node_read}
use Rattle.aug_trie.proofs.rounds.pass.Pass.left.Goals as goal

pub invariant_of-self : goal.invariant_of-self
invariant_of-self g c = let i = c.self.inside in looked g.A.Monoid.parts g.B.Monoid.parts i.words i.account c.args.self.now c.in-Some.words c.self.invariant c.self.view_is c.in-Some.is 4 c.left_of.new.pass c.left_of.ensures.looks

pub returns-clause-node : goal.returns-clause-node
returns-clause-node g c = let i = c.self.inside in let e = c.left_of.ensures in node_read g.A.Monoid.parts g.B.Monoid.parts i.words i.account c.args.self.now c.in-Some.words c.self.invariant c.self.view_is c.in-Some.is 4 c.left_of.new.pass e.looks
    c.args.node.now.snapshot c.left_of.result e.table e.snapshot c.requires.node.of_pass e.named e.tells

pub returns-clause-reads : goal.returns-clause-reads
returns-clause-reads g c = let i = c.self.inside in reads g.A.Monoid.parts g.B.Monoid.parts i.words i.account c.args.self.now c.in-Some.words c.self.invariant c.self.view_is c.in-Some.is 4 c.left_of.new.pass c.left_of.ensures.looks c.left_of.ensures.table
