use Rattle.std.proofs.Common.{arith, ap, ◌∙◌, length}
use Rattle.aug_monoid.specs.Fold.{fold_of}
use Rattle.aug_words.proofs.Builds.{leaf_tells, rises, ready_number}
use Rattle.aug_words.proofs.building.Building.leaf.Goals as goal

pub of_leaf-requires : goal.of_leaf-requires
of_leaf-requires g c = let b = c.args.self.now.plan in let few = b.few in let leaf = c.requires.leaf in omega arith

pub returns-clause-count : goal.returns-clause-count
returns-clause-count g c = let b = c.args.self.now.plan in let o = b.key in let are = b.leaves_are in let leaf = c.requires.leaf in
    c.of_leaf.ensures.count ∙ ap length (leaf_tells o (rises o b.key_set) b.members_fit c.args.place _ (omega arith) (ready_number _ o c.args.self.now.words.items c.args.place _ c.requires.ready c.index.ensures))

pub returns-clause-a : goal.returns-clause-a
returns-clause-a g c = let b = c.args.self.now.plan in let o = b.key in let are = b.leaves_are in let leaf = c.requires.leaf in
    c.of_leaf.ensures.a ∙ ap (fold_of g.A.Monoid.parts) (leaf_tells o (rises o b.key_set) b.members_fit c.args.place _ (omega arith) (ready_number _ o c.args.self.now.words.items c.args.place _ c.requires.ready c.index.ensures))

pub returns-clause-b : goal.returns-clause-b
returns-clause-b g c = let b = c.args.self.now.plan in let o = b.key in let are = b.leaves_are in let leaf = c.requires.leaf in
    c.of_leaf.ensures.b ∙ ap (fold_of g.B.Monoid.parts) (leaf_tells o (rises o b.key_set) b.members_fit c.args.place _ (omega arith) (ready_number _ o c.args.self.now.words.items c.args.place _ c.requires.ready c.index.ensures))
