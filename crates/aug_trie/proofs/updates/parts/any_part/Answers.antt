use Rattle.std.proofs.Common.{arith}
use Rattle.aug_monoid.proofs.BoundLaws.{laws_of}
use Rattle.aug_trie.proofs.Going.{goes_self}
use Rattle.aug_trie.proofs.Looked.{looks_none}
use Rattle.aug_trie.proofs.Telling.{part_of_leaf}
use Rattle.aug_trie.proofs.updates.parts.any_part.Goals as goal

pub returns-then-place-leaves-clause-goes : goal.returns-then-place-leaves-clause-goes
returns-then-place-leaves-clause-goes g c = goes_self _ _ c.requires.over.knows

pub returns-then-place-leaves-clause-looks : goal.returns-then-place-leaves-clause-looks
returns-then-place-leaves-clause-looks g c = looks_none 3 c.args.pass.now.view

pub returns-then-place-leaves-clause-part : goal.returns-then-place-leaves-clause-part
returns-then-place-leaves-clause-part g c = let are = c.requires.over.leaves.are in let low = c.if-place-leaves.true in
    part_of_leaf g.A.Monoid.parts g.B.Monoid.parts (laws_of g.met.A.Monoid) (laws_of g.met.B.Monoid) c.args.pass.now.view c.args.place c.args.word c.args.number _ _ _ c.requires.over.knows (omega arith) c.leaf_part.ensures

pub record_part-requires-clause-few : goal.record_part-requires-clause-few
record_part-requires-clause-few g c = let are = c.requires.over.leaves.are in let few = c.requires.over.leaves.few in omega arith
