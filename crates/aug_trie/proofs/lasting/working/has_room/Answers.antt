use Rattle.aug_core.specs.Faces.{face}
use Rattle.aug_trie.proofs.Stocked.{works_none}
use Rattle.aug_trie.proofs.lasting.working.has_room.Goals as goal

pub returns-then-free-bits-clause-works : goal.returns-then-free-bits-clause-works
returns-then-free-bits-clause-works g c = works_none (face g.A.Monoid.parts g.B.Monoid.parts) _ c.args.pass.now.view c.requires.keeps.knows_table
