use Rattle.aug_core.specs.Faces.{face}
use Rattle.aug_trie.proofs.LastingLooks.{looks_at}
use Rattle.aug_trie.proofs.Snapshots.{root_node}
use Rattle.aug_trie.proofs.Stocked.{keeps_on}
use Rattle.aug_trie.proofs.lasting.working.look_at_root.Goals as goal

pub look_at-requires-clause-inner : goal.look_at-requires-clause-inner
look_at-requires-clause-inner g c = (root_node (face g.A.Monoid.parts g.B.Monoid.parts) c.args.pass.now.view c.args.leaves c.requires.leaves c.requires.keeps.knows_table).0

pub returns-clause-looks : goal.returns-clause-looks
returns-clause-looks g c = let f = face g.A.Monoid.parts g.B.Monoid.parts in
    looks_at f c.args.pass.now.view c.look_at.new.pass.view c.look_at.new.self c.look_at.result c.args.leaves c.requires.leaves c.requires.keeps.knows_table c.look_at.ensures.stocks c.look_at.ensures.loads.view

pub returns-clause-keeps : goal.returns-clause-keeps
returns-clause-keeps g c = keeps_on c.requires.keeps c.look_at.ensures.loads.table (returns-clause-looks g c).works.goes c.look_at.ensures.stocks
