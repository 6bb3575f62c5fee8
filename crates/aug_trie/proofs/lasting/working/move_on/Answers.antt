use Rattle.aug_core.specs.Faces.{face}
use Rattle.aug_trie.proofs.Stocked.{moved_one, moved_two}
use Rattle.aug_trie.proofs.lasting.working.move_on.Goals as goal

pub returns-then-era-clause-moved : goal.returns-then-era-clause-moved
returns-then-era-clause-moved g c = moved_two (face g.A.Monoid.parts g.B.Monoid.parts) c.requires.keeps.stocks c.requires.keeps.knows_table c.load_era-era.ensures.view c.turn_era.ensures.view

pub returns-else-era-clause-moved : goal.returns-else-era-clause-moved
returns-else-era-clause-moved g c = moved_one (face g.A.Monoid.parts g.B.Monoid.parts) c.requires.keeps.stocks c.requires.keeps.knows_table c.load_era-era.ensures.view
