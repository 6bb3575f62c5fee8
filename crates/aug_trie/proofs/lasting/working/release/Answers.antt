use Rattle.std.proofs.Common.{ap}
use Rattle.aug_core.specs.Faces.{face}
use Rattle.aug_trie.specs.inside.Knows.{knows}
use Rattle.aug_trie.proofs.Stocked.{works_released}
use Rattle.aug_trie.proofs.lasting.working.release.Goals as goal

pub returns-clause-works : goal.returns-clause-works
returns-clause-works g c = works_released (face g.A.Monoid.parts g.B.Monoid.parts) c.requires.keeps.stocks c.requires.keeps.knows_table c.release.ensures.step.view

pub returns-clause-knows : goal.returns-clause-knows
returns-clause-knows g c = ap knows c.release.ensures.step.view
