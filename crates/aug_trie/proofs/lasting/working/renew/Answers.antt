use Rattle.aug_core.specs.Faces.{face}
use Rattle.aug_trie.proofs.Stocked.{is_scanned}
use Rattle.aug_trie.proofs.lasting.working.renew.Goals as goal

pub returns-clause-same : goal.returns-clause-same
returns-clause-same g c = c.scan.ensures.scans.keeps.2

pub returns-clause-scanned : goal.returns-clause-scanned
returns-clause-scanned g c = is_scanned (face g.A.Monoid.parts g.B.Monoid.parts) c.move_on.ensures.keeps.stocks c.move_on.ensures.moved c.scan.ensures.scans
