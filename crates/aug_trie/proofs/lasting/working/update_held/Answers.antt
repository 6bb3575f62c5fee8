use Rattle.aug_core.specs.Faces.{face}
use Rattle.aug_trie.proofs.Stocked.{updated_held}
use Rattle.aug_trie.proofs.lasting.working.update_held.Goals as goal

pub returns-clause-updated : goal.returns-clause-updated
returns-clause-updated g c = updated_held (face g.A.Monoid.parts g.B.Monoid.parts) c.reserve.ensures.works c.update_over-made.ensures.updated c.release.ensures.works
