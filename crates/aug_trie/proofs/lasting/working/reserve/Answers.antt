use Rattle.std.proofs.Common.{refl, arith}
use Rattle.aug_core.specs.Faces.{face}
use Rattle.aug_trie.proofs.Stocked.{works_anew, works_late, works_on}
use Rattle.aug_trie.proofs.lasting.working.reserve.Goals as goal

pub returns-then-not-reserve-clause-works : goal.returns-then-not-reserve-clause-works
returns-then-not-reserve-clause-works g c = let f = face g.A.Monoid.parts g.B.Monoid.parts in let late = works_late f c.requires.keeps.stocks c.requires.keeps.knows_table c.if-not-reserve.ensures.late in
    works_on f 1 2 3 (omega arith) refl late (works_anew f c.reserve.ensures.stocks late.goes.knows_table c.reserve_later.ensures.step.view)

pub returns-else-not-reserve-clause-works : goal.returns-else-not-reserve-clause-works
returns-else-not-reserve-clause-works g c = works_anew (face g.A.Monoid.parts g.B.Monoid.parts) c.requires.keeps.stocks c.requires.keeps.knows_table c.if-not-reserve.ensures.reserves
