use Rattle.std.proofs.Common.{◌<◌, ◌^◌, sym, ap, subst, arith}
use Rattle.aug_core.specs.Places.{Shape}
use Rattle.aug_core.specs.Faces.{face}
use Rattle.aug_trie.proofs.Lifting.{may_retire, shows_stocked, stocks_gained}
use Rattle.aug_trie.proofs.Stocked.{updated_over}
use Rattle.aug_trie.proofs.lasting.working.update_over.Goals as goal

pub returns-clause-updated : goal.returns-clause-updated
returns-clause-updated g c = updated_over (face g.A.Monoid.parts g.B.Monoid.parts) c.requires.bits c.requires.key c.at_leaf-made.ensures.at.view c.at_leaf-made.ensures.left c.lift_all.ensures.lifted c.lift_all.ensures.keeps.stocks c.retire.ensures.step.view

pub lift_all-requires-clause-below : goal.lift_all-requires-clause-below
lift_all-requires-clause-below g c = shows_stocked (face g.A.Monoid.parts g.B.Monoid.parts) c.args.key c.at_leaf-made.ensures.at.view.0.goes.knows_table (stocks_gained c.at_leaf-made.ensures.at.view.0.goes.shaped c.at_leaf-made.ensures.at.view.0.rest c.requires.keeps.stocks) c.requires.none

pub retire-requires-clause-later : goal.retire-requires-clause-later
retire-requires-clause-later g c = let are = c.requires.bits in let shaped = c.at_leaf-made.ensures.at.view.0.goes.shaped in may_retire (face g.A.Monoid.parts g.B.Monoid.parts) (subst (λ (z : Shape). c.args.key < 2 ^ z.bits) (sym shaped) c.requires.key) (let same = ap (λ (z : Shape). z.bits) shaped in omega arith) c.lift_all.ensures.lifted
