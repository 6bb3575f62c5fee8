use Rattle.std.proofs.Common.{ap}
use Rattle.aug_core.specs.Faces.{face}
use Rattle.aug_core.specs.Effects.{Sat}
use Rattle.aug_core.proofs.Lending.{lends_in_its_era}
use Rattle.aug_words.proofs.Aims.{pass_lent}
use Rattle.aug_words.proofs.Leads.{pass_has_words}
use Rattle.aug_words.proofs.Passes.{works_on}
use Rattle.aug_words.proofs.pass.WordPass.lend.Goals as goal

pub split_seat-seat-requires : goal.split_seat-seat-requires
split_seat-seat-requires g c = (c.self.invariant.sits.seated, pass_has_words _ _ _ _ _ _ _ _ _ c.self.invariant, lends_in_its_era _ _ _ _ (works_on _ _ _ _ c.self.invariant.seat))

pub invariant_of-self : goal.invariant_of-self
invariant_of-self g c = let split = c.split_seat-seat.ensures.2 in
    pass_lent (face g.A.Monoid.parts g.B.Monoid.parts) _ _ _ _ _ _ _ c.self.inside.lent c.self.inside.seat.me c.split_seat-seat.new.seat.me c.self.invariant c.split_seat-seat.ensures.0 c.saturating_add-self-inside.result c.saturating_add-self-inside.ensures (ap (λ (z : Sat). z.0) split) (ap (λ (z : Sat). z.1) split)
