use Rattle.std.proofs.Common.{◌∙◌, ap, subst, sym}
use Rattle.std.specs.Arc.{arc_value}
use Rattle.aug_live.specs.LiveTries.{TrieFacts, ids_of}
use Rattle.aug_live.specs.inside.LaneKnowledge.{handle_by}
use Rattle.aug_live.specs.inside.Looks.{HoldsHandle}
use Rattle.aug_live.proofs.handle.Handle.prepare.Goals as goal

pub invariant_of-self : goal.invariant_of-self
invariant_of-self g c = let i = c.self.inside in
    (subst (λ (z : TrieFacts). HoldsHandle i.end (arc_value i.round) i.bits i.lane i.number (ids_of z)) (sym c.prepare.ensures) c.self.invariant.0, c.self.invariant.1, ap (λ (z : TrieFacts). z.table) c.prepare.ensures ∙ c.self.invariant.2)

pub returns : goal.returns
returns g c = let i = c.self.inside in ap (λ (z : TrieFacts). handle_by z i.lane i.end) c.prepare.ensures ∙ c.self.view_is
