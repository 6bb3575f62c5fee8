use Rattle.std.proofs.Common.{◌∙◌, sym}
use Rattle.std.specs.Arc.{arc_value}
use Rattle.aug_live.specs.LiveTries.{ids_of}
use Rattle.aug_live.proofs.Carries.{err_map, follows_as, ok_map, runs_as}
use Rattle.aug_live.proofs.Looked.{holds_same}
use Rattle.aug_live.proofs.handle.Handle.attempt.Goals as goal

pub returns-clause-made : goal.returns-clause-made
returns-clause-made g c = ok_map _ _ c.run-end.result.1 (λ answer ran. runs_as c.self.inside.desk c.self.inside.lane c.args.self.now c.self.inside.end c.in-Some.end c.run-end.result.0 c.self.view_is (sym c.take.ensures.value ∙ c.in-Some.is) _ ran) c.run-end.ensures.made

pub returns-clause-not_made : goal.returns-clause-not_made
returns-clause-not_made g c = err_map _ _ c.run-end.result.1 (λ _ on. follows_as c.self.inside.desk c.self.inside.lane c.args.self.now c.self.inside.end c.in-Some.end c.run-end.result.0 c.self.view_is (sym c.take.ensures.value ∙ c.in-Some.is) on) c.run-end.ensures.not_made

pub invariant_of-self : goal.invariant_of-self
invariant_of-self g c = let i = c.self.inside in (
  holds_same c.in-Some.end c.run-end.result.0 i.end (arc_value i.round) i.bits i.lane i.number (ids_of i.desk) c.self.invariant.0 (sym c.take.ensures.value ∙ c.in-Some.is) c.run-end.ensures.same,
  c.self.invariant.1,
  c.self.invariant.2,
)
