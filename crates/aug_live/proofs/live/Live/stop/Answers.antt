use Rattle.std.proofs.Common.{◌∙◌, refl, subst, sym, true}
use Rattle.std.specs.Prelude.{None, Some}
use Rattle.ruled_lock.specs.Locks.{client_of}
use Rattle.aug_live.specs.LiveTries.{KeepsHandles, TrieFacts}
use Rattle.aug_live.proofs.Counted.{closes_from}
use Rattle.aug_live.proofs.DeskSteps.{keeps_from, turns}
use Rattle.aug_live.proofs.Lanes.{keeps_by, keeps_on, keeps_self}
use Rattle.aug_live.proofs.live.Live.stop.Goals as goal

pub put-requires-clause-holds : goal.put-requires-clause-holds
put-requires-clause-holds g c = let from = c.in-Ok.ensures.takes in (
  record { working = Some from.was; opened = true },
  from.holds,
  λ views on at. turns _ (client_of c.take_own.new.key) (record { working = Some from.was; opened = true }) (record { working = None; opened = true }) views on at refl (c.take_own.ensures.same.1 ∙ c.self.invariant.2.first),
)

pub lay_on-requires-clause-goes_on : goal.lay_on-requires-clause-goes_on
lay_on-requires-clause-goes_on g c = keeps_from _ _ _ c.in-Ok.ensures.takes c.in-Err-stop.ensures.goes_on

pub returns-in-Ok-stop-clause-closes : goal.returns-in-Ok-stop-clause-closes
returns-in-Ok-stop-clause-closes g c = let was = c.in-Ok.working in
    closes_from c.args.self was c.in-Ok-stop.closed.0 c.in-Ok-stop.closed.1 (subst (λ (z : TrieFacts). KeepsHandles z was) c.self.view_is c.in-Ok.ensures.goes_on) c.in-Ok-stop.ensures.closes

pub returns-in-Err-stop-clause-goes_on : goal.returns-in-Err-stop-clause-goes_on
returns-in-Err-stop-clause-goes_on g c = keeps_by _ _ _ _ c.self.view_is (keeps_on _ _ _ c.in-Ok.ensures.goes_on c.in-Err-stop.ensures.goes_on) c.lay_on.ensures.view

pub returns-in-Err-clause-goes_on : goal.returns-in-Err-clause-goes_on
returns-in-Err-clause-goes_on g c = subst (KeepsHandles c.args.self) (sym (c.take_own.ensures.view ∙ c.self.view_is)) (keeps_self c.args.self)
