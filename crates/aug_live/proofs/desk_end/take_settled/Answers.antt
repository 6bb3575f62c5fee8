use Rattle.std.proofs.Common.{◌≡◌, refl, sym, subst}
use Rattle.std.specs.Prelude.{Result, IfOk}
use Rattle.ruled_lock.specs.Locks.{client_of}
use Rattle.aug_live.specs.LiveTries.{KeepsHandles}
use Rattle.aug_live.proofs.DeskSteps.{keeps_from}
use Rattle.aug_live.proofs.Lanes.{keeps_by, keeps_on, keeps_self}
use Rattle.aug_live.proofs.desk_end.take_settled.Goals as goal

pub lay_on-requires-clause-goes_on : goal.lay_on-requires-clause-goes_on
lay_on-requires-clause-goes_on g c = keeps_from _ _ _ c.in-Ok.ensures.takes c.settle-working.ensures.goes_on

pub returns-in-Ok-settled-clause-takes : goal.returns-in-Ok-settled-clause-takes
returns-in-Ok-settled-clause-takes g c = keeps_from _ _ _ c.in-Ok.ensures.takes c.settle-working.ensures.goes_on

pub returns-in-Ok-settled-clause-settled : goal.returns-in-Ok-settled-clause-settled
returns-in-Ok-settled-clause-settled g c = let s = c.settle-working.ensures in
    (keeps_on _ _ _ c.in-Ok.ensures.goes_on s.goes_on, subst (λ (r : Result _ _). IfOk r (λ _. c.settle-working.result.0.held ≡ 0)) c.in-Ok-settled.is s.settled)

pub returns-in-Err-clause-free : goal.returns-in-Err-clause-free
returns-in-Err-clause-free g c = (c.in-Err.ensures.free, subst (KeepsHandles (client_of c.args.key.now)) (sym c.take_own.ensures.view) (keeps_self (client_of c.args.key.now)))

pub returns-in-Err-settled-clause-free : goal.returns-in-Err-settled-clause-free
returns-in-Err-settled-clause-free g c = (c.lay_on.ensures.free, keeps_by _ _ _ _ refl (keeps_on _ _ _ c.in-Ok.ensures.goes_on c.settle-working.ensures.goes_on) c.lay_on.ensures.view)
