use Rattle.std.proofs.Common.{◌∙◌, refl, subst, sym, true}
use Rattle.std.specs.Prelude.{None, Option}
use Rattle.ruled_lock.specs.Locks.{client_of}
use Rattle.aug_live.specs.LiveTries.{KnowsMore, TrieFacts}
use Rattle.aug_live.specs.inside.DeskKnowledge.{Moves}
use Rattle.aug_live.proofs.DeskSteps.{closed_more, keeps_from, knows_on_from, learns, put_known, took_from, turns}
use Rattle.aug_live.proofs.Lanes.{more_self}
use Rattle.aug_live.proofs.desk_end.DeskEnd.refill.Goals as goal

pub take-requires-clause-rule : goal.take-requires-clause-rule
take-requires-clause-rule g c = learns _ _

pub lay_on-requires-clause-goes_on : goal.lay_on-requires-clause-goes_on
lay_on-requires-clause-goes_on g c = let pass = c.take.new.key in let was = c.in-Some.working in
    keeps_from pass was c.refill-working.result.0 (took_from pass _ c.in-Ok.field-0 was c.take.ensures.view c.in-Ok.ensures.holds c.in-Some.is c.in-Ok.ensures.fact) c.refill-working.ensures.goes_on

pub put-requires-clause-holds : goal.put-requires-clause-holds
put-requires-clause-holds g c = let taken = c.in-Ok.field-0 in let id = c.take.new.key.id in (
  taken,
  c.in-Ok.ensures.holds,
  λ views on at. turns _ (client_of c.take.new.key) taken (record { working = None; opened = taken.opened }) views on at refl (subst (λ (o : Option TrieFacts). Moves id o None) (sym c.in-None.is) tt),
)

pub returns-in-Some-clause-more : goal.returns-in-Some-clause-more
returns-in-Some-clause-more g c = knows_on_from c.args.self.now _ _ (c.take.ensures.view ∙ c.self.view_is) c.lay_on.ensures.more

pub returns-in-Err-clause-more : goal.returns-in-Err-clause-more
returns-in-Err-clause-more g c = subst (KnowsMore c.args.self.now) (sym (c.take.ensures.view ∙ c.self.view_is)) (more_self c.args.self.now)

pub returns-in-None-clause-more : goal.returns-in-None-clause-more
returns-in-None-clause-more g c = let own = c.args.self.now in let taken = c.in-Ok.field-0 in
    subst (KnowsMore own) (sym (put_known c.take.new.key.me.0.taken taken (record { working = None; opened = taken.opened }) (client_of c.take.new.key) (client_of c.put.new.key) c.in-Ok.ensures.holds.0 c.put.ensures.then))
    (subst (λ (z : TrieFacts). KnowsMore own (record z { closed = true })) (sym (c.take.ensures.view ∙ c.self.view_is)) (closed_more own))
