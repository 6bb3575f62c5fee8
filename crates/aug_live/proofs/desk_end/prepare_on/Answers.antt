use Rattle.std.proofs.Common.{◌∙◌, refl, subst, sym}
use Rattle.std.specs.Prelude.{None, Option, Some}
use Rattle.ruled_lock.specs.Locks.{client_of}
use Rattle.aug_live.specs.LiveTries.{TrieFacts}
use Rattle.aug_live.specs.inside.DeskKnowledge.{DeskStays}
use Rattle.aug_live.proofs.DeskSteps.{kept_known, learns, stays}
use Rattle.aug_live.proofs.desk_end.prepare_on.Goals as goal

pub take-requires-clause-rule : goal.take-requires-clause-rule
take-requires-clause-rule g c = learns _ _

pub put-requires-clause-holds : goal.put-requires-clause-holds
put-requires-clause-holds g c = let taken = c.in-Ok.field-0 in let new = c.prepare-ahead.new.self in let on = c.prepare-ahead.ensures.goes_on in (
  taken,
  c.in-Ok.ensures.holds,
  λ views rule at. stays _ (client_of c.take.new.key) taken (record { working = Some new; opened = taken.opened }) views rule at refl (subst (λ (o : Option TrieFacts). DeskStays o (Some new)) (sym c.in-Some.is) (on.more, on.given)),
)

pub put-requires-in-None-clause-holds : goal.put-requires-in-None-clause-holds
put-requires-in-None-clause-holds g c = let taken = c.in-Ok.field-0 in (
  taken,
  c.in-Ok.ensures.holds,
  λ views rule at. stays _ (client_of c.take.new.key) taken (record { working = None; opened = taken.opened }) views rule at refl (subst (λ (o : Option TrieFacts). DeskStays o None) (sym c.in-None.is) tt),
)

pub returns-in-Some-clause-view : goal.returns-in-Some-clause-view
returns-in-Some-clause-view g c = kept_known c.take.new.key.me.0.taken c.in-Ok.field-0 (client_of c.take.new.key) (client_of c.put.new.key) c.in-Ok.ensures.holds.0 c.put.ensures.then ∙ c.take.ensures.view

pub returns-in-None-clause-view : goal.returns-in-None-clause-view
returns-in-None-clause-view g c = kept_known c.take.new.key.me.0.taken c.in-Ok.field-0 (client_of c.take.new.key) (client_of c.put-in-None.new.key) c.in-Ok.ensures.holds.0 c.put-in-None.ensures.then ∙ c.take.ensures.view
