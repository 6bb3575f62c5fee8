use Rattle.std.proofs.Common.{subst}
use Rattle.std.specs.Prelude.{Option, IfSome}
use Rattle.aug_live.specs.LiveTries.{KnowsMore, TrieFacts}
use Rattle.aug_live.proofs.DeskSteps.{learns_own, took_from}
use Rattle.aug_live.proofs.desk_end.take_own.Goals as goal

pub take-requires-clause-rule : goal.take-requires-clause-rule
take-requires-clause-rule g c = learns_own _ _ c.requires.owner.first

pub returns-in-Some-clause-takes : goal.returns-in-Some-clause-takes
returns-in-Some-clause-takes g c = took_from c.take.new.key _ c.in-Ok.field-0 c.in-Some.working c.take.ensures.view c.in-Ok.ensures.holds c.in-Some.is c.in-Ok.ensures.fact.knows

pub returns-in-Some-clause-goes_on : goal.returns-in-Some-clause-goes_on
returns-in-Some-clause-goes_on g c = let know = c.in-Ok.ensures.fact in let at = λ (P : TrieFacts → Type 0) (k : IfSome c.in-Ok.field-0.working P). subst (λ (z : Option TrieFacts). IfSome z P) c.in-Some.is k in
    record { more = at (KnowsMore _) know.knows.knows; given = at _ know.owner.given }
