use Rattle.std.proofs.Common.{ap, refl, subst, sym}
use Rattle.std.specs.Prelude.{None, Option, Some}
use Rattle.ruled_lock.specs.Locks.{client_of}
use Rattle.aug_live.specs.LiveTries.{TrieFacts}
use Rattle.aug_live.specs.inside.DeskKnowledge.{DeskStays}
use Rattle.aug_live.proofs.DeskSteps.{desk_same, learns, stays}
use Rattle.atomic_table.specs.Seated.{TableId}
use Rattle.aug_trie.specs.Round.{TableFacts}
use Rattle.aug_live.specs.inside.Looks.{IsReaderOf}
use Rattle.aug_live.proofs.Shown.{end_still}
use Rattle.aug_live.proofs.desk_end.DeskEnd.show.Goals as goal

pub take-requires-clause-rule : goal.take-requires-clause-rule
take-requires-clause-rule g c = learns _ _

pub put-requires-clause-holds : goal.put-requires-clause-holds
put-requires-clause-holds g c = let taken = c.in-Ok.field-0 in let new = c.show-end.new.self in (
  taken,
  c.in-Ok.ensures.holds,
  λ views rule at. stays _ (client_of c.take.new.key) taken (record { working = Some new; opened = taken.opened }) views rule at refl (desk_same taken.working c.in-Some.working new c.in-Some.is c.show-end.ensures.working),
)

pub put-requires-in-None-clause-holds : goal.put-requires-in-None-clause-holds
put-requires-in-None-clause-holds g c = let taken = c.in-Ok.field-0 in (
  taken,
  c.in-Ok.ensures.holds,
  λ views rule at. stays _ (client_of c.take.new.key) taken (record { working = None; opened = taken.opened }) views rule at refl (subst (λ (o : Option TrieFacts). DeskStays o None) (sym c.in-None.is) tt),
)

pub returns-in-None-clause-shows : goal.returns-in-None-clause-shows
returns-in-None-clause-shows g c = end_still _ _ c.args.show.now.era c.args.end (subst (λ (t : TableId). IsReaderOf t c.args.show.now.left) (sym (ap (λ (z : TableFacts). z.table) c.requires.together)) c.requires.readers.1)
