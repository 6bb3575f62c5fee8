use Rattle.std.proofs.Common.{◌≡◌, refl, subst, sym, true}
use Rattle.std.specs.Prelude.{Some}
use Rattle.ruled_lock.specs.Locks.{client_of}
use Rattle.aug_live.specs.LiveTries.{KnowsMore}
use Rattle.aug_live.proofs.DeskSteps.{put_known, turns}
use Rattle.aug_live.proofs.Lanes.{more_on}
use Rattle.aug_live.proofs.desk_end.lay_on.Goals as goal

pub put-requires-clause-holds : goal.put-requires-clause-holds
put-requires-clause-holds g c = let on = c.requires.goes_on in (
  record { working = Some on.was; opened = true },
  on.holds,
  λ views rule at. turns _ (client_of c.args.key.now) (record { working = Some on.was; opened = true }) (record { working = Some c.args.working; opened = true }) views rule at refl (on.more, on.given),
)

pub returns-clause-more : goal.returns-clause-more
returns-clause-more g c = let on = c.requires.goes_on in let before = client_of c.args.key.now in
    let is : client_of c.put.new.key ≡ c.args.working = put_known c.args.key.now.me.0.taken (record { working = Some on.was; opened = true }) (record { working = Some c.args.working; opened = true }) before (client_of c.put.new.key) on.holds.0 c.put.ensures.then in
    subst (KnowsMore before) (sym is) (more_on before on.was c.args.working on.knows on.more)
