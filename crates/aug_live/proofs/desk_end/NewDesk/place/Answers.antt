use Rattle.std.proofs.Common.{refl, false, true}
use Rattle.std.specs.Prelude.{None, Some, unwrap_or}
use Rattle.ruled_lock.specs.Locks.{client_of}
use Rattle.aug_live.proofs.Tied.{what_is}
use Rattle.aug_live.proofs.DeskSteps.{places, put_known}
use Rattle.aug_live.proofs.desk_end.NewDesk.place.Goals as goal

pub put-requires-clause-holds : goal.put-requires-clause-holds
put-requires-clause-holds g c = let pass = c.args.self.key in let was = unwrap_or pass.me.0.taken (record { working = None; opened = false }) in (
  was,
  (what_is pass.me.0.taken (record { working = None; opened = false }) c.args.self.out.0, c.args.self.out.1),
  λ views on at. places _ (client_of pass) was (record { working = Some c.args.working; opened = true }) views on at c.args.working c.args.self.no_trie c.requires.some refl refl,
)

pub returns-clause-knows : goal.returns-clause-knows
returns-clause-knows g c = let pass = c.args.self.key in let was = unwrap_or pass.me.0.taken (record { working = None; opened = false }) in
    put_known pass.me.0.taken was (record { working = Some c.args.working; opened = true }) (client_of pass) (client_of c.put.new.key) (what_is pass.me.0.taken (record { working = None; opened = false }) c.args.self.out.0) c.put.ensures.then
