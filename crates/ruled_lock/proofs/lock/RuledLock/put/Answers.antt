use Rattle.std.proofs.Common.{rules}
use Rattle.ruled_lock.proofs.LockKeeps.{puts}
use Rattle.ruled_lock.proofs.lock.RuledLock.put.Goals as goal

pub swap-requires : goal.swap-requires
swap-requires g c = (search rules, search rules, puts g.P.LockRule.holds g.M.Transition.then _ _ _ c.requires.holds.0 c.args.value (search rules) (search rules) (search rules) (search rules))
