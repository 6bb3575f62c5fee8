use Rattle.std.proofs.Common.{rules}
use Rattle.ruled_lock.proofs.LockKeeps.{joins}
use Rattle.ruled_lock.proofs.lock.RuledLock.join.Goals as goal

pub join_seat-requires : goal.join_seat-requires
join_seat-requires g c = (search rules, search rules, search rules, search rules, joins g.P.LockRule.holds _ _ _ _ _ _ c.requires.rule c.requires.free.0)
