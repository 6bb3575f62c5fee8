use Rattle.std.proofs.Common.{rules, eqb}
use prog.Atomic.{either}
use Rattle.ruled_lock.proofs.LockKeeps.{tries, not_free}
use Rattle.ruled_lock.proofs.lock.RuledLock.try_for.Goals as goal

pub compare_exchange-requires : goal.compare_exchange-requires
compare_exchange-requires g c = (search rules, search rules, tries g.P.LockRule.holds g.M.Lesson.fact _ _ _ (λ n. either (eqb n 0) 1 n) 0 1 not_free c.requires.free.0 c.requires.free.1 c.requires.rule)
