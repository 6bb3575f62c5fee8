use Rattle.std.proofs.Common.{rules}
use Rattle.aug_c.proofs.Calls.{updates_also}
use Rattle.aug_c.proofs.updates.aug_try_insert.Goals as goal

pub returns : goal.returns
returns c = updates_also _ _ _ (λ old new code done. ((_, c.update.new.out), done)) _ _ _ c.update.result (search rules) c.update.ensures
