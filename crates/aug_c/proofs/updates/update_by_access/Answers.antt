use Rattle.aug_live.proofs.Carries.{follows_self}
use Rattle.aug_c.proofs.updates.update_by_access.Goals as goal

pub returns-then-key-universe-clause-not_made : goal.returns-then-key-universe-clause-not_made
returns-then-key-universe-clause-not_made c = follows_self c.args.access.now
