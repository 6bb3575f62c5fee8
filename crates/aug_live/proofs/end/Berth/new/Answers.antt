use Rattle.aug_live.proofs.Tied.{opens}
use Rattle.aug_live.proofs.end.Berth.new.Goals as goal

pub new-requires-2 : goal.new-requires-2
new-requires-2 g c = record { rule = opens c.in_ok-new.field-0 c.in_ok-new.ensures }
