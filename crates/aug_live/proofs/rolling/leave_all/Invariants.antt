use Rattle.std.specs.Prelude.{vec_len}
use Rattle.aug_live.proofs.rolling.leave_all.Given as goal

abbrev pub decreases-loop-one : goal.decreases-loop-one
decreases-loop-one g l = vec_len l.idle
