use Rattle.std.proofs.Common.{vec_len, vec_capacity}
use Rattle.aug_run.specs.inside.Workers.{lane_at}
use Rattle.aug_run.proofs.Working.{Worked}
use Rattle.aug_run.proofs.lanes.work.work.Given as goal

abbrev pub invariant-loop-row : goal.invariant-loop-row
invariant-loop-row g l =
    Worked l.round l.lane l.rows (lane_at l.initial.pass l.initial.held) l.row-index l.pass l.held l.replies.items (vec_len l.replies) (vec_capacity l.replies)
