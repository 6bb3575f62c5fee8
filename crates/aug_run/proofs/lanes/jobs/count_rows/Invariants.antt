use Rattle.std.specs.Prelude.{length, take}
use Rattle.aug_run.specs.inside.Workers.{AreRowCounts}
use Rattle.aug_run.proofs.lanes.jobs.count_rows.Given as goal

abbrev pub invariant-loop-row : goal.invariant-loop-row
invariant-loop-row l = AreRowCounts (length l.initial.counts) (take l.row-index l.rows) l.counts
