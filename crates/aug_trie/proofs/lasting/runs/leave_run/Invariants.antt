use Rattle.std.proofs.Common.{◌≡◌, ◌≤◌}
use Rattle.aug_core.specs.Faces.{face}
use Rattle.aug_trie.specs.inside.LastingRuns.{LeavesRun, PutsRun}
use Rattle.aug_trie.proofs.lasting.runs.leave_run.Given as goal

abbrev pub invariant-loop-place : goal.invariant-loop-place
invariant-loop-place g l = record {
  begun : l.from ≤ l.place;
  table : l.pass.table ≡ l.fn.pass.table;
  puts : PutsRun l.from l.place l.fn.outcomes l.outcomes;
  leaves : LeavesRun (face g.A.Monoid.parts g.B.Monoid.parts) l.keys l.requests l.outcomes l.from l.place l.fn.pass.view l.pass.view;
}
