use Rattle.std.proofs.Common.{◌≡◌, ◌+◌, vec_len, rules, arith}
use Rattle.aug_run.specs.inside.Owed.{Owes}
use Rattle.aug_run.specs.inside.Workers.{IsDone}
use Rattle.aug_run.proofs.Passing.{head_of, tail_of, push_one, owed}
use Rattle.aug_run.proofs.lanes.threads.join_all.Goals as goal

-- The thread that is joined stood first among the rest, so it is of the next lane.
pub loop-child-preserved : goal.loop-child-preserved
loop-child-preserved g c =
    let was = c.loop-child.invariant in let step = c.in-Some.ensures.steps in
    let T = c.args.round.now in let R = c.args.rows.now in let n = vec_len c.loop-child.done in
    let mine = head_of (Owes T R) n _ c.in-Some.child _ _ step.0 (omega arith) was.1 in
    let grown : vec_len c.push_reserved.new.self ≡ n + 1 = c.push_reserved.ensures.len in (
      search rules,
      tail_of (Owes T R) n _ _ _ _ _ _ step.0 step.1 grown was.1,
      push_one (IsDone T R) n _ _ _ c.join.result (omega arith) grown c.push_reserved.ensures.items was.2 (owed T R n _ _ mine c.join.ensures),
      search rules,
    )
