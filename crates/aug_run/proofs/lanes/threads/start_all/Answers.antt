use Rattle.std.proofs.Common.{◌≡◌, ℕ, ◌+◌, ◌∙◌, vec_len, rules, arith, subst, sym}
use Rattle.aug_run.specs.inside.Owed.{Owes}
use Rattle.aug_run.specs.inside.Workers.{MayBegin}
use Rattle.aug_run.proofs.Passing.{head_of, tail_of, push_one}
use Rattle.aug_run.proofs.lanes.threads.start_all.Goals as goal

-- The job that is started stood first among the rest, so it is ready for its lane.
pub start-requires-clause-ready : goal.start-requires-clause-ready
start-requires-clause-ready g c _ _ =
    let was = c.loop-job.invariant in let step = c.in-Some.ensures.steps in
    let T = c.args.round.now in let R = c.args.rows.now in let n = vec_len c.loop-job.started in
    let mine = head_of (MayBegin T R) n _ c.in-Some.job _ _ step.0 (omega arith) was.1 in
    subst (λ (lane : ℕ). MayBegin T R lane c.in-Some.job) (sym mine.lane_is) mine

-- It is of the next lane.
pub loop-job-preserved : goal.loop-job-preserved
loop-job-preserved g c =
    let was = c.loop-job.invariant in let step = c.in-Some.ensures.steps in
    let T = c.args.round.now in let R = c.args.rows.now in let n = vec_len c.loop-job.started in
    let mine = head_of (MayBegin T R) n _ c.in-Some.job _ _ step.0 (omega arith) was.1 in
    let owes : Owes T R n c.in-Ok.child = record { lane_is = c.in-Ok.ensures.lane ∙ mine.lane_is; rows_are = c.in-Ok.ensures.rows; round_is = c.in-Ok.ensures.round } in
    let grown : vec_len c.push_reserved.new.self ≡ n + 1 = c.push_reserved.ensures.len in (
      search rules,
      tail_of (MayBegin T R) n _ _ _ _ _ _ step.0 step.1 grown was.1,
      push_one (Owes T R) n _ _ _ c.in-Ok.child (omega arith) grown c.push_reserved.ensures.items was.2 owes,
      search rules,
    )
