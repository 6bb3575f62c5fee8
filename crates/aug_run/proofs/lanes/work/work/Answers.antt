use Rattle.std.proofs.Common.{rules, arith}
use Rattle.aug_run.specs.inside.Workers.{lane_at}
use Rattle.aug_run.proofs.Working.{worked_none, budget_left, room_left, worked_more, worked_same, worked_all}
use Rattle.aug_run.proofs.lanes.work.work.Goals as goal
use Rattle.aug_run.proofs.lanes.work.work.Goals.{then-row-lane, else-row-lane}

pub loop-row-init : goal.loop-row-init
loop-row-init g c =
    let ready = c.requires.ready in
    worked_none _ _ _ _ _ _ _ _ (search rules) c.snapshot-held.ensures.known ready.empty (search rules) (search rules) ready.room

pub answer-reply-requires-clause-budget : goal.answer-reply-requires-clause-budget
answer-reply-requires-clause-budget g c = budget_left _ _ _ _ _ c.loop-row-test.true _ _ _ _ _ c.loop-row.invariant c.if-row-lane.true c.requires.kept.updates

pub push_reserved-requires : goal.push_reserved-requires
push_reserved-requires g c = room_left _ _ _ _ _ c.loop-row-test.true _ _ _ _ _ c.loop-row.invariant c.if-row-lane.true

pub loop-row-preserved : goal.loop-row-preserved
loop-row-preserved g c =
    elim c.if-row-lane.branch [
      | then-row-lane w ↦ rw (w.pass-is, w.held-is, w.replies-is)
          (worked_more _ _ _ _ _ c.loop-row-test.true _ _ _ _ _ c.loop-row.invariant w.if-row-lane.true _ _ _ _ _ _
          w.answer-reply.ensures.answers w.answer-reply.ensures.held w.answer-reply.ensures.round w.answer-reply.ensures.spent w.push_reserved.ensures.items w.push_reserved.ensures.len (omega (arith, w.push_reserved.ensures.capacity)))
      | else-row-lane w ↦ rw (w.pass-is, w.held-is, w.replies-is) (worked_same _ _ _ _ _ c.loop-row-test.true _ _ _ _ _ c.loop-row.invariant w.if-row-lane.false)
    ]

pub returns : goal.returns
returns g c =
    record {
      here = c.loop-row.invariant.here;
      held = (lane_at c.loop-row.pass c.loop-row.held).held;
      runs = record {
        start = lane_at c.snapshot-held.new.self c.snapshot-held.result;
        started = record {
          pass = c.args.job.half.knows;
          handed_out = c.requires.ready.handed_out;
          takes = rw c.pass-pass.ensures at c.snapshot-held.ensures.takes;
        };
        answered = worked_all _ _ _ _ _ _ _ _ _ _ c.loop-row-test.false c.loop-row.invariant;
      };
    }
