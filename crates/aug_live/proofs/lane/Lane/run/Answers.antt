use Rattle.std.proofs.Common.{rules}
use Rattle.aug_live.proofs.Carries.{runs_by, worked_by}
use Rattle.aug_live.proofs.lane.Lane.run.Goals as goal

pub returns-clause-made : goal.returns-clause-made
returns-clause-made g c = let work = c.into_work-work in let did = c.run-answer in
    runs_by c.args.self work.result.1 c.with-2.result work.result.0 c.pass-pass.result did.new.pass c.into_half.result (search rules) work.ensures.work work.ensures.rest c.pass-pass.ensures c.into_half.ensures c.with-2.ensures
    (g.O.Operation.Does c.args.op.now did.new.self did.result) did.ensures.does

pub returns-clause-worked : goal.returns-clause-worked
returns-clause-worked g c = let work = c.into_work-work in let did = c.run-answer in
    worked_by c.args.self work.result.1 c.with-2.result work.result.0 c.pass-pass.result did.new.pass c.into_half.result (search rules) work.ensures.work work.ensures.rest c.pass-pass.ensures c.into_half.ensures c.with-2.ensures
    did.ensures.round did.ensures.accepts
