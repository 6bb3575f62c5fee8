use Rattle.aug_live.proofs.Carries.{ran_anywhere, seen_by, stays_follow, stays_same, unmade_anywhere, worked_same}
use Rattle.aug_live.proofs.end.End.run.Goals as goal

pub returns-in-Err-clause-same : goal.returns-in-Err-clause-same
returns-in-Err-clause-same g c = stays_same c.args.self c.in-Err.same c.in-Err.ensures.stays c.requires.some

pub returns-in-Err-clause-not_made : goal.returns-in-Err-clause-not_made
returns-in-Err-clause-not_made g c = stays_follow c.args.self c.in-Err.same c.in-Err.ensures.stays

pub returns-clause-same : goal.returns-clause-same
returns-clause-same g c = worked_same c.args.self c.put.result c.in-Ok.taken.0 c.in-Ok.taken.1 c.run-lane.result.0 c.in-Ok.ensures.known c.in-Ok.ensures.taken c.put.ensures c.in-Ok.ensures.follows c.in-Ok.ensures.lock c.requires.some c.run-lane.ensures.worked c.in-Ok.ensures.together

pub returns-clause-made : goal.returns-clause-made
returns-clause-made g c = ran_anywhere c.args.self c.put.result c.in-Ok.taken.0 c.in-Ok.taken.1 c.run-lane.result.0 c.in-Ok.ensures.known c.in-Ok.ensures.taken c.put.ensures c.in-Ok.ensures.follows c.run-lane.result.1 _ c.run-lane.ensures.made

pub returns-clause-not_made : goal.returns-clause-not_made
returns-clause-not_made g c = unmade_anywhere c.args.self c.put.result c.in-Ok.taken.0 c.in-Ok.taken.1 c.run-lane.result.0 c.in-Ok.ensures.known c.in-Ok.ensures.taken c.put.ensures c.in-Ok.ensures.follows c.run-lane.result.1 c.run-lane.ensures.same

pub returns-clause-seen : goal.returns-clause-seen
returns-clause-seen g c = seen_by c.run-lane.result.1 _ c.run-lane.ensures.seen
