use Rattle.std.proofs.Common.{◌-◌, ℕ, min, length, ap}
use Rattle.aug_c.specs.inside.KeyRequests.{requests_of}
use Rattle.aug_c.proofs.Turns.{came_next}
use Rattle.aug_c.proofs.array_updates.update_each.Goals as goal

pub loop-place-preserved : goal.loop-place-preserved
loop-place-preserved c = let inv = c.loop-place.invariant in let made = c.in-Ok.ensures in let keys = c.args.keys.now in let place = c.loop-place.place in
    let next = came_next (requests_of c.args.each c.args.weights.now) keys c.args.before c.args.access.now c.loop-place.so_far place c.min.result (min 32 (length c.args.weights.now - place)) c.in-Ok.count c.changed_in.result inv.came inv.past c.if-place-so_far.false c.loop-place-test.true c.min.ensures
    (ap (λ (z : ℕ). min 32 (z - place)) c.requires.weights) c.requests_from-requests.ensures c.try_update_all.auto.outcomes made.some c.changed_in.ensures.value c.changed_in.ensures.few made.made in record { came = next.0; past = next.1 }
