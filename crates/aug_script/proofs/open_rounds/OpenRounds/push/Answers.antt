use Rattle.std.proofs.Common.{arith, ◌==◌, ◌&&◌}
use Rattle.aug_script.specs.Script.{is_update}
use Rattle.aug_script.proofs.Updates.{length-filter-le}
use Rattle.aug_script.proofs.open_rounds.OpenRounds.push.Goals as goal

pub overflow_add-self : goal.overflow_add-self
overflow_add-self c =
    let few = length-filter-le (λ row. (row.lane == c.args.row.lane) && is_update row.verb) c.self.inside.rows.items in
    omega (arith, c.self.invariant.counted c.args.row.lane c.requires.lane, c.push.ensures.upper_bound, c.in_ok-push.ensures.len)
