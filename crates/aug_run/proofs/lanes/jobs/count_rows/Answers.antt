use Rattle.std.proofs.Common.{rules, refl}
use Rattle.aug_run.proofs.Counting.{counted_none, counted_more, counted_all, few}
use Rattle.aug_run.proofs.lanes.jobs.count_rows.Goals as goal

pub loop-row-init : goal.loop-row-init
loop-row-init c = counted_none _ c.requires.zero

pub overflow_add-counts : goal.overflow_add-counts
overflow_add-counts c =
    let bound = few _ _ _ c.loop-row-test.true _ c.loop-row.invariant c.requires.lanes in
    let low = c.loop-row-test.true in
    search (rules, bound)

pub loop-row-preserved : goal.loop-row-preserved
loop-row-preserved c = counted_more _ _ _ c.loop-row-test.true _ c.loop-row.invariant c.requires.lanes _ refl

pub returns : goal.returns
returns c = counted_all _ _ _ _ c.loop-row-test.false c.loop-row.invariant
