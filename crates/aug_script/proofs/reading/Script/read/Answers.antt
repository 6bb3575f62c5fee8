use Rattle.aug_script.proofs.Runnable.{rounds_are_runnable}
use Rattle.aug_script.proofs.reading.Script.read.Goals as goal

pub returns-clause-kept : goal.returns-clause-kept
returns-clause-kept c =
    let runnable = rounds_are_runnable c.args.limits.now c.args.bytes.now _ c.in_ok-read.ensures.bounds c.in_ok-read.ensures.ok in
    rw c.in_ok-rounds.ensures runnable.kept

pub returns-clause-never_narrows : goal.returns-clause-never_narrows
returns-clause-never_narrows c =
    let runnable = rounds_are_runnable c.args.limits.now c.args.bytes.now _ c.in_ok-read.ensures.bounds c.in_ok-read.ensures.ok in
    rw c.in_ok-rounds.ensures runnable.never_narrows

pub returns-clause-few : goal.returns-clause-few
returns-clause-few c =
    let runnable = rounds_are_runnable c.args.limits.now c.args.bytes.now _ c.in_ok-read.ensures.bounds c.in_ok-read.ensures.ok in
    rw c.in_ok-rounds.ensures runnable.few
