use Rattle.aug_run.proofs.Failing.{failed_over}
use Rattle.aug_run.proofs.script.run.Goals as goal

pub returns-clause-err : goal.returns-clause-err
returns-clause-err g c =
    let failed = rw c.as_slice.ensures.value at c.run_bytes.ensures.err in
    failed_over _ _ _ c.in-Ok.bytes.items (g.S.Source.remaining c.args.source.now) c.run_bytes.result c.in-Ok.ensures.bytes failed
