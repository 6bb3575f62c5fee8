use Rattle.std.proofs.lemmas.Result.{on_ok_weaker}
use Rattle.aug_run.proofs.Failing.{rounds_failed}
use Rattle.aug_run.proofs.script.run_bytes.Goals as goal

pub returns-clause-ok : goal.returns-clause-ok
returns-clause-ok g c =
    let read = rw c.rounds.ensures at c.run_rounds.ensures.ok in
    on_ok_weaker c.run_rounds.result (λ done. (c.in-Ok.script, (c.requires.fits, c.in-Ok.ensures.ok), done.0, done.1, done.2)) read

pub returns-clause-err : goal.returns-clause-err
returns-clause-err g c =
    let memory = rw c.rounds.ensures at c.run_rounds.ensures.memory in
    let part = rw c.rounds.ensures at c.run_rounds.ensures.part in
    rounds_failed _ _ _ c.args.bytes.now c.in-Ok.script c.run_rounds.result c.requires.fits c.in-Ok.ensures.ok c.run_rounds.ensures.named memory part
