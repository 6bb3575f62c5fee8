use Rattle.std.proofs.Common.{◌↔◌, IsOk, rules, sym}
use Rattle.std.specs.Result.{is_ok}
use Rattle.aug_script.specs.Limits.{Bounds, IsBounds}
use Rattle.aug_script.proofs.LimitTests.{bounds_decided, bounds_tested}
use Rattle.aug_script.proofs.limits.Limits.try_new.Goals as goal

pub returns-in_err-new-clause-test : goal.returns-in_err-new-clause-test
returns-in_err-new-clause-test c =
    let b : Bounds = record { bits = c.args.bits; workers = c.args.workers; updates = c.args.updates } in
    let ok : IsOk c.from_residual.result ↔ IsBounds b = search rules in
    bounds_decided b (is_ok c.from_residual.result) ok

pub returns-clause-test : goal.returns-clause-test
returns-clause-test c =
    let b : Bounds = record { bits = c.args.bits; workers = c.args.workers; updates = c.args.updates } in
    let laid : IsBounds b = search rules in
    sym (bounds_tested b laid)
