use Rattle.std.proofs.Common.{◌≡◌, rules}
use Rattle.aug_script.specs.Limits.{IsBounds}
use Rattle.aug_run_tests.proofs.KnownBytes.{known_output}
use Rattle.aug_run_tests.proofs.known_bytes.run_known_bytes.Goals as goal

pub returns : goal.returns
returns g c = λ done.
    let limits : c.in_ok-limits.limits ≡ record { bits = 4; workers = 1; updates = 64 } = search rules in
    let bounds : IsBounds (record { bits = 4; workers = 1; updates = 64 }) = search rules in
    let ran = rw (c.new-input.ensures.standard, c.new-output.ensures.bytes) at (c.carry_out-status.ensures.done done).1 in
    known_output c.one_list.ensures.of_a_script bounds c.in_ok-limits.limits _ _ _ _ _ limits ran
