use Rattle.std.proofs.Common.{arith, ap, sym, ◌∙◌, codes, Some}
use Rattle.std.proofs.lemmas.Bool.{false≢true}
use Rattle.aug_script.specs.Limits.{Bounds}
use Rattle.aug_script.proofs.LimitTests.{too_many}
use Rattle.aug_command.proofs.CommandLineLemmas.{number_is, number_some}
use Rattle.aug_command.proofs.command_line.words.options_of.Goals as goal

pub unwrap-bits-requires : goal.unwrap-bits-requires
unwrap-bits-requires c = number_some (codes "bits") _ 16 c.get_one.result c.requires.bits c.get_one.ensures.value (omega arith)

pub unwrap-workers-requires : goal.unwrap-workers-requires
unwrap-workers-requires c = number_some (codes "workers") _ 64 c.get_one-2.result c.requires.workers c.get_one-2.ensures.value (omega arith)

pub unwrap-updates-requires : goal.unwrap-updates-requires
unwrap-updates-requires c = number_some (codes "updates") _ 65536 c.get_one-3.result c.requires.updates c.get_one-3.ensures.value (omega arith)

pub returns-in_default-clause-err : goal.returns-in_default-clause-err
returns-in_default-clause-err c =
    let bits = number_is (codes "bits") _ 16 c.get_one.result c.requires.bits c.get_one.ensures.value (omega arith) c.unwrap-bits.result c.unwrap-bits.ensures in
    let workers = number_is (codes "workers") _ 64 c.get_one-2.result c.requires.workers c.get_one-2.ensures.value (omega arith) c.unwrap-workers.result c.unwrap-workers.ensures in
    let updates = number_is (codes "updates") _ 65536 c.get_one-3.result c.requires.updates c.get_one-3.ensures.value (omega arith) c.unwrap-updates.result c.unwrap-updates.ensures in
    let limits : Bounds = record { bits = c.unwrap-bits.result; workers = c.unwrap-workers.result; updates = c.unwrap-updates.result } in (
      limits,
      record { bits = bits.number; workers = workers.number; updates = updates.number },
      too_many limits (bits.least, bits.greatest) (workers.least, workers.greatest) (updates.least, updates.greatest)
          (λ fits. false≢true (c.in_default.ensures.ok.1 fits)),
    )

pub returns-in-Ok-file_of-clause-ok : goal.returns-in-Ok-file_of-clause-ok
returns-in-Ok-file_of-clause-ok c =
    let bits = number_is (codes "bits") _ 16 c.get_one.result c.requires.bits c.get_one.ensures.value (omega arith) c.unwrap-bits.result c.unwrap-bits.ensures in
    let workers = number_is (codes "workers") _ 64 c.get_one-2.result c.requires.workers c.get_one-2.ensures.value (omega arith) c.unwrap-workers.result c.unwrap-workers.ensures in
    let updates = number_is (codes "updates") _ 65536 c.get_one-3.result c.requires.updates c.get_one-3.ensures.value (omega arith) c.unwrap-updates.result c.unwrap-updates.ensures in
    let made = c.in-Ok.ensures.limits in (
      record {
        bits = bits.number ∙ ap (λ (l : Bounds). Some l.bits) (sym made);
        workers = workers.number ∙ ap (λ (l : Bounds). Some l.workers) (sym made);
        updates = updates.number ∙ ap (λ (l : Bounds). Some l.updates) (sym made);
      },
      c.in-Ok-file_of.ensures,
    )
