use Rattle.std.proofs.Common.{◌≡◌, true, take}
use Rattle.csv.specs.Records.{fields_of}
use Rattle.aug_script.specs.Script.{are_printable}
use Rattle.aug_script.proofs.judge.are_fields_printable.Given as goal

abbrev pub invariant-loop-place : goal.invariant-loop-place
invariant-loop-place l = are_printable (take l.place (fields_of l.fields)) ≡ true
