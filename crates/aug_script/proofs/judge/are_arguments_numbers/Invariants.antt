use Rattle.std.proofs.Common.{◌≡◌, true, take, drop, ◌-◌}
use Rattle.std.specs.List.{list_all}
use Rattle.csv.specs.Records.{fields_of}
use Rattle.aug_script.specs.Script.{is_number}
use Rattle.aug_script.proofs.judge.are_arguments_numbers.Given as goal

abbrev pub invariant-loop-place : goal.invariant-loop-place
invariant-loop-place l = list_all is_number (take (l.place - 2) (drop 2 (fields_of l.fields))) ≡ true
