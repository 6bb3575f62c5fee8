use Rattle.std.proofs.Common.{◌≡◌, ◌+◌, length}
use Rattle.aug_script.specs.Script.{read_from}
use Rattle.aug_script.proofs.reading.take_records.Given as goal

-- what was read, with what is left of the records, reads as all of them do, and each record has a number
abbrev pub invariant-loop-rounds : goal.invariant-loop-rounds
invariant-loop-rounds l = record {
  reads : read_from l.limits l.rounds l.records ≡ read_from l.limits l.initial.rounds l.initial.records;
  counted : l.rounds.next + length l.records ≡ l.initial.rounds.next + length l.initial.records;
}

abbrev pub decreases-loop-rounds : goal.decreases-loop-rounds
decreases-loop-rounds l = length l.records
