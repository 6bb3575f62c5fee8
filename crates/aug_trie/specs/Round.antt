-- What contracts see of a round and of its table.
use Rattle.std.specs.Prelude.{ℕ, ◌+◌, ◌-◌, ◌^◌, List}
use Rattle.atomic_table.specs.Seated.{TableId}

-- what the passes of all rounds of a table share: the table, the bits of its keys, its lanes, the updates of each, and for how many members it was laid out
pub record TableFacts : Type 0 where
  pub table : TableId
  pub bits : ℕ
  pub workers : ℕ
  pub updates : ℕ
  pub room : ℕ

-- a round: its table and how often that was renewed before, the bits of its keys, the set that it opened with, its lanes, the updates of each, and for how
-- many members it was laid out
pub record RoundFacts : Type 0 where
  pub table : TableId
  pub era : ℕ
  pub bits : ℕ
  pub members : List (ℕ × ℕ)
  pub workers : ℕ
  pub updates : ℕ
  pub room : ℕ

-- the table of a round, which is the same for the next one
abbrev pub table_of : RoundFacts → TableFacts
table_of round = record { table = round.table; bits = round.bits; workers = round.workers; updates = round.updates; room = round.room }

-- the place of the root's word in a round's table
abbrev pub root_of : RoundFacts → ℕ
root_of round = 2 ^ (round.bits + 1) - 2
