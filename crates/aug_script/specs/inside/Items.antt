-- What was read of a script before its first item, what its rounds keep while they are read, and which items they can take.
use Rattle.std.specs.Prelude.{◌≡◌, ℕ, ◌<◌, ◌≤◌, ⊤, List, [], slice_index_or}
use Rattle.aug_script.specs.Script.{Progress, updates_of}
use Rattle.aug_script.specs.declared.item.Item.{Item}
use Rattle.aug_script.specs.declared.item.Item.TheVariants as item
use Rattle.aug_script.specs.declared.row.Row.{Row}

-- an item that rounds of at most 64 lanes and 16 bits can take: a row's lane is below 64, and keys get at most 16 bits
abbrev pub CanTake : Item → Type 0
CanTake (item.Row row) = row.lane < 64
CanTake item.End = ⊤
CanTake (item.Grow bits) = bits ≤ 16

-- nothing was read yet, and keys have `bits` bits
abbrev pub nothing_read : ℕ → Progress
nothing_read bits = record { next = 1; bits = bits; rows = []; closed = [] }

-- keys have at most 16 bits, and of each lane it is known how many rows of the open round are updates
pub record KeepsRounds (bits : ℕ) (updates : List ℕ) (rows : List Row) : Type 0 where
  pub most : bits ≤ 16
  pub counted : (lane : ℕ) → lane < 64 → slice_index_or updates lane 0 ≡ updates_of lane rows
