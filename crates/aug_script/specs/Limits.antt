-- What a script may ask for. They are 4, 1 and 64 if the command line gives none, for which `words_of` is 1,407. A table that opens with every key
-- can be laid out for all limits, so no round of a script is too large.
use Rattle.std.specs.Prelude.{ℕ, ◌+◌, ◌-◌, ◌*◌, ◌^◌, ◌&&◌, nat_le, Bool}
use Rattle.aug_core.specs.Layout.{IsLayout}
use Rattle.aug_core.specs.Places.{shape_of}

-- keys below 2 ^ bits, lanes below `workers`, and `updates` updates for each lane in each round
pub record Bounds : Type 0 where
  pub bits : ℕ
  pub workers : ℕ
  pub updates : ℕ

-- limits that a script can have: a table can be laid out for a round that opens with every key
abbrev pub IsBounds : Bounds → Type 0
IsBounds b = IsLayout (shape_of b.bits b.workers b.updates (2 ^ b.bits))

-- the number is one of those from the first to the last, as a test
abbrev pub is_within : ℕ → ℕ → ℕ → Bool
is_within first last n = nat_le first n && nat_le n last

-- the words of the table for a round that opens with every key: one for each leaf, node and lane, and 5 for each record. Each level and each node has
-- one record, and each update has one record on each level
abbrev pub words_of : Bounds → ℕ
words_of b = 2 ^ (b.bits + 1) - 1 + b.workers + 5 * (b.bits + (2 ^ b.bits - 1) + b.workers * b.updates * b.bits)

-- limits that a script can have, as a test
abbrev pub is_bounds : Bounds → Bool
is_bounds b = is_within 1 16 b.bits && is_within 1 64 b.workers && is_within 1 65536 b.updates && nat_le (words_of b) (2 ^ 26)

-- the limits with other bits
abbrev pub bounds_at : Bounds → ℕ → Bounds
bounds_at b bits = record { bits = bits; workers = b.workers; updates = b.updates }
