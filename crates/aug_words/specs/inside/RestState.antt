-- What the fields of a table at rest keep.
use Rattle.std.specs.Prelude.{◌≡◌, ◌+◌, ◌^◌, ◌<◌, ◌≤◌, ℕ}
use Rattle.std.specs.Slots.{slots_len, IsFull}
use Rattle.std.specs.declared.alloc.Global.{Global}
use Rattle.atomic_table.specs.declared.owned.Closed.{Closed}
use Rattle.aug_core.specs.Layout.{IsLayout}
use Rattle.aug_core.specs.Places.{Shape, record_start, word_count}

-- a table at rest has all words of its layout from a first one on, of which each is there, and no slot; and its records begin at this word
pub record IsRest (closed : Closed (Unit {0}) Global) (layout : Shape) (base records : ℕ) : Type 0 where
  pub laid_out : IsLayout layout
  pub full : IsFull closed.words
  pub wide : base + word_count layout ≤ slots_len closed.words
  pub few : slots_len closed.words < 2 ^ 60
  pub no_slots : slots_len closed.slots ≡ 0
  pub records_are : records ≡ base + record_start layout 0
