-- The rule of a table that may be opened again and again. An era is the time from one opening to the next. A table may have room for several openings: in
-- each era one part of it is at work, and who hands lanes out knows all words beside that part, where the next era is laid out meanwhile. `Kept` holds of
-- the part at work with the members of this era, where a view of an earlier era counts as one that was joined; whoever holds a lane or hands lanes out is
-- of this era. A view knows the eras before its own too (`Remembers`). In the example, once the one pass was joined, the lead may begin era 1.
use Rattle.std.specs.Prelude.{◌≡◌, ◌⊎◌, ℕ, ◌+◌, ◌<◌, ◌≤◌, ◌==◌, if◌then◌else◌, true, List, length, map, take, drop, slice_index, Some, IfSome}
use mathlib.Core.Option.{some}
use lib.ListN.{get_elem?}
use Rattle.atomic_table.specs.Table.{State}
use Rattle.aug_core.specs.Places.{Shape, word_count}
use Rattle.aug_core.specs.Opening.{Opening}
use Rattle.aug_core.specs.Rule.{Kept}
use Rattle.aug_core.specs.Records.{Lists}
use Rattle.aug_core.specs.Effects.{spent}
use Rattle.aug_core.specs.Readers.{AreLent, ReadsOn}
use Rattle.aug_core.specs.Pasts.{IsEarlier, IsLearnt}
use Rattle.aug_core.specs.declared.view.Held.{Held}
use Rattle.aug_core.specs.declared.view.PastEra.{PastEra}
use Rattle.aug_core.specs.declared.view.SeatView.{SeatView}

-- the view holds a lane, or hands lanes out
abbrev pub IsAtWork : SeatView → Type 0
IsAtWork v = ((a : ℕ) × (h : Held) × (get_elem? v.held a ≡ some h)) ⊎ ((n : ℕ) × (v.spare ≡ Some n))

-- who answers for a reader is at work, and the reader is of the part where it works, unless it hands lanes out
abbrev pub LendsIn : ℕ → SeatView → Type 0
LendsIn base v = (b : ℕ) → Lists v.lent b → IsAtWork v × ((b ≡ base) ⊎ ((n : ℕ) × (v.spare ≡ Some n)))

-- how a view counts in an era: one of another era counts as one that was joined
abbrev pub seen_in : ℕ → SeatView → SeatView
seen_in era v = if v.era == era then v else spent

-- the words of a part of a table
abbrev pub table_part : ℕ → ℕ → List ℕ → List ℕ
table_part base size words = take size (drop base words)

-- and how the table counts in an era, by the part that is at work
abbrev pub table_in : ℕ → ℕ → ℕ → State (Unit {0}) SeatView → State (Unit {0}) SeatView
table_in era base size s = record { words = table_part base size s.words; homes = s.homes; views = map (seen_in era) s.views }

-- all words beside a part of the table are known
pub record IsBeside (base size : ℕ) (known words : List ℕ) : Type 0 where
  pub long : length known ≡ length words
  pub same : (i : ℕ) → (i < base) ⊎ (base + size ≤ i) → slice_index known i ≡ slice_index words i

-- the opening of a table of this shape, over a set with these members
abbrev pub opening_with : Shape → List (ℕ × ℕ) → Opening
opening_with s members = record { shape = s; members = members }

-- what a view knows of the eras of its table: one of the present era knows all that are over, and what a note told it is so; one of an earlier era
-- knows those before it
pub record Remembers (shape : Shape) (era : ℕ) (past : List PastEra) (v : SeatView) : Type 0 where
  pub shaped : v.shape ≡ shape
  pub present : v.era ≡ era → v.past ≡ past
  pub learnt : v.era ≡ era → IfSome v.told (IsLearnt v.shape v.era v.past v.members)
  pub earlier : v.era < era → IsEarlier v.past v.members v.seen past

-- the rule of a table of this shape, which stays in all eras
pub record Ruled (face : ℕ → ℕ → List (ℕ × ℕ) → List ℕ) (shape : Shape) (s : State (Unit {0}) SeatView) : Type 0 where
  -- in an era, which it opened with these members
  pub era : ℕ
  pub members : List (ℕ × ℕ)
  -- in the part of it that begins at this word
  pub base : ℕ
  pub kept : Kept face (opening_with shape members) (table_in era base (word_count shape) s)
  -- after these eras
  pub past : List PastEra
  pub counted : length past ≡ era
  pub remembers : (j : ℕ) (v : SeatView) → get_elem? s.views j ≡ some v → v.live ≡ true → Remembers shape era past v
  -- who holds a lane or hands lanes out is of this era
  pub present : (j : ℕ) (v : SeatView) → get_elem? s.views j ≡ some v → IsAtWork v → v.era ≡ era
  -- and works in that part
  pub placed : (j : ℕ) (v : SeatView) → get_elem? s.views j ≡ some v → IsAtWork v → v.base ≡ base
  -- who hands lanes out knows all words beside it
  pub beside : (j n : ℕ) (v : SeatView) → get_elem? s.views j ≡ some v → v.spare ≡ Some n → IsBeside base (word_count shape) v.whole s.words
  -- no view is of a later one
  pub none_later : (j : ℕ) (v : SeatView) → get_elem? s.views j ≡ some v → v.era ≤ era
  -- readers are lent by those who are at work
  pub lent : AreLent s.views
  pub lends : (j : ℕ) (v : SeatView) → get_elem? s.views j ≡ some v → LendsIn base v
  -- and find their records
  pub reads : (j : ℕ) (v : SeatView) → get_elem? s.views j ≡ some v → v.reads ≡ true → ReadsOn shape era base s.words v
