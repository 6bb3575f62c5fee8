-- The changes that were accepted, and who holds them. Each serial past the opening one that a leaf has reached is in the changes of exactly one lane,
-- once, and nothing else is there. An update makes at most two, so serials stay small. Once 0 was put in, the lane of the example has the one change
-- of key 0 to serial 1.
use Rattle.std.specs.Prelude.{◌≡◌, ℕ, ◌+◌, ◌*◌, ◌^◌, ◌<◌, ◌≤◌, List, length, slice_index, flat_map}
use Rattle.std.specs.List.{sum}
use mathlib.Core.Option.{some}
use lib.ListN.{get_elem?}
use Rattle.aug_core.specs.Places.{lane_place}
use Rattle.aug_core.specs.Lanes.{word_of_state}
use Rattle.aug_core.specs.Book.{Book, history_of, At}
use Rattle.aug_core.specs.Opening.{Opening, opening_serial}
use Rattle.aug_core.specs.declared.view.Change.{Change}
use Rattle.aug_core.specs.declared.view.Entry.{Entry}
use Rattle.aug_core.specs.declared.view.Held.{Held}
use Rattle.aug_core.specs.declared.view.LaneState.TheVariants.{Free}
use Rattle.aug_core.specs.declared.view.SeatView.{SeatView}

-- a change of a key: to a serial, with a weight
abbrev pub change : ℕ → ℕ → ℕ → Change
change key serial weight = record { key = key; serial = serial; weight = weight }

-- the changes of some lanes, one lane after another
abbrev pub changes_of : List Held → List Change
changes_of held = flat_map (λ h. h.changes) held

-- the change stands at this place: the k-th of the a-th lane of the i-th view
pub record StandsAt (views : List SeatView) (i a k : ℕ) (c : Change) : Type 0 where
  pub view : SeatView
  pub lane : Held
  pub sits : get_elem? views i ≡ some view
  pub held : get_elem? view.held a ≡ some lane
  pub listed : get_elem? lane.changes k ≡ some c

-- the change stands somewhere
pub record Stands (views : List SeatView) (c : Change) : Type 0 where
  pub seat : ℕ
  pub index : ℕ
  pub place : ℕ
  pub at : StandsAt views seat index place c

-- the change was made: its serial is past the key's opening one, and the leaf has reached it, with its weight
pub record WasMade (o : Opening) (book : Book) (c : Change) : Type 0 where
  pub exists : c.key < 2 ^ o.shape.bits
  pub past_opening : opening_serial o.members c.key < c.serial
  pub entry : Entry
  pub reached : At book c.key c.serial entry
  pub weighs : entry.weight ≡ c.weight

-- each serial past the opening one that a leaf has reached is in the changes of exactly one view, once, and nothing else is in them
pub record AreCounted (o : Opening) (book : Book) (views : List SeatView) : Type 0 where
  pub all : (c : Change) → WasMade o book c → Stands views c
  pub once : (i j a b k l : ℕ) (c : Change) → StandsAt views i a k c → StandsAt views j b l c → (i ≡ j) × (a ≡ b) × (k ≡ l)
  pub none_else : (i a k : ℕ) (c : Change) → StandsAt views i a k c → WasMade o book c

-- how many changes each lane has: a lane has at most twice as many as its updates, and no serial is greater than the opening one plus the sum of all
pub record AreTallied (o : Opening) (words : List ℕ) (book : Book) (views : List SeatView) (tally : List ℕ) : Type 0 where
  pub long : length tally ≡ o.shape.workers
  pub each : (i a : ℕ) (v : SeatView) (h : Held) → get_elem? views i ≡ some v → get_elem? v.held a ≡ some h → length h.changes ≡ slice_index tally h.lane
  pub few : (lane : ℕ) → lane < o.shape.workers → slice_index tally lane ≤ 2 * o.shape.updates
  pub free : (lane : ℕ) → lane < o.shape.workers → slice_index words (lane_place o.shape lane) ≡ word_of_state Free → slice_index tally lane ≡ 0
  pub enough : (key : ℕ) → key < 2 ^ o.shape.bits → length (history_of book key) ≤ opening_serial o.members key + 1 + sum tally
