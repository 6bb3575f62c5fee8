-- What became of each record, and what is held of those that may be used again. Each record has one fate. Of each inner node the entries from a first one on
-- (`gone` counts those before) are in use: the root may still show them, and their records stand. A seat holds more by its reservation of an era: from the
-- entries that were in use when it made it, all that were made by then. A record leaves use in two steps. Who replaced its entry owns it from when the
-- root shows a later one, with the era that is then found; and writes it once each reservation was found to hold no era of its life. In a table that uses
-- no record again nothing is gone, and there are no reservations.
use Rattle.std.specs.Prelude.{◌≡◌, ◌⊎◌, ℕ, ◌+◌, ◌%◌, ◌^◌, ◌<◌, ◌≤◌, List, length, slice_index}
use mathlib.Core.Option.{some}
use lib.ListN.{get_elem?}
use Rattle.aug_core.specs.Places.{Shape, opening_count, record_start, record_count, record_words, era_place, reservation_place}
use Rattle.aug_core.specs.Addresses.{place_count, IsInner, left_of, right_of}
use Rattle.aug_core.specs.Book.{Book, history_of, At}
use Rattle.aug_core.specs.declared.view.Entry.{Entry}
use Rattle.aug_core.specs.declared.view.Held.{Held}
use Rattle.aug_core.specs.declared.view.Life.{Life}
use Rattle.aug_core.specs.declared.view.Owned.{Owned}
use Rattle.aug_core.specs.declared.view.Replaced.{Replaced}
use Rattle.aug_core.specs.declared.view.Reserved.{Reserved}
use Rattle.aug_core.specs.declared.view.SeatView.{SeatView}

-- it stands in the list
abbrev pub Lists : {A : Type 0} → List A → A → Type 0
Lists {A} list x = (i : ℕ) × (get_elem? list i ≡ some x)

-- the words of a record
abbrev pub HasWords : Shape → List ℕ → ℕ → List ℕ → Type 0
HasWords s words number of = (k : ℕ) → k < record_words → slice_index words (record_start s number + k) ≡ slice_index of k

-- what became of a record: it is an opening record that is never written; it stands in the history of a node, at an index; or a lane owns it, after this life
pub data Fate : Type 0 where
  at_opening : Fate
  standing : ℕ → ℕ → Fate
  owned_by : ℕ → Life → Fate

-- what holds for a record that a lane owns: the table has it, with these words, and it is that lane's alone
pub record OwnsRecord (s : Shape) (words : List ℕ) (fate : ℕ → Fate) (lane : ℕ) (x : Owned) : Type 0 where
  pub exists : x.number < record_count s
  pub long : length x.words ≡ record_words
  pub exact : HasWords s words x.number x.words
  pub fate_is : fate x.number ≡ owned_by lane x.life

-- a record of this fate stands in the history of the word q at the index i. An opening record that is never written does so as the first entry of any node
abbrev pub StandsAs : Shape → Fate → ℕ → ℕ → Type 0
StandsAs s f q i = (f ≡ standing q i) ⊎ ((s.reservations ≡ 0) × (f ≡ at_opening) × (i ≡ 0))

-- the record of an entry stands as it, with its words
pub record IsThere (s : Shape) (words : List ℕ) (fate : ℕ → Fate) (q i : ℕ) (e : Entry) : Type 0 where
  pub stands : StandsAs s (fate e.number) q i
  pub words_are : HasWords s words e.number e.words

-- what is said of entries from these indices on is said of those that they stand over
pub record IsClosed (s : Shape) (book : Book) (from : ℕ → ℕ) : Type 0 where
  pub below : (q i : ℕ) (e : Entry) → IsInner s q → At book q i e → from q ≤ i → (from (left_of s q) ≤ e.left) × (from (right_of s q) ≤ e.right)

-- the first era of a reservation: its word is that era alone, or that and all later ones, which is told by the upmost bit. So the word is no less than each of
-- its eras
abbrev pub first_era : ℕ → ℕ
first_era word = word % 2 ^ 63

-- the first entry of a place that a reservation holds
abbrev pub floor_of : Reserved → ℕ → ℕ
floor_of x q = slice_index x.floors q

-- a lane owns a record, but may not write it while this reservation stands: its era is one of the record's life, and was not passed
pub record Waits (fate : ℕ → Fate) (x : Reserved) (number : ℕ) : Type 0 where
  pub lane : ℕ
  pub life : Life
  pub fate_is : fate number ≡ owned_by lane life
  pub born : life.birth ≤ x.era
  pub died : first_era x.era ≤ life.death
  pub unscanned : life.scanned ≤ x.slot

-- what a reservation holds: each entry from its floors on that was made by its era has its words in the table
pub record Protects (s : Shape) (words : List ℕ) (fate : ℕ → Fate) (gone : ℕ → ℕ) (book : Book) (x : Reserved) : Type 0 where
  -- there is such a reservation, and its word is this
  pub exists : x.slot < s.reservations
  pub some_era : 0 < x.era
  pub word : slice_index words (reservation_place s x.slot) ≡ x.era
  -- of which the table has reached the first era
  pub not_late : first_era x.era ≤ slice_index words (era_place s)
  -- the floors are no higher than what is in use
  pub in_use : (q : ℕ) → floor_of x q ≤ gone q
  pub closed : IsClosed s book (floor_of x)
  pub holds : (q i : ℕ) (e : Entry) → IsInner s q → At book q i e → e.birth ≤ x.era → floor_of x q ≤ i → HasWords s words e.number e.words × (StandsAs s (fate e.number) q i ⊎ Waits fate x e.number)

-- what two reservations hold of a node is of different records
abbrev pub HoldsOnce : Shape → Book → Reserved → Reserved → Type 0
HoldsOnce s book x y = (q i j : ℕ) (e f : Entry) → IsInner s q → At book q i e → At book q j f → e.birth ≤ x.era → f.birth ≤ y.era → floor_of x q ≤ i → floor_of y q ≤ j → e.number ≡ f.number → i ≡ j

-- the lane to which a reservation belongs: each has as many, and the first ones of all lanes come first
abbrev pub lane_of : Shape → ℕ → ℕ
lane_of s slot = slot % s.workers

-- the lane is one that the view holds
pub record IsItsLane (v : SeatView) (lane : ℕ) : Type 0 where
  pub index : ℕ
  pub held : Held
  pub at : get_elem? v.held index ≡ some held
  pub is : held.lane ≡ lane

-- the entry was replaced from this lane, and its record stands
pub record IsReplaced (s : Shape) (words : List ℕ) (fate : ℕ → Fate) (book : Book) (lane : ℕ) (c : Replaced) : Type 0 where
  pub inner : IsInner s c.place
  pub entry : Entry
  pub next : Entry
  pub at : At book c.place c.index entry
  pub followed : At book c.place (c.index + 1) next
  pub made_by : next.maker ≡ lane
  pub numbered : entry.number ≡ c.number
  pub born : entry.birth ≡ c.birth
  pub said : entry.words ≡ c.words
  pub there : IsThere s words fate c.place c.index entry

-- what a view can count on
pub record KeepsView (s : Shape) (words : List ℕ) (fate : ℕ → Fate) (gone : ℕ → ℕ) (book : Book) (v : SeatView) : Type 0 where
  -- what it reserved is of a lane that it holds
  pub reserved : (x : Reserved) → Lists v.reserved x → IsItsLane v (lane_of s x.slot) × Protects s words fate gone book x
  -- and of the entries of a node that it holds no two are of one record
  pub once : (x y : Reserved) → Lists v.reserved x → Lists v.reserved y → HoldsOnce s book x y
  -- the era that it knows was reached
  pub reached : v.reached ≤ slice_index words (era_place s)
  -- the entries that were replaced from its lanes stand
  pub replaced : (a : ℕ) (h : Held) (c : Replaced) → get_elem? v.held a ≡ some h → Lists h.replaced c → IsReplaced s words fate book h.lane c

-- the records of a table
pub record KeepsRecords (s : Shape) (words : List ℕ) (fate : ℕ → Fate) (gone : ℕ → ℕ) (book : Book) : Type 0 where
  -- where no record is used again, nothing is gone, and the opening records stay
  pub none_gone : s.reservations ≡ 0 → (q : ℕ) → gone q ≡ 0
  pub opened : s.reservations ≡ 0 → (number : ℕ) → number < opening_count s → fate number ≡ at_opening
  -- what is in use stands over what is in use, and the newest entry is
  pub closed : IsClosed s book gone
  pub newest : (q : ℕ) → q < place_count s → gone q < length (history_of book q)
  -- the records of the entries that are in use stand
  pub there : (q i : ℕ) (e : Entry) → IsInner s q → At book q i e → gone q ≤ i → IsThere s words fate q i e
