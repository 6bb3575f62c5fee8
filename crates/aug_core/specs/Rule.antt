-- The rule of a table that was opened once: what its words and the views of its seats are between any two atomic steps. A view is what a seat knows:
-- a prefix of the book, the lanes that it holds with the records that each owns, which changes were accepted from it, and its steps. `Kept` is made of
-- parts, each about one thing. A seat that is dropped leaves its view behind, and the rule holds with it. In the example it says that the word at 4 is
-- the number of the newest entry of node 4, that this record stands there, and that its words are the entry's.
use Rattle.std.specs.Prelude.{◌≡◌, ℕ, ◌+◌, ◌<◌, ◌≤◌, List, [], length, slice_index, Some, None, true, false, replicate}
use mathlib.Core.Option.{some}
use lib.ListN.{get_elem?}
use Rattle.atomic_table.specs.Table.{State}
use Rattle.aug_core.specs.Places.{Shape, lane_place, record_start, word_count, record_words}
use Rattle.aug_core.specs.Addresses.{place_count}
use Rattle.aug_core.specs.Lanes.{new_lane, word_of_state}
use Rattle.aug_core.specs.Book.{Book, IsNewest, ArePrefixes, IsFresh, IsBook}
use Rattle.aug_core.specs.Opening.{Opening, IsIdle, shared_words, opening_book}
use Rattle.aug_core.specs.Counts.{AreCounted, AreTallied}
use Rattle.aug_core.specs.declared.view.Beginning.{Beginning}
use Rattle.aug_core.specs.declared.view.Entry.{Entry}
use Rattle.aug_core.specs.declared.view.Held.{Held}
use Rattle.aug_core.specs.declared.view.LaneState.TheVariants.{Ended}
use Rattle.aug_core.specs.Records.{Lists, HasWords, Fate, OwnsRecord, KeepsView, KeepsRecords}
use Rattle.aug_core.specs.declared.view.Owned.{Owned}
use Rattle.aug_core.specs.declared.opening.TableKey.{TableKey}
use Rattle.aug_core.specs.declared.view.SeatView.{SeatView}

-- the word of a leaf or a node is the one that names its newest entry, which is not passed over
pub record NamesNewest (words : List ℕ) (book : Book) (q : ℕ) : Type 0 where
  pub index : ℕ
  pub entry : Entry
  pub newest : IsNewest book q index entry
  pub word : slice_index words q ≡ entry.word
  pub shown : entry.passed ≡ false

-- what holds for a lane that a view holds
pub record HoldsLane (s : Shape) (words : List ℕ) (fate : ℕ → Fate) (h : Held) : Type 0 where
  -- it is one of the table's
  pub exists : h.lane < s.workers
  -- its word is as the view has it
  pub state : slice_index words (lane_place s h.lane) ≡ word_of_state h.state
  -- and so are the records that it owns
  pub owns : (x : Owned) → Lists h.owned x → OwnsRecord s words fate h.lane x

-- what holds for each view
pub record Knows (o : Opening) (words : List ℕ) (fate : ℕ → Fate) (gone : ℕ → ℕ) (book : Book) (v : SeatView) : Type 0 where
  -- a view of a seat that was not joined knows how the table is laid out
  pub shaped : v.live ≡ true → v.shape ≡ o.shape
  -- and which keys it opened with
  pub same_members : v.live ≡ true → v.members ≡ o.members
  -- each history that it has seen is a prefix of that in the book
  pub saw : ArePrefixes v.seen book
  -- and so is each history that the seat that it took in had seen
  pub also_saw : ArePrefixes v.also book
  -- an entry that came after what the view has seen was published when the children showed at least what the view has seen of them
  pub fresh : IsFresh o.shape book v.seen
  -- each lane that it holds is as it has it
  pub holds : (a : ℕ) (h : Held) → get_elem? v.held a ≡ some h → HoldsLane o.shape words fate h
  -- the lanes that it may still hand out are free, and their records hold what they held when it opened the table
  pub spares : (n lane : ℕ) → v.spare ≡ Some n → n ≤ lane → lane < o.shape.workers → HoldsLane o.shape words fate (new_lane o.shape v.words lane)
  -- what it reserved and replaced is there
  pub records : KeepsView o.shape words fate gone book v

-- the words of the leaves and of the nodes are as the book says
pub record KeepsTree (face : ℕ → ℕ → List (ℕ × ℕ) → List ℕ) (o : Opening) (words : List ℕ) (book : Book) : Type 0 where
  -- the table has its words
  pub wide : length words ≡ word_count o.shape
  -- `book` is a book, and it begins as the table was opened
  pub is_book : IsBook face o.shape book
  pub opened : ArePrefixes (opening_book face o) book
  -- the word of a leaf or a node is the one that names its newest entry
  pub newest : (q : ℕ) → q < place_count o.shape → NamesNewest words book q
  -- where no record is used again, the words of a level's empty record are `shared_words`, even if no node opens with it
  pub shared : o.shape.reservations ≡ 0 → (level : ℕ) → level < o.shape.bits → HasWords o.shape words level (shared_words face level)
  -- and the words of an own opening record that no node opens with are zeros
  pub idle : o.shape.reservations ≡ 0 → (number k : ℕ) → IsIdle o number → k < record_words → slice_index words (record_start o.shape number + k) ≡ 0

-- which view holds which lane
pub record AreApart (views : List SeatView) : Type 0 where
  -- a lane is held once in all views
  pub one_holder : (i j a b : ℕ) (v w : SeatView) (h g : Held) → get_elem? views i ≡ some v → get_elem? views j ≡ some w → get_elem? v.held a ≡ some h → get_elem? w.held b ≡ some g → h.lane ≡ g.lane → (i ≡ j) × (a ≡ b)
  -- at most one view hands lanes out
  pub one_lead : (i j n m : ℕ) (v w : SeatView) → get_elem? views i ≡ some v → get_elem? views j ≡ some w → v.spare ≡ Some n → w.spare ≡ Some m → i ≡ j
  -- a lane that is held was handed out
  pub handed_out : (i j a n : ℕ) (v w : SeatView) (h : Held) → get_elem? views i ≡ some v → get_elem? views j ≡ some w → v.spare ≡ Some n → get_elem? w.held a ≡ some h → h.lane < n

-- the accepted changes
pub record KeepsChanges (o : Opening) (words : List ℕ) (book : Book) (views : List SeatView) : Type 0 where
  -- each change is counted once
  pub counted : AreCounted o book views
  -- and where no record is used again, `tally` has the number of each lane's changes
  pub tally : List ℕ
  pub tallied : o.shape.reservations ≡ 0 → AreTallied o words book views tally

-- the rule
pub record Kept (face : ℕ → ℕ → List (ℕ × ℕ) → List ℕ) (o : Opening) (s : State (Unit {0}) SeatView) : Type 0 where
  pub book : Book
  -- the words of the tree are as the book says
  pub tree : KeepsTree face o s.words book
  -- each record has one fate, and what somebody may read is there
  pub fate : ℕ → Fate
  pub gone : ℕ → ℕ
  pub records : KeepsRecords o.shape s.words fate gone book
  -- a lane is free, taken or ended
  pub states : (lane : ℕ) → lane < o.shape.workers → slice_index s.words (lane_place o.shape lane) ≤ word_of_state Ended
  -- each view is right
  pub each_view : (j : ℕ) (v : SeatView) → get_elem? s.views j ≡ some v → Knows o s.words fate gone book v
  -- no two of them hold one lane
  pub apart : AreApart s.views
  -- all changes are counted
  pub changes : KeepsChanges o s.words book s.views

-- no update began yet
abbrev pub no_beginning : Beginning
no_beginning = record { seen = []; steps = []; changes = [] }

-- the view of the first seat, which hands all lanes out
abbrev pub newcomer : (ℕ → ℕ → List (ℕ × ℕ) → List ℕ) → TableKey → SeatView
newcomer face k = record { live = true; era = 0; past = []; shape = k.opening.shape; base = 0; members = k.opening.members; seen = opening_book face k.opening; also = []; told = None; held = []; spare = Some 0; reads = false; lent = []; words = []; reserved = []; reached = 0; whole = replicate k.words 0; began = no_beginning; steps = [] }
