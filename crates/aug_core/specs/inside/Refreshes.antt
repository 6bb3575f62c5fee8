-- One try to bring a node up to its children: what was loaded for it, what its record says, and what it left.
use Rattle.std.specs.Prelude.{◌≡◌, ◌≢◌, ℕ, zero, suc, ◌+◌, ◌≤◌, Bool, false, IsTrue, List, ◌++◌, length, slice_index}
use Rattle.aug_core.specs.Places.{Shape, record_start}
use Rattle.aug_core.specs.Addresses.{left_of, right_of}
use Rattle.aug_core.specs.Book.{Book, history_of, At, IsNewest, IsLastNamed, IsLoaded}
use Rattle.aug_core.specs.Effects.{storing}
use Rattle.aug_core.specs.declared.view.Entry.{Entry}
use Rattle.aug_core.specs.declared.view.SeatView.{SeatView}

-- an entry of the leaf or the node is named by the word
pub record HasEntry (book : Book) (q word : ℕ) : Type 0 where
  pub index : ℕ
  pub entry : Entry
  pub at : At book q index entry
  pub named : entry.word ≡ word

-- its newest entry is
pub record HasNewest (book : Book) (q word : ℕ) : Type 0 where
  pub index : ℕ
  pub entry : Entry
  pub newest : IsNewest book q index entry
  pub named : entry.word ≡ word
  pub shown : entry.passed ≡ false

-- the newest entry of the node stands over children that are no older than the newest ones of what was seen
pub record NewestCovers (s : Shape) (seen book : Book) (q : ℕ) : Type 0 where
  pub index : ℕ
  pub entry : Entry
  pub newest : IsNewest book q index entry
  pub left : length (history_of seen (left_of s q)) ≤ entry.left + 1
  pub right : length (history_of seen (right_of s q)) ≤ entry.right + 1

-- five words that say what was loaded
pub record SaysLoaded (face : ℕ → ℕ → List (ℕ × ℕ) → List ℕ) (s : Shape) (book : Book) (q old : ℕ) (five : List ℕ) : Type 0 where
  pub is_loaded : IsLoaded s book q old
  pub left_named : is_loaded.left.word ≡ slice_index five 0
  pub right_named : is_loaded.right.word ≡ slice_index five 1
  pub five_are : five ≡ face (slice_index five 0) (slice_index five 1) (is_loaded.left.pairs ++ is_loaded.right.pairs)

-- the view after storing the first words of a record, as many as the last argument says
abbrev pub stored : SeatView → ℕ → List ℕ → ℕ → SeatView
stored v number words zero = v
stored v number words (suc k) = storing (stored v number words k) (record_start (stored v number words k).shape number + k) (slice_index words k)

-- the node's newest entry stands over the last entries of its children with these words, if it was published; otherwise it is another entry than the one that was loaded
pub record Published (s : Shape) (q old left_word right_word : ℕ) (done : Bool) (book : Book) : Type 0 where
  pub index : ℕ
  pub entry : Entry
  pub newest : IsNewest book q index entry
  pub left_child : Entry
  pub right_child : Entry
  pub left_at : At book (left_of s q) entry.left left_child
  pub right_at : At book (right_of s q) entry.right right_child
  pub left_is : IsTrue done → left_child.word ≡ left_word
  pub right_is : IsTrue done → right_child.word ≡ right_word
  pub last : IsTrue done → IsLastNamed book (left_of s q) entry.left left_child × IsLastNamed book (right_of s q) entry.right right_child
  pub missed : done ≡ false → old ≢ entry.word

-- a try that succeeded made the node cover what was seen before it, and after one that did not the node has an entry more
pub record Refreshed (s : Shape) (seen : Book) (q : ℕ) (done : Bool) (book : Book) : Type 0 where
  pub covers : IsTrue done → NewestCovers s seen book q
  pub longer : done ≡ false → length (history_of seen q) + 1 ≤ length (history_of book q)
