-- The cut of the root's entry that a snapshot shows.
use Rattle.std.specs.Prelude.{◌≡◌, ℕ, ◌<◌, [], length, slice_index_or}
use Rattle.aug_model.specs.Keys.{SetFacts}
use Rattle.aug_core.specs.Places.{Shape}
use Rattle.aug_core.specs.Book.{Book, At}
use Rattle.aug_core.specs.Cuts.{Cut, pairs_of_cut}
use Rattle.aug_core.specs.Addresses.{root_place}
use Rattle.aug_core.specs.declared.view.Entry.{Entry}
use Rattle.aug_trie.specs.inside.Knows.{root_history, root_numbers}
use Rattle.aug_trie.specs.Snapshot.{index_in}
use Rattle.aug_trie.specs.declared.queries.snapshot.Snapshot.{Snapshot}

-- the set of a cut, with its bits
abbrev pub members_of : ℕ → Cut → SetFacts
members_of bits cut = record { bits = bits; pairs = pairs_of_cut cut }

-- the cut of the root's record with the snapshot's number
abbrev pub cut_named : Shape → Book → Snapshot → Cut
cut_named s book held = slice_index_or (root_history s book) (index_in (root_numbers s book) held) []

-- the root has a record with this number
abbrev pub HasNamed : Shape → Book → Snapshot → Type 0
HasNamed s book held = index_in (root_numbers s book) held < length (root_numbers s book)

-- the number names an entry of the root
pub record IsSnapshotOf (s : Shape) (book : Book) (number : ℕ) : Type 0 where
  pub index : ℕ
  pub entry : Entry
  pub at : At book (root_place s) index entry
  pub named : number ≡ entry.word
