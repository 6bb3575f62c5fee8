-- Which serial of a key an entry shows, by the entries below it.
use Rattle.std.specs.Prelude.{ℕ, zero, suc, ◌+◌, ◌/◌, ◌%◌, ◌^◌, ◌≤◌, ◌==◌, if◌then◌else◌}
use Rattle.aug_core.specs.Places.{Shape}
use Rattle.aug_core.specs.Book.{Book, At, IsNewest}
use Rattle.aug_core.specs.declared.view.Entry.{Entry}

-- the word above a key at a level, the key's leaf at level 0
abbrev pub above : Shape → ℕ → ℕ → ℕ
above s key zero = key
above s key (suc level) = 2 ^ s.bits + above s key level / 2

-- the index of the child's entry on the way to the key
abbrev pub toward : Entry → ℕ → ℕ
toward e child = if child % 2 == 0 then e.left else e.right

-- the entry i of the word above the key at this level shows a serial of the key that is at least n
abbrev pub Shows : Shape → Book → ℕ → ℕ → ℕ → ℕ → Type 0
Shows s book key zero i n = ((e : Entry) × At book key i e) × (n ≤ i)
Shows s book key (suc level) i n = (e : Entry) × At book (above s key (suc level)) i e × Shows s book key level (toward e (above s key level)) n

-- the newest entry of the word above the key at this level shows it
pub record NewestShows (s : Shape) (book : Book) (key level n : ℕ) : Type 0 where
  pub index : ℕ
  pub entry : Entry
  pub newest : IsNewest book (above s key level) index entry
  pub shows : Shows s book key level index n

-- whatever the key's leaf was seen to have reached is shown at the level
pub record Lifts (s : Shape) (seen book : Book) (key level : ℕ) : Type 0 where
  pub lifted : (n : ℕ) → NewestShows s seen key 0 n → NewestShows s book key level n

-- no serial that the root showed of the key is past this one
pub record ShowsAtMost (s : Shape) (seen : Book) (key most : ℕ) : Type 0 where
  pub at_most : (i n : ℕ) → Shows s seen key s.bits i n → n ≤ most
