-- The cut that an entry of the book shows: the serials that its leaves had reached, and their weights.
use Rattle.std.specs.Prelude.{◌≡◌, ℕ, ◌*◌, ◌^◌, ◌<◌, [], ◌∷◌, ◌++◌, length, slice_index_or, zero, suc}
use Rattle.aug_core.specs.Places.{Shape}
use Rattle.aug_core.specs.Addresses.{left_of, right_of}
use Rattle.aug_core.specs.inside.WordPlaces.{IsWord}
use Rattle.aug_core.specs.Book.{Book, history_of}
use Rattle.aug_core.specs.Opening.{serial_entry}
use Rattle.aug_core.specs.Cuts.{Cut}
use Rattle.aug_core.specs.declared.view.Entry.{Entry}

-- the entry i of a leaf or a node
abbrev pub entry_of : Book → ℕ → ℕ → Entry
entry_of book q i = slice_index_or (history_of book q) i (serial_entry 0 0 0)

-- the serials and weights of the keys below the entry i of a word at a level: a leaf's are its index and its weight, a node's are its left child's and then its right child's
abbrev pub cut_under : Shape → Book → ℕ → ℕ → ℕ → Cut
cut_under s book zero q i = (i, (entry_of book q i).weight) ∷ []
cut_under s book (suc level) q i = cut_under s book level (left_of s q) (entry_of book q i).left ++ cut_under s book level (right_of s q) (entry_of book q i).right

-- the entry i of the word q, which is that of the place on the level, stands below the cut: its own cut is the part of the cut that is of its keys
pub record IsPartOfCut (s : Shape) (book : Book) (cut : Cut) (level place q i : ℕ) : Type 0 where
  pub word : IsWord s level place q
  pub there : i < length (history_of book q)
  pub before : Cut
  pub after : Cut
  pub parts : cut ≡ before ++ (cut_under s book level q i ++ after)
  pub from : length before ≡ place * 2 ^ level
