-- Which entries stand in the tree of an entry of the root, level by level, and which words name them.
use Rattle.std.specs.Prelude.{◌≡◌, ℕ, zero, suc, ◌-◌, ◌/◌, ◌%◌, ◌==◌, Bool, if◌then◌else◌}
use Rattle.aug_core.specs.Places.{Shape, node_place}
use Rattle.aug_core.specs.Book.{Book}
use Rattle.aug_core.specs.inside.EntryCuts.{entry_of}
use Rattle.aug_core.specs.inside.RootCuts.{root_cut}
use Rattle.aug_core.specs.declared.view.Entry.{Entry}
use Rattle.aug_trie.specs.inside.NodeWords.{IsNodeAt}

-- the index of the child's entry on the side of a place
abbrev pub child_index : ℕ → Entry → ℕ
child_index place above = if place % 2 == 0 then above.left else above.right

-- the index of the entry at a place so many levels below the root's entry `top`
unfoldable pub index_under : Shape → Book → ℕ → ℕ → ℕ → ℕ
index_under s book top zero place = top
index_under s book top (suc down) place = child_index place (entry_of book (node_place s (s.bits - down) (place / 2)) (index_under s book top down (place / 2)))

-- the word that names the node at a level and a place of the tree of the root's entry `top`
abbrev pub word_under : Shape → Book → ℕ → ℕ → ℕ → ℕ
word_under s book top level place = (entry_of book (node_place s level place) (index_under s book top (s.bits - level) place)).word

-- opaque: whether two such trees have the same node there
abbrev pub same_under : Shape → Book → ℕ → ℕ → ℕ → ℕ → Bool
same_under s book top other level place = word_under s book top level place == word_under s book other level place

-- the word names the node at a level and a place of that tree
pub record IsNodeUnder (s : Shape) (book : Book) (top level place word : ℕ) : Type 0 where
  pub node : IsNodeAt s book (root_cut s book top) level place word
  pub under : node.index ≡ index_under s book top (s.bits - level) place
