-- Which words name the nodes of a snapshot's tree.
use Rattle.std.specs.Prelude.{◌≡◌, ℕ}
use Rattle.aug_core.specs.Addresses.{IsInner}
use Rattle.aug_core.specs.Places.{Shape}
use Rattle.aug_core.specs.Effects.{Covers}
use Rattle.aug_core.specs.declared.view.SeatView.{SeatView}
use Rattle.aug_core.specs.Book.{Book}
use Rattle.aug_core.specs.Cuts.{Cut}
use Rattle.aug_core.specs.inside.EntryCuts.{entry_of, IsPartOfCut}

-- opaque: the word names an entry that stands below the cut, at the level and the place
pub record IsNodeAt (s : Shape) (book : Book) (cut : Cut) (level place word : ℕ) : Type 0 where
  pub q : ℕ
  pub index : ℕ
  pub part : IsPartOfCut s book cut level place q index
  pub named : (entry_of book q index).word ≡ word

-- and if that is of an inner node, the view covers it
pub record HoldsNodeAt (v : SeatView) (cut : Cut) (level place word : ℕ) : Type 0 where
  pub node : IsNodeAt v.shape v.seen cut level place word
  pub covers : IsInner v.shape node.q → Covers v node.q node.index (entry_of v.seen node.q node.index)
