-- What the entries of leaves weigh.
use Rattle.std.specs.Prelude.{◌≡◌, ℕ}
use Rattle.aug_core.specs.Book.{Book, At}
use Rattle.aug_core.specs.declared.view.Entry.{Entry}

-- opaque: the leaf's entry with this serial has this weight
pub record WeighsAt (book : Book) (key serial weight : ℕ) : Type 0 where
  pub entry : Entry
  pub at : At book key serial entry
  pub weighs : entry.weight ≡ weight
