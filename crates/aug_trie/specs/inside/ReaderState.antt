-- What the fields of a reader keep.
use Rattle.std.specs.Prelude.{◌≡◌, ℕ, Option, Some, List}
use Rattle.aug_words.specs.Seats.{Known}
use Rattle.aug_trie.specs.inside.Goes.{KnowsRecords}

-- a reader that has its words, which knows its table
pub record HoldsReader (face : ℕ → ℕ → List (ℕ × ℕ) → List ℕ) (words : Option Known) (bits : ℕ) : Type 0 where
  pub known : Known
  pub there : words ≡ Some known
  pub bits_are : bits ≡ known.view.shape.bits
  pub knows_records : KnowsRecords face known.view
