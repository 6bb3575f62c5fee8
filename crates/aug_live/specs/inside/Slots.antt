-- What the ends of a slot's lock know.
use Rattle.std.specs.Prelude.{◌≡◌, ◌⊎◌, ℕ, List, length, Option, Some, None}
use mathlib.Core.Option.{some}
use lib.ListN.{get_elem?}
use Rattle.aug_trie.specs.Round.{TableFacts}

-- each end knows the table that the slot's round is of, but for the first one, as long as it is alone
abbrev pub OnSlot : TableFacts → List (Option TableFacts) → Type 0
OnSlot slot views = (j : ℕ) (v : Option TableFacts) → get_elem? views j ≡ some v → (v ≡ Some slot) ⊎ ((v ≡ None) × (length views ≡ 1))
