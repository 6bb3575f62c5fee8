-- What a pass, or a crew, knows of a round. A pass that put 0 into the example knows two cuts and the change of key 0 to serial 1.
use Rattle.std.specs.Prelude.{◌≡◌, ◌⊎◌, ℕ, ◌%◌, ◌<◌, ◌==◌, List, length, filter, All}
use Rattle.aug_core.specs.declared.view.Change.{Change}
use Rattle.aug_core.specs.Cuts.{Cut, serial_of, shown_of}
use Rattle.aug_trie.specs.History.{IsHistory, last_cut}

-- a change stands in a cut that shows a later serial, or its serial and its weight
abbrev pub StandsIn : Cut → Change → Type 0
StandsIn cut change = (change.serial < serial_of cut change.key) ⊎ (shown_of cut change.key ≡ (change.serial, change.weight))

-- an insertion's serial is odd, and leaves 1 when divided by 2
abbrev pub insertion : ℕ
insertion = 1

-- a removal's is even, and leaves 0
abbrev pub removal : ℕ
removal = 0

-- how many of the changes are insertions
abbrev pub inserts_of : List Change → ℕ
inserts_of changes = length (filter (λ change. change.serial % 2 == insertion) changes)

-- how many are removals
abbrev pub removals_of : List Change → ℕ
removals_of changes = length (filter (λ change. change.serial % 2 == removal) changes)

-- the history so far, and the changes that were accepted
pub record Knowledge : Type 0 where
  pub history : List Cut
  pub accepted : List Change

-- the history is one of the round, and the last cut shows all that was accepted
pub record IsKnowledge (bits : ℕ) (members : List (ℕ × ℕ)) (knows : Knowledge) : Type 0 where
  pub is_history : IsHistory bits members knows.history
  pub stands : All (StandsIn (last_cut knows.history)) knows.accepted
