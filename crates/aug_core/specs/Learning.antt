-- What it shows that a seat takes in a note. A note is a view that holds no lane (`noted` of `Effects`).
use Rattle.std.specs.Prelude.{ℕ, List, Some, IfSome}
use Rattle.atomic_table.specs.Table.{Step}
use Rattle.aug_core.specs.Effects.{Sat, loaded_node}
use Rattle.aug_core.specs.Pasts.{IsLearnt, learnt_of}
use Rattle.aug_core.specs.Eras.{seen_in}
use Rattle.aug_core.specs.declared.view.SeatView.{SeatView}

-- the view that takes in a note, after it. What a note of another era had seen is not of its own book
abbrev pub learning : SeatView → SeatView → SeatView
learning v w = record v { also = (seen_in v.era w).seen; told = Some (learnt_of w) }

module _ (face : ℕ → ℕ → List (ℕ × ℕ) → List ℕ) where
  -- a load of a node's word by a view that took in a note
  abbrev pub loaded_after_note : Step (Unit {0}) → Sat → ℕ → Sat → Type 0
  loaded_after_note st m r m' = loaded_node face st m r m' × IfSome m.0.told (IsLearnt m.0.shape m.0.era m.0.past m.0.members)
