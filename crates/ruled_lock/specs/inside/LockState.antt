-- The rule of the table of a lock, and what each step shows. Word 16 is 0 if the value is in the lock, in slot 8. No other word or slot is used. While a
-- seat holds the value, the caller's rule holds for the value that the seat took.
use Rattle.std.specs.Prelude.{◌≡◌, ◌≢◌, ℕ, ◌+◌, ◌<◌, List, [], ◌∷◌, map, length, slice_index, Option, Some, None, IfSome}
use mathlib.Core.Option.{some}
use lib.ListN.{get_elem?}
use Rattle.atomic_table.specs.Table.{State, Me, Step, rest}
use Rattle.ruled_lock.specs.declared.holding.Holding.{Holding}

module _ {T : Type 0} (word : ℕ) (value : T) (holder seat : ℕ) where
  -- what a seat has taken is the value, and only this seat has it
  abbrev pub KnowsValue : Option T → Type 0
  KnowsValue taken = IfSome taken (λ t. (0 < word) × (seat ≡ holder) × (t ≡ value))

abbrev pub client : {T V : Type 0} → Holding T V → V
client d = d.client

pub record IsLocked {T V : Type 0} (holds : T → List V → Type 0) (s : State (Option T) (Holding T V)) : Type 0 where
  pub value : T
  pub holder : ℕ
  pub wide : length s.words ≡ 33
  pub at_home : slice_index s.words 16 ≡ 0 → get_elem? s.homes 8 ≡ some (some (Some value))
  -- while the value is out its holder has taken it, so that no lock stays shut that nobody has shut
  pub held : 0 < slice_index s.words 16 → (d : Holding T V) × (get_elem? s.views holder ≡ some d) × (d.taken ≡ Some value)
  pub each_seat : (j : ℕ) (d : Holding T V) → get_elem? s.views j ≡ some d → KnowsValue (slice_index s.words 16) value holder j d.taken
  pub kept : holds value (map client s.views)

abbrev pub LockSeat : Type 0 → Type 0 → Type 0
LockSeat T V = Me (Option T) (Holding T V)

module _ {T V : Type 0} where
  abbrev pub doing : Option T → ℕ → V → Holding T V
  doing taken missed v = record { taken = taken; missed = missed; client = v }

  abbrev pub idle : V → Holding T V
  idle v = doing None 0 v

  -- the word was 0 and the slot was taken, or it was not, and nothing changed but the count of that
  abbrev pub tried : (V → T → Type 0) → Step (Option T) → LockSeat T V → ℕ → LockSeat T V → Type 0
  tried fact st m r m' = (r ≡ 0 → (t : T) × (m' ≡ (doing (Some t) m.0.missed m.0.client, (8, Some t) ∷ [])) × fact m.0.client t) × (r ≢ 0 → m' ≡ (doing m.0.taken (m.0.missed + 1) m.0.client, m.1))

  -- the slot was given back
  abbrev pub gave : (V → T → T → V → Type 0) → Step (Option T) → LockSeat T V → ℕ → LockSeat T V → Type 0
  gave then st m r m' = (m'.0.taken ≡ None) × (m'.1 ≡ rest m.1) × ((t y : T) → m.0.taken ≡ Some t → m.1 ≡ (8, Some y) ∷ [] → then m.0.client t y m'.0.client)
