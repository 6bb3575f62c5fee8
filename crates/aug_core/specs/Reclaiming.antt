-- What the steps show that only a table has which uses records again. A seat loads the era, or turns it to the next; it reserves an era that was reached, and
-- lets go of it; what it replaced becomes its own with the era that it loads once the root shows later entries; and each load of a reservation
-- passes those of its own records that this one does not hold.
use Rattle.std.specs.Prelude.{◌≡◌, ℕ, ◌+◌, ◌<◌, ◌≤◌, ◌==◌, Bool, false, nat_lt, nat_le, not, if◌then◌else◌, List, [], ◌∷◌, ◌++◌, length, map, slice_index}
use Rattle.std.specs.List.{filter, range_with_len}
use Rattle.atomic_table.specs.Table.{Step}
use Rattle.aug_core.specs.Places.{record_words, reservation_place}
use Rattle.aug_core.specs.Addresses.{place_count, IsInner, left_of, right_of}
use Rattle.aug_core.specs.Book.{history_of, At}
use Rattle.aug_core.specs.Records.{IsClosed, first_era, floor_of, Lists}
use Rattle.aug_core.specs.Kinds.{load_era, turn_era, load_reservation, store_reservation}
use Rattle.aug_core.specs.Effects.{Sat, on_first}
use Rattle.aug_core.specs.declared.step.StepTaken.{StepTaken}
use Rattle.aug_core.specs.declared.view.Entry.{Entry}
use Rattle.aug_core.specs.declared.view.Held.{Held}
use Rattle.aug_core.specs.declared.view.Life.{Life}
use Rattle.aug_core.specs.declared.view.Owned.{Owned}
use Rattle.aug_core.specs.declared.view.Replaced.{Replaced}
use Rattle.aug_core.specs.declared.view.Reserved.{Reserved}
use Rattle.aug_core.specs.declared.view.SeatView.{SeatView}

-- the view after it found that an era was reached
abbrev pub reaching : SeatView → ℕ → StepTaken → SeatView
reaching v era taken = record v { reached = era; steps = v.steps ++ taken ∷ [] }

-- a loaded era is no earlier than one that was known
abbrev pub loaded_era : Step (Unit {0}) → Sat → ℕ → Sat → Type 0
loaded_era st m r m' = (m'.1 ≡ []) × (m'.0 ≡ reaching m.0 r (load_era st.word r)) × (m.0.reached ≤ r)

-- the era went to the next, or was another one already
abbrev pub turned_era : Step (Unit {0}) → Sat → ℕ → Sat → Type 0
turned_era st m r m' = (m'.1 ≡ []) × (m'.0 ≡ reaching m.0 (if r == st.first then r + 1 else r) (turn_era st.word st.first r)) × (m.0.reached ≤ r)

-- the reservations but that with this place among all
abbrev pub but_slot : ℕ → List Reserved → List Reserved
but_slot slot xs = filter (λ x. not (x.slot == slot)) xs

-- the view reserved an era: it holds what was in use at that moment, as far as it was made by then, and what comes to be named in place of that. Its other
-- reservations stay
pub record Reserves (v : SeatView) (slot era : ℕ) (w : SeatView) : Type 0 where
  pub now : Reserved
  pub stepped : w ≡ record v { reserved = now ∷ but_slot slot v.reserved; steps = v.steps ++ store_reservation (reservation_place v.shape slot) era ∷ [] }
  pub slot_is : now.slot ≡ slot
  pub era_is : now.era ≡ era
  pub closed : IsClosed v.shape v.seen (floor_of now)

abbrev pub reserved_era : Step (Unit {0}) → Sat → ℕ → Sat → Type 0
reserved_era st m r m' = (slot : ℕ) → st.word ≡ reservation_place m.0.shape slot → (m'.1 ≡ []) × Reserves m.0 slot st.first m'.0

-- and let go of it: 0 is no era
abbrev pub releasing : SeatView → ℕ → SeatView
releasing v slot = record v { reserved = but_slot slot v.reserved; steps = v.steps ++ store_reservation (reservation_place v.shape slot) 0 ∷ [] }

abbrev pub released_era : Step (Unit {0}) → Sat → ℕ → Sat → Type 0
released_era st m r m' = (slot : ℕ) → st.word ≡ reservation_place m.0.shape slot → (m'.1 ≡ []) × (m'.0 ≡ releasing m.0 slot)

-- the view has seen the root show, for each place, an entry from these indices on, and all that was replaced from its lane is before them
pub record ShowsLater (v : SeatView) (lane : Held) : Type 0 where
  pub from : ℕ → ℕ
  pub reached : (q : ℕ) → q < place_count v.shape → from q < length (history_of v.seen q)
  pub over : (q : ℕ) → IsInner v.shape q → (e : Entry) × At v.seen q (from q) e × (from (left_of v.shape q) ≤ e.left) × (from (right_of v.shape q) ≤ e.right)
  pub past : (c : Replaced) → Lists lane.replaced c → c.index < from c.place

-- a record that a lane comes to own once the root shows a later entry, in this era
abbrev pub retired_in : ℕ → Replaced → Owned
retired_in era c = record { number = c.number; words = map (λ k. slice_index c.words k) (range_with_len 0 record_words); life = record { birth = c.birth; death = era; scanned = 0 } }

abbrev pub retiring_in : ℕ → Held → Held
retiring_in era h = record h { owned = h.owned ++ map (retired_in era) h.replaced; replaced = [] }

-- the view after all that was replaced from its lane became its own
abbrev pub retiring : SeatView → ℕ → StepTaken → SeatView
retiring v era taken = record v { held = on_first (retiring_in era) v.held; reached = era; steps = v.steps ++ taken ∷ [] }

abbrev pub retired : Step (Unit {0}) → Sat → ℕ → Sat → Type 0
retired st m r m' = (m'.1 ≡ []) × (m'.0 ≡ retiring m.0 r (load_era st.word r)) × (m.0.reached ≤ r)

-- a reservation of an era holds what lived then, and one of all from an era on what lived then or later; 0 holds nothing
abbrev pub holds_in : ℕ → Life → Bool
holds_in era life = if nat_lt 0 era then (if nat_le life.birth era then nat_le (first_era era) life.death else false) else false

-- a life of which the reservations before this one are known not to hold it, once this one is known not to
abbrev pub passed_if : Bool → Bool → ℕ → Life → Life
passed_if next held slot life = if next then (if held then life else record life { scanned = slot + 1 }) else life

abbrev pub passing : ℕ → ℕ → Life → Life
passing slot era life = passed_if (life.scanned == slot) (holds_in era life) slot life

abbrev pub passed_record : ℕ → ℕ → Owned → Owned
passed_record slot era x = record x { life = passing slot era x.life }

abbrev pub scanning_in : ℕ → ℕ → Held → Held
scanning_in slot era h = record h { owned = map (passed_record slot era) h.owned }

-- the view after it loaded a reservation
abbrev pub scanning : SeatView → ℕ → ℕ → StepTaken → SeatView
scanning v slot era taken = record v { held = on_first (scanning_in slot era) v.held; steps = v.steps ++ taken ∷ [] }

abbrev pub scanned : Step (Unit {0}) → Sat → ℕ → Sat → Type 0
scanned st m r m' = (slot : ℕ) → st.word ≡ reservation_place m.0.shape slot → (m'.1 ≡ []) × (m'.0 ≡ scanning m.0 slot r (load_reservation st.word r))
