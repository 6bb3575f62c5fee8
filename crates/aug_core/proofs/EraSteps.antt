-- The steps of a seat that is at work, under the rule of all eras.
use Rattle.std.proofs.Common.{true, ◌≡◌, refl, ℕ, ◌+◌, ◌^◌, ◌<◌, ◌≤◌, List, [], eqb}
use mathlib.Core.Option.{none}
use prog.Atomic.{either}
use Rattle.atomic_table.specs.Table.{step, Allows}
use Rattle.aug_core.specs.Places.{Shape, record_start, record_words, word_count, era_place, reservation_place}
use Rattle.aug_core.specs.Addresses.{IsInner}
use Rattle.aug_core.specs.Lanes.{word_of_state}
use Rattle.aug_core.specs.Eras.{IsAtWork, Ruled}
use Rattle.aug_core.specs.Reclaiming.{loaded_era, turned_era, reserved_era, released_era, retired, scanned, ShowsLater}
use Rattle.aug_core.specs.inside.Reclaims.{MayReserve}
use Rattle.aug_core.specs.Book.{word_of_node}
use Rattle.aug_core.specs.Records.{first_era}
use Rattle.aug_core.specs.Effects.{Sat, HoldsOnly, in_part, read_record, MayStore, stored_record, own_lane_place, took_lane, finished_lane, loaded_leaf, began_at_leaf, MayChange, old_word, new_word, IsAdvance, KnowsSerial, tried_leaf, loaded_node, IsFilled, tried_node}
use Rattle.aug_core.specs.inside.LaneStates.{MayTake, HasTakenLane}
use Rattle.aug_core.specs.declared.view.Advance.{Advance}
use Rattle.aug_core.specs.declared.view.Held.{Held}
use Rattle.aug_core.specs.declared.view.LaneState.TheVariants.{Free, Taken, Ended}
use Rattle.aug_core.specs.Learning.{loaded_after_note}
use Rattle.aug_core.proofs.Eras.{holds_lane, in_its_era, hears_in_its_era}
use Rattle.aug_core.proofs.Loads as load
use Rattle.aug_core.proofs.Stores as store
use Rattle.aug_core.proofs.States as state
use Rattle.aug_core.proofs.Leaves as leaf
use Rattle.aug_core.proofs.Nodes as node
use Rattle.aug_core.proofs.Reserving as reserve
use Rattle.aug_core.proofs.Retiring as retire
use Rattle.aug_core.proofs.Scanning as scan

module _ (face : ℕ → ℕ → List (ℕ × ℕ) → List ℕ) (shape : Shape) (n id : ℕ) where
  pub loads_record_word : (place i : ℕ) (me : Sat) → IsAtWork me.0 → me.0.live ≡ true → me.1 ≡ [] → place < word_count me.0.shape → i ≡ me.0.base + place → Allows (Ruled face shape) n id me i (λ x. x) (in_part read_record (step n i 0 0 none) me)
  loads_record_word place i me work live empty inside at = in_its_era face shape n id place i me (λ x. x) (λ w. read_record (step n w 0 0 none) me) work live inside at (λ o. load.loads_record_word face o n id place me live empty)

  pub loads_leaf : (place i : ℕ) (me : Sat) → IsAtWork me.0 → me.0.live ≡ true → me.1 ≡ [] → place < word_count me.0.shape → i ≡ me.0.base + place → Allows (Ruled face shape) n id me i (λ x. x) (in_part (loaded_leaf face) (step n i 0 0 none) me)
  loads_leaf place i me work live empty inside at = in_its_era face shape n id place i me (λ x. x) (λ w. loaded_leaf face (step n w 0 0 none) me) work live inside at (λ o. load.loads_leaf face o n id place me live empty)

  pub begins_at_leaf : (place i : ℕ) (me : Sat) → IsAtWork me.0 → me.0.live ≡ true → me.1 ≡ [] → place < word_count me.0.shape → i ≡ me.0.base + place → Allows (Ruled face shape) n id me i (λ x. x) (in_part (began_at_leaf face) (step n i 0 0 none) me)
  begins_at_leaf place i me work live empty inside at = in_its_era face shape n id place i me (λ x. x) (λ w. began_at_leaf face (step n w 0 0 none) me) work live inside at (λ o. load.begins_at_leaf face o n id place me live empty)

  pub loads_node : (place i : ℕ) (me : Sat) → IsAtWork me.0 → me.0.live ≡ true → me.1 ≡ [] → place < word_count me.0.shape → i ≡ me.0.base + place → Allows (Ruled face shape) n id me i (λ x. x) (in_part (loaded_node face) (step n i 0 0 none) me)
  loads_node place i me work live empty inside at = in_its_era face shape n id place i me (λ x. x) (λ w. loaded_node face (step n w 0 0 none) me) work live inside at (λ o. load.loads_node face o n id place me live empty)

  pub loads_after_note : (place i : ℕ) (me : Sat) → IsAtWork me.0 → me.0.live ≡ true → me.1 ≡ [] → place < word_count me.0.shape → i ≡ me.0.base + place → Allows (Ruled face shape) n id me i (λ x. x) (in_part (loaded_after_note face) (step n i 0 0 none) me)
  loads_after_note place i me work live empty inside at = hears_in_its_era face shape n id place i me (λ x. x) (λ w. loaded_node face (step n w 0 0 none) me) work live inside at (λ o. load.loads_node face o n id place me live empty)

  pub stores_record_word : (place i number field x : ℕ) (me : Sat) → me.0.live ≡ true → me.1 ≡ [] → place < word_count me.0.shape → i ≡ me.0.base + place → HasTakenLane me.0 → MayStore me.0 number → field < record_words → place ≡ record_start me.0.shape number + field
      → Allows (Ruled face shape) n id me i (λ _. x) (λ _. in_part stored_record (step n i x 0 none) me x)
  stores_record_word place i number field x me live empty inside at has may small is = in_its_era face shape n id place i me (λ _. x) (λ w _ m. stored_record (step n w x 0 none) me x m) (holds_lane me.0 has.lane has.only) live inside at
      (λ o. store.stores_record_word face o n id place number field x me live empty has may small is)

  pub takes_lane : (place i : ℕ) (me : Sat) → me.0.live ≡ true → me.1 ≡ [] → place < word_count me.0.shape → i ≡ me.0.base + place → MayTake me.0 → place ≡ own_lane_place me.0
      → Allows (Ruled face shape) n id me i (λ x. either (eqb x (word_of_state Free)) (word_of_state Taken) x) (in_part took_lane (step n i (word_of_state Free) (word_of_state Taken) none) me)
  takes_lane place i me live empty inside at may is = in_its_era face shape n id place i me (λ x. either (eqb x (word_of_state Free)) (word_of_state Taken) x) (λ w. took_lane (step n w (word_of_state Free) (word_of_state Taken) none) me)
      (holds_lane me.0 may.lane may.only) live inside at (λ o. state.takes_lane face o n id place me live empty may is)

  pub finishes_lane : (place i : ℕ) (me : Sat) → me.0.live ≡ true → me.1 ≡ [] → place < word_count me.0.shape → i ≡ me.0.base + place → HasTakenLane me.0 → place ≡ own_lane_place me.0
      → Allows (Ruled face shape) n id me i (λ _. word_of_state Ended) (λ _. in_part finished_lane (step n i (word_of_state Ended) 0 none) me (word_of_state Ended))
  finishes_lane place i me live empty inside at has is = in_its_era face shape n id place i me (λ _. word_of_state Ended) (λ w _ m. finished_lane (step n w (word_of_state Ended) 0 none) me (word_of_state Ended) m)
      (holds_lane me.0 has.lane has.only) live inside at (λ o. state.finishes_lane face o n id place me live empty has is)

  pub allows_leaf : (key i old new : ℕ) (b : Advance) (me : Sat) → old ≡ old_word b → new ≡ new_word b → me.0.live ≡ true → me.1 ≡ [] → key < word_count me.0.shape → i ≡ me.0.base + key → key < 2 ^ me.0.shape.bits → HasTakenLane me.0 → MayChange me.0
      → KnowsSerial me.0 key b → IsAdvance b → Allows (Ruled face shape) n id me i (λ z. either (eqb z old) new z) (in_part (tried_leaf face) (step n i old new none) me)
  allows_leaf key i old new b me from to live empty inside at low has may known is = in_its_era face shape n id key i me (λ z. either (eqb z old) new z) (λ w. tried_leaf face (step n w old new none) me)
      (holds_lane me.0 has.lane has.only) live inside at (λ o. leaf.allows_leaf face o n id key old new b me from to live empty low has may known is)

  pub tries_node : (q i old birth number new : ℕ) (me : Sat) → new ≡ word_of_node me.0.shape birth number → me.0.live ≡ true → me.1 ≡ [] → q < word_count me.0.shape → i ≡ me.0.base + q → IsInner me.0.shape q → HasTakenLane me.0 → MayStore me.0 number → IsFilled face me.0 q old birth number
      → Allows (Ruled face shape) n id me i (λ x. either (eqb x old) new x) (in_part (tried_node face) (step n i old new none) me)
  tries_node q i old birth number new me named live empty inside at inner has may c = in_its_era face shape n id q i me (λ x. either (eqb x old) new x) (λ w. tried_node face (step n w old new none) me)
      (holds_lane me.0 has.lane has.only) live inside at (λ o. node.allows_node face o n id q old birth number new me named live empty inner has may c)

  -- where records are used again

  pub loads_era : (place i : ℕ) (me : Sat) → IsAtWork me.0 → me.0.live ≡ true → me.1 ≡ [] → place < word_count me.0.shape → i ≡ me.0.base + place → place ≡ era_place me.0.shape → Allows (Ruled face shape) n id me i (λ x. x) (in_part loaded_era (step n i 0 0 none) me)
  loads_era place i me work live empty inside at is = in_its_era face shape n id place i me (λ x. x) (λ w. loaded_era (step n w 0 0 none) me) work live inside at (λ o. reserve.loads_era face o n id place me live empty is)

  pub turns_era : (place i era : ℕ) (me : Sat) → IsAtWork me.0 → me.0.live ≡ true → me.1 ≡ [] → place < word_count me.0.shape → i ≡ me.0.base + place → 0 < me.0.shape.reservations → place ≡ era_place me.0.shape
      → Allows (Ruled face shape) n id me i (λ x. either (eqb x era) (era + 1) x) (in_part turned_era (step n i era (era + 1) none) me)
  turns_era place i era me work live empty inside at used is = in_its_era face shape n id place i me (λ x. either (eqb x era) (era + 1) x) (λ w. turned_era (step n w era (era + 1) none) me) work live inside at
      (λ o. reserve.turns_era face o n id place era me live empty used is)

  pub reserves_era : (place i slot era : ℕ) (me : Sat) → me.0.live ≡ true → me.1 ≡ [] → place < word_count me.0.shape → i ≡ me.0.base + place → MayReserve me.0 slot → place ≡ reservation_place me.0.shape slot → 0 < era → first_era era ≤ me.0.reached
      → Allows (Ruled face shape) n id me i (λ _. era) (λ _. in_part reserved_era (step n i era 0 none) me era)
  reserves_era place i slot era me live empty inside at may is some_era known = in_its_era face shape n id place i me (λ _. era) (λ w _ m. reserved_era (step n w era 0 none) me era m) (holds_lane me.0 may.lane may.only) live inside at
      (λ o. reserve.reserves_era face o n id place slot era me live empty may is some_era known)

  pub releases_era : (place i slot : ℕ) (me : Sat) → me.0.live ≡ true → me.1 ≡ [] → place < word_count me.0.shape → i ≡ me.0.base + place → MayReserve me.0 slot → place ≡ reservation_place me.0.shape slot
      → Allows (Ruled face shape) n id me i (λ _. 0) (λ _. in_part released_era (step n i 0 0 none) me 0)
  releases_era place i slot me live empty inside at may is = in_its_era face shape n id place i me (λ _. 0) (λ w _ m. released_era (step n w 0 0 none) me 0 m) (holds_lane me.0 may.lane may.only) live inside at
      (λ o. reserve.releases_era face o n id place slot 0 me live empty may is refl)

  pub retires : (place i : ℕ) (me : Sat) (h : Held) → me.0.live ≡ true → me.1 ≡ [] → place < word_count me.0.shape → i ≡ me.0.base + place → HoldsOnly me.0 h → 0 < me.0.shape.reservations → ShowsLater me.0 h → place ≡ era_place me.0.shape
      → Allows (Ruled face shape) n id me i (λ x. x) (in_part retired (step n i 0 0 none) me)
  retires place i me h live empty inside at only used later is = in_its_era face shape n id place i me (λ x. x) (λ w. retired (step n w 0 0 none) me) (holds_lane me.0 h only) live inside at
      (λ o. retire.retires face o n id place me h live empty only used later is)

  pub scans : (place i slot : ℕ) (me : Sat) (h : Held) → me.0.live ≡ true → me.1 ≡ [] → place < word_count me.0.shape → i ≡ me.0.base + place → HoldsOnly me.0 h → place ≡ reservation_place me.0.shape slot
      → Allows (Ruled face shape) n id me i (λ x. x) (in_part scanned (step n i 0 0 none) me)
  scans place i slot me h live empty inside at only is = in_its_era face shape n id place i me (λ x. x) (λ w. scanned (step n w 0 0 none) me) (holds_lane me.0 h only) live inside at
      (λ o. scan.scans face o n id place slot me h live empty only is)
