-- A seat's own lane is taken, and is ended.
use Rattle.std.proofs.Common.{true, ◌≡◌, ℕ, ◌+◌, ◌<◌, ◌≤◌, ◌≢◌, List, [], ◌∷◌, ◌++◌, get_or, set, eqb, sym, refl, ap, ◌∙◌, subst, arith, get_or-set_other, get_or-set_same}
use mathlib.Core.Option.{none, some}
use lib.ListN.{get_elem?}
use prog.Atomic.{either}
use Rattle.atomic_table.specs.Table.{Act, Valid, carried_after, step, keeps, stepped, Allows}
use Rattle.atomic_table.proofs.Lists.{exchanged}
use Rattle.aug_core.specs.Places.{Shape, lane_place, record_start}
use Rattle.aug_core.specs.Lanes.{unborn, word_of_state}
use Rattle.aug_core.specs.Opening.{Opening}
use Rattle.aug_core.specs.Rule.{HoldsLane, Kept}
use Rattle.aug_core.specs.Kinds.{take_lane, finish_lane}
use Rattle.aug_core.specs.Effects.{Sat, on_first, in_state, own_lane, own_lane_place, taking, took_lane, finishing, finished_lane}
use Rattle.aug_core.specs.inside.EraSteps.{WithEra}
use Rattle.aug_core.specs.inside.LaneStates.{MayTake, HasTakenLane}
use Rattle.aug_core.specs.declared.step.StepTaken.{StepTaken}
use Rattle.aug_core.specs.declared.view.Held.{Held}
use Rattle.aug_core.specs.declared.view.LaneState.{LaneState}
use Rattle.aug_core.specs.declared.view.LaneState.TheVariants.{Taken, Ended, Free}
use Rattle.aug_core.specs.declared.view.SeatView.{SeatView}
use Rattle.aug_core.proofs.Keeping.{keeps_as, view_on}
use Rattle.aug_core.proofs.Moves.{St, IsOwnWord, own_leaves, own_slots, own_moves, moves_on, knows_keeping}
use Rattle.aug_core.proofs.Stores.{alone, one_lane, one_reserves}
use Rattle.aug_core.proofs.ReaderCounts.{still_works}

module _ (face : ℕ → ℕ → List (ℕ × ℕ) → List ℕ) (o : Opening) where
  module _ (s : St) (r : Kept face o s) (id : ℕ) (v : SeatView) (at : get_elem? s.views id ≡ some v) (h : Held) (only : v.held ≡ h ∷ []) (state : LaneState) (some_state : word_of_state Free < word_of_state state) (last_state : word_of_state state ≤ word_of_state Ended) (steps : List StepTaken) where
    abbrev place : ℕ
    place = lane_place o.shape h.lane

    abbrev after : List ℕ
    after = set s.words place (word_of_state state)

    abbrev lane' : Held
    lane' = in_state state h

    held : get_elem? v.held 0 ≡ some h
    held = subst (λ (z : List Held). get_elem? z 0 ≡ some h) (sym only) refl

    mine : HoldsLane o.shape s.words r.fate h
    mine = (r.each_view id v at).holds 0 h held

    pub found_state : get_or s.words place 0 ≡ word_of_state h.state
    found_state = mine.state

    own : IsOwnWord face o s r id v at 0 h held (unborn o.shape) refl place (word_of_state state)
    own = let low = mine.exists in record { past_nodes = λ q low is. omega arith; past_lanes = λ m low other is. other (omega arith); past_records = λ number k small other is. omega arith; before_era = omega arith }

    stays : (j : ℕ) → j ≢ place → get_or after j 0 ≡ get_or s.words j 0
    stays j ne = get_or-set_other s.words place j (word_of_state state) 0 ne

    now : get_or after place 0 ≡ word_of_state state
    now = let low = mine.exists in let wide = r.tree.wide in get_or-set_same s.words place (word_of_state state) 0 (omega arith)

    pub restates : Kept face o record { words = after; homes = s.homes; views = set s.views id record v { held = lane' ∷ []; steps = steps } }
    restates = let low = mine.exists in let moved = own_moves face o s r id v at 0 h held (unborn o.shape) refl place (word_of_state state) own (word_of_state state) now some_state last_state in
        moves_on face o s r id v after r.book r.fate r.gone moved at record v { held = lane' ∷ []; steps = steps } (one_lane v h lane' v.seen steps only refl refl)
        (knows_keeping face o s r id v after r.book r.fate r.gone moved at (lane' ∷ []) v.reserved v.reached steps (λ a g p. subst (HoldsLane o.shape after r.fate) (alone lane' g a p).1 record {
          exists = mine.exists;
          state = now;
          owns = λ x t. let old = mine.owns x t in record { exists = old.exists; long = old.long; exact = λ k small. stays (record_start o.shape x.number + k) (λ is. omega arith) ∙ old.exact k small; fate_is = old.fate_is };
        })
        (keeps_as o.shape after r.fate r.gone r.book v record v { held = lane' ∷ []; steps = steps } (one_reserves v h lane' v.seen steps only refl refl)
        (view_on o.shape s.words r.fate r.gone r.book after r.fate r.book (own_leaves face o s r id v at 0 h held (unborn o.shape) refl place (word_of_state state) own) (own_slots face o s r id v at 0 h held (unborn o.shape) refl place (word_of_state state) own) v (r.each_view id v at).records))) (λ key low'. refl)

  -- what a seat does where it found a word i, which becomes x
  abbrev pub Did : St → ℕ → ℕ → Sat → (ℕ → Sat → Type 0) → ℕ → Type 0
  Did s i id me then x = (w : SeatView) × (a : Act (Unit {0})) × Valid s.homes me.1 a × Kept face o (stepped s i x id me.1 w a) × then (get_or s.words i 0) (w, carried_after me.1 a)

  pub takes_lane : (n id place : ℕ) (me : Sat) → me.0.live ≡ true → me.1 ≡ [] → MayTake me.0 → place ≡ own_lane_place me.0
      → Allows (Kept face o) n id me place (λ x. either (eqb x (word_of_state Free)) (word_of_state Taken) x) (WithEra me (took_lane (step n place (word_of_state Free) (word_of_state Taken) none) me))
  takes_lane n id place me live empty may is s r _ at _ =
      let v : SeatView = me.0 in let h : Held = may.lane in let kn = r.each_view id v at in let shaped : v.shape ≡ o.shape = kn.shaped live in
      let is' : place ≡ lane_place o.shape h.lane = is ∙ ap (λ (z : Shape). lane_place z (own_lane v.held)) shaped ∙ ap (λ (z : List Held). lane_place o.shape (own_lane z)) may.only in
      let steps : List StepTaken = v.steps ++ take_lane place (word_of_state Free) ∷ [] in
      let found : get_or s.words place 0 ≡ word_of_state Free = ap (λ (z : ℕ). get_or s.words z 0) is' ∙ found_state s r id v at h may.only Taken (omega arith) (omega arith) steps ∙ ap word_of_state may.free in
      let held : on_first (in_state Taken) v.held ≡ in_state Taken h ∷ [] = ap (on_first (in_state Taken)) may.only in
      exchanged (get_or s.words place 0) (word_of_state Free) (word_of_state Taken) (Did s place id me (WithEra me (took_lane (step n place (word_of_state Free) (word_of_state Taken) none) me)))
      (λ _. (
        taking v place,
        keeps,
        tt,
        subst (λ (z : List Held). Kept face o record { words = set s.words place (word_of_state Taken); homes = s.homes; views = set s.views id record v { held = z; steps = steps } }) (sym held)
            (subst (λ (z : ℕ). Kept face o record { words = set s.words z (word_of_state Taken); homes = s.homes; views = set s.views id record v { held = in_state Taken h ∷ []; steps = steps } }) (sym is')
            (restates s r id v at h may.only Taken (omega arith) (omega arith) steps)),
        ((empty, found, refl), record { live = refl; era = refl; past = refl; shape = refl; members = refl; told = refl; base = refl; whole = refl; led = λ m e. (m, e) }, record { reads = refl; lent = refl; leads = λ m e. (m, e); works = still_works (in_state Taken) v (taking v place) refl refl }),
      ))
      (λ miss. absurd (miss found))

  pub finishes_lane : (n id place : ℕ) (me : Sat) → me.0.live ≡ true → me.1 ≡ [] → HasTakenLane me.0 → place ≡ own_lane_place me.0
      → Allows (Kept face o) n id me place (λ _. word_of_state Ended) (WithEra me (λ _ m. finished_lane (step n place (word_of_state Ended) 0 none) me (word_of_state Ended) m))
  finishes_lane n id place me live empty may is s r _ at _ =
      let v : SeatView = me.0 in let h : Held = may.lane in let kn = r.each_view id v at in let shaped : v.shape ≡ o.shape = kn.shaped live in
      let is' : place ≡ lane_place o.shape h.lane = is ∙ ap (λ (z : Shape). lane_place z (own_lane v.held)) shaped ∙ ap (λ (z : List Held). lane_place o.shape (own_lane z)) may.only in
      let steps : List StepTaken = v.steps ++ finish_lane place ∷ [] in
      let held : on_first (in_state Ended) v.held ≡ in_state Ended h ∷ [] = ap (on_first (in_state Ended)) may.only in (
        finishing v place,
        keeps,
        tt,
        subst (λ (z : List Held). Kept face o record { words = set s.words place (word_of_state Ended); homes = s.homes; views = set s.views id record v { held = z; steps = steps } }) (sym held)
            (subst (λ (z : ℕ). Kept face o record { words = set s.words z (word_of_state Ended); homes = s.homes; views = set s.views id record v { held = in_state Ended h ∷ []; steps = steps } }) (sym is')
            (restates s r id v at h may.only Ended (omega arith) (omega arith) steps)),
        ((empty, refl), record { live = refl; era = refl; past = refl; shape = refl; members = refl; told = refl; base = refl; whole = refl; led = λ m e. (m, e) }, record { reads = refl; lent = refl; leads = λ m e. (m, e); works = still_works (in_state Ended) v (finishing v place) refl refl }),
      )
