-- A seat loads a reservation, and passes those of its own records that this one does not hold.
use Rattle.std.proofs.Common.{true, false, ◌≡◌, ◌≢◌, inl, inr, ℕ, ◌<◌, ◌≤◌, Bool, if◌then◌else◌, lt-ltb, le-leb, eqb, eqb-true, eq-eqb, ne_eqb, List, [], ◌∷◌, ◌++◌, get_or, set, refl, sym, ap, ◌∙◌, subst, ⊎_elim, arith}
use Rattle.std.specs.Prelude.{nat_le, ◌==◌}
use Rattle.std.proofs.lemmas.Bool.{cases_eq}
use Rattle.std.proofs.lemmas.List.{set-get_or}
use mathlib.Core.Option.{none, some}
use lib.ListN.{get_elem?}
use Rattle.atomic_table.specs.Table.{step, keeps, Allows}
use Rattle.aug_core.specs.Places.{Shape, reservation_place}
use Rattle.aug_core.specs.Opening.{Opening}
use Rattle.aug_core.specs.Records.{Fate, at_opening, standing, owned_by, first_era, StandsAs, Waits, OwnsRecord}
use Rattle.aug_core.specs.Rule.{HoldsLane, Kept}
use Rattle.aug_core.specs.Kinds.{load_reservation}
use Rattle.aug_core.specs.Effects.{Sat, HoldsOnly, on_first}
use Rattle.aug_core.specs.Reclaiming.{holds_in, passed_if, passing, passed_record, scanning_in, scanning, scanned}
use Rattle.aug_core.specs.inside.EraSteps.{WithEra}
use Rattle.aug_core.specs.declared.step.StepTaken.{StepTaken}
use Rattle.aug_core.specs.declared.view.Held.{Held}
use Rattle.aug_core.specs.declared.view.Life.{Life}
use Rattle.aug_core.specs.declared.view.Reserved.{Reserved}
use Rattle.aug_core.specs.declared.view.SeatView.{SeatView}
use Rattle.aug_core.proofs.Owning.{listed_map}
use Rattle.aug_core.proofs.Keeping.{LeavesRecords, keeps_as, view_on, records_on}
use Rattle.aug_core.proofs.Moves.{St, MayMove, moves_on, knows_keeping}
use Rattle.aug_core.proofs.Stores.{alone, one_lane, one_reserves}
use Rattle.aug_core.proofs.ReaderCounts.{still_works}
use Rattle.aug_core.proofs.PrefixLemmas.{book_refl}

-- what lived is held by a reservation of an era of its life
held_by : (era : ℕ) (life : Life) → 0 < era → life.birth ≤ era → first_era era ≤ life.death → holds_in era life ≡ true
held_by era life some_era born died = ap (λ (b : Bool). if b then (if nat_le life.birth era then nat_le (first_era era) life.death else false) else false) (lt-ltb 0 era some_era)
    ∙ ap (λ (b : Bool). if b then nat_le (first_era era) life.death else false) (le-leb life.birth era born) ∙ le-leb (first_era era) life.death died

-- its ends stay
passed_ends : (next held : Bool) (slot : ℕ) (life : Life) → ((passed_if next held slot life).birth ≡ life.birth) × ((passed_if next held slot life).death ≡ life.death)
passed_ends true true slot life = (refl, refl)
passed_ends true false slot life = (refl, refl)
passed_ends false held slot life = (refl, refl)

-- and a reservation that holds it is not passed
passed_low : (next held : Bool) (slot most : ℕ) (life : Life) → life.scanned ≤ most → (next ≡ true → life.scanned ≡ slot) → (slot ≡ most → held ≡ true) → (passed_if next held slot life).scanned ≤ most
passed_low true true slot most life le is holds = le
passed_low true false slot most life le is holds = let here = is refl in ⊎_elim (λ (same : slot ≡ most). let clash : false ≡ true = holds same in cc) (λ other. omega arith) (cases_eq slot most)
passed_low false held slot most life le is holds = le

-- what becomes of a record where a lane passes a reservation
abbrev pass_fate : ℕ → ℕ → ℕ → Fate → Fate
pass_fate lane slot era at_opening = at_opening
pass_fate lane slot era (standing q i) = standing q i
pass_fate lane slot era (owned_by owner life) = if owner == lane then owned_by owner (passing slot era life) else owned_by owner life

pass_own : (lane slot era owner : ℕ) (life : Life) → owner ≡ lane → pass_fate lane slot era (owned_by owner life) ≡ owned_by owner (passing slot era life)
pass_own lane slot era owner life is = ap (λ (b : Bool). if b then owned_by owner (passing slot era life) else owned_by owner life) (eq-eqb owner lane is)

pass_other : (lane slot era owner : ℕ) (life : Life) → owner ≢ lane → pass_fate lane slot era (owned_by owner life) ≡ owned_by owner life
pass_other lane slot era owner life ne = ap (λ (b : Bool). if b then owned_by owner (passing slot era life) else owned_by owner life) (ne_eqb owner lane ne)

pass_stands : (s : Shape) (lane slot era q i : ℕ) (f : Fate) → StandsAs s f q i → StandsAs s (pass_fate lane slot era f) q i
pass_stands s lane slot era q i f stands = ⊎_elim (λ (e : f ≡ standing q i). inl (ap (pass_fate lane slot era) e)) (λ t. inr (t.0, ap (pass_fate lane slot era) t.1, t.2)) stands

module _ (face : ℕ → ℕ → List (ℕ × ℕ) → List ℕ) (o : Opening) where
  module _ (s : St) (r : Kept face o s) (id : ℕ) (v : SeatView) (at : get_elem? s.views id ≡ some v) (h : Held) (only : HoldsOnly v h) (slot : ℕ) (steps : List StepTaken) where
    abbrev found : ℕ
    found = get_or s.words (reservation_place o.shape slot) 0

    abbrev fate' : ℕ → Fate
    fate' n = pass_fate h.lane slot found (r.fate n)

    abbrev lane' : Held
    lane' = scanning_in slot found h

    held : get_elem? v.held 0 ≡ some h
    held = subst (λ (z : List Held). get_elem? z 0 ≡ some h) (sym only) refl

    -- what waits for a reservation still does
    waits_on : (x : Reserved) (number : ℕ) → 0 < x.era → get_or s.words (reservation_place o.shape x.slot) 0 ≡ x.era → Waits r.fate x number → Waits fate' x number
    waits_on x number some_era word w = ⊎_elim
        (λ (mine : w.lane ≡ h.lane). let ends = passed_ends (eqb w.life.scanned slot) (holds_in found w.life) slot w.life in let birth = ends.0 in let death = ends.1 in let born = w.born in let died = w.died in record {
          lane = w.lane;
          life = passing slot found w.life;
          fate_is = ap (pass_fate h.lane slot found) w.fate_is ∙ pass_own h.lane slot found w.lane w.life mine;
          born = omega arith;
          died = omega arith;
          unscanned = passed_low (eqb w.life.scanned slot) (holds_in found w.life) slot x.slot w.life w.unscanned (eqb-true w.life.scanned slot)
              (λ same. let e : found ≡ x.era = ap (λ (z : ℕ). get_or s.words (reservation_place o.shape z) 0) same ∙ word in held_by found w.life (omega arith) (omega arith) (omega arith));
        })
        (λ other. record { lane = w.lane; life = w.life; fate_is = ap (pass_fate h.lane slot found) w.fate_is ∙ pass_other h.lane slot found w.lane w.life other; born = w.born; died = w.died; unscanned = w.unscanned }) (cases_eq w.lane h.lane)

    leaves : LeavesRecords o.shape s.words r.fate r.gone r.book s.words fate' r.book
    leaves = record {
      era = omega arith;
      grows = book_refl r.book;
      there = λ q j e inner p t. record { stands = pass_stands o.shape h.lane slot found q j (r.fate e.number) t.stands; words_are = t.words_are };
      waits = λ x q j e inner p inside some_era word w has. (waits_on x e.number some_era word w, has);
      came = λ q j e inner p. inl p;
      opened = λ off number low is. ap (pass_fate h.lane slot found) is;
    }

    moved : MayMove face o s r id v s.words r.book fate' r.gone
    moved = record {
      tree = r.tree;
      records = records_on o.shape s.words r.fate r.gone r.book s.words fate' r.book leaves r.records;
      grows = book_refl r.book;
      lanes = λ lane low. inl refl;
      others = λ lane x not owns. record { exists = owns.exists; long = owns.long; exact = owns.exact; fate_is = ap (pass_fate h.lane slot found) owns.fate_is ∙ pass_other h.lane slot found lane x.life (λ is. not record { index = 0; held = h; at = held; is = sym is }) };
      fresh = λ seen saw f. f;
      kept = λ j u ne p. view_on o.shape s.words r.fate r.gone r.book s.words fate' r.book leaves (λ z low. refl) u;
    }

    mine : HoldsLane o.shape s.words r.fate h
    mine = (r.each_view id v at).holds 0 h held

    holds_it : HoldsLane o.shape s.words fate' lane'
    holds_it = record {
      exists = mine.exists;
      state = mine.state;
      owns = λ y t. let was = listed_map (passed_record slot found) h.owned y t in let old = mine.owns was.0 was.1 in subst (OwnsRecord o.shape s.words fate' h.lane) was.2
          record { exists = old.exists; long = old.long; exact = old.exact; fate_is = ap (pass_fate h.lane slot found) old.fate_is ∙ pass_own h.lane slot found h.lane was.0.life refl };
    }

    pub passes : (i : ℕ) → Kept face o record { words = set s.words i (get_or s.words i 0); homes = s.homes; views = set s.views id record v { held = lane' ∷ []; steps = steps } }
    passes i = let w : SeatView = record v { held = lane' ∷ []; steps = steps } in subst (λ (z : List ℕ). Kept face o record { words = z; homes = s.homes; views = set s.views id w }) (sym (set-get_or s.words i 0))
        (moves_on face o s r id v s.words r.book fate' r.gone moved at w (one_lane v h lane' v.seen steps only refl refl)
        (knows_keeping face o s r id v s.words r.book fate' r.gone moved at (lane' ∷ []) v.reserved v.reached steps (λ a g p. subst (HoldsLane o.shape s.words fate') (alone lane' g a p).1 holds_it)
        (keeps_as o.shape s.words fate' r.gone r.book v w (one_reserves v h lane' v.seen steps only refl refl) (view_on o.shape s.words r.fate r.gone r.book s.words fate' r.book leaves (λ z low. refl) v (r.each_view id v at).records))) (λ key low. refl))

  pub scans : (n id place slot : ℕ) (me : Sat) (h : Held) → me.0.live ≡ true → me.1 ≡ [] → HoldsOnly me.0 h → place ≡ reservation_place me.0.shape slot → Allows (Kept face o) n id me place (λ x. x) (WithEra me (scanned (step n place 0 0 none) me))
  scans n id place slot me h live empty only is s r _ at _ =
      let v : SeatView = me.0 in let kn = r.each_view id v at in let shaped = kn.shaped live in let is' : place ≡ reservation_place o.shape slot = is ∙ ap (λ (z : Shape). reservation_place z slot) shaped in
      let value : ℕ = get_or s.words place 0 in let same : get_or s.words (reservation_place o.shape slot) 0 ≡ value = ap (λ (z : ℕ). get_or s.words z 0) (sym is') in
      let taken : StepTaken = load_reservation place value in let steps : List StepTaken = v.steps ++ taken ∷ [] in
      let held : on_first (scanning_in slot value) v.held ≡ scanning_in slot (get_or s.words (reservation_place o.shape slot) 0) h ∷ [] = (λ i. on_first (scanning_in slot (sym same i)) (only i)) in (
        scanning v slot value taken,
        keeps,
        tt,
        subst (λ (z : List Held). Kept face o record { words = set s.words place value; homes = s.homes; views = set s.views id record v { held = z; steps = steps } }) (sym held) (passes s r id v at h only slot steps place),
        (
          λ other e. let one : slot ≡ other = omega arith in (empty, subst (λ (z : ℕ). scanning v slot value taken ≡ scanning v z value taken) one refl),
          record { live = refl; era = refl; past = refl; shape = refl; members = refl; told = refl; base = refl; whole = refl; led = λ m e. (m, e) },
          record { reads = refl; lent = refl; leads = λ m e. (m, e); works = still_works (scanning_in slot value) v (scanning v slot value taken) refl refl },
        ),
      )
