-- A store of a word of an unpublished record of the seat's own lane keeps the rule.
use Rattle.std.proofs.Common.{true, ◌≡◌, ℕ, zero, suc, ◌+◌, ◌<◌, List, [], ◌∷◌, ◌++◌, length, get_or, set, sym, refl, ap, ◌∙◌, subst, arith, get_or-set_other}
use mathlib.Core.Option.{none, some, some-injective, some-ne-none}
use lib.ListN.{get_elem?}
use Rattle.atomic_table.specs.Table.{step, keeps, Allows}
use Rattle.aug_core.specs.Places.{Shape, lane_place, record_start, record_words}
use Rattle.aug_core.specs.Lanes.{word_of_state}
use Rattle.aug_core.specs.Opening.{Opening}
use Rattle.aug_core.specs.Rule.{HoldsLane, Kept}
use Rattle.aug_core.specs.Records.{Lists, OwnsRecord}
use Rattle.aug_core.specs.Kinds.{store_record_word}
use Rattle.aug_core.specs.Effects.{Sat, on_first, with_word, storing_in, HoldsOnly, MayStore, storing, stored_record}
use Rattle.aug_core.specs.inside.EraSteps.{WithEra}
use Rattle.aug_core.specs.inside.LaneStates.{HasTakenLane}
use Rattle.aug_core.specs.declared.step.StepTaken.{StepTaken}
use Rattle.aug_core.specs.declared.view.Held.{Held}
use Rattle.aug_core.specs.declared.view.LaneState.TheVariants.{Taken}
use Rattle.aug_core.specs.declared.view.Owned.{Owned}
use Rattle.aug_core.specs.declared.view.SeatView.{SeatView}
use Rattle.aug_core.proofs.Owning.{listed_map, records_apart, record_inside, with_long, with_exact}
use Rattle.aug_core.proofs.Views.{Repeats}
use Rattle.aug_core.proofs.Keeping.{ReservesAs, keeps_as, view_on}
use Rattle.aug_core.proofs.Moves.{St, IsOwnWord, own_leaves, own_slots, own_moves, moves_on, knows_keeping}
use Rattle.aug_core.specs.Book.{Book}
use Rattle.aug_core.proofs.ReaderCounts.{still_works}

module _ {A : Type 0} where
  -- a list of one
  pub alone : (x y : A) (a : ℕ) → get_elem? (x ∷ []) a ≡ some y → (a ≡ 0) × (x ≡ y)
  alone x y zero e = (refl, some-injective x y e)
  alone x y (suc a) e = absurd (some-ne-none y (sym e))

-- a view whose one lane changed, but not which lane it is
pub one_lane : (v : SeatView) (h h' : Held) (seen : Book) (steps : List StepTaken) → v.held ≡ h ∷ [] → h.lane ≡ h'.lane → h.changes ≡ h'.changes → Repeats v record v { seen = seen; held = h' ∷ []; steps = steps }
one_lane v h h' seen steps only same equal = record {
  back = λ a g p. let t = alone h' g a p in (h, subst (λ (z : List Held). get_elem? z a ≡ some h) (sym only) (subst (λ (z : ℕ). get_elem? (h ∷ []) z ≡ some h) (sym t.0) refl), same ∙ ap (λ (z : Held). z.lane) t.1, equal ∙ ap (λ (z : Held). z.changes) t.1);
  forth = λ a g p. let t = alone h g a (subst (λ (z : List Held). get_elem? z a ≡ some g) only p) in (h', subst (λ (z : ℕ). get_elem? (h' ∷ []) z ≡ some h') (sym t.0) refl, ap (λ (z : Held). z.lane) (sym t.1) ∙ same, ap (λ (z : Held). z.changes) (sym t.1) ∙ equal);
  spare = refl;
}

-- it reserved the same, and replaced the same
pub one_reserves : (v : SeatView) (h h' : Held) (seen : Book) (steps : List StepTaken) → v.held ≡ h ∷ [] → h.lane ≡ h'.lane → h.replaced ≡ h'.replaced → ReservesAs v record v { seen = seen; held = h' ∷ []; steps = steps }
one_reserves v h h' seen steps only same equal = record {
  reserved = refl;
  reached = refl;
  back = λ a g p. let t = alone h' g a p in (h, subst (λ (z : List Held). get_elem? z a ≡ some h) (sym only) (subst (λ (z : ℕ). get_elem? (h ∷ []) z ≡ some h) (sym t.0) refl), same ∙ ap (λ (z : Held). z.lane) t.1, equal ∙ ap (λ (z : Held). z.replaced) t.1);
  forth = λ a g p. let t = alone h g a (subst (λ (z : List Held). get_elem? z a ≡ some g) only p) in (h', subst (λ (z : ℕ). get_elem? (h' ∷ []) z ≡ some h') (sym t.0) refl, ap (λ (z : Held). z.lane) (sym t.1) ∙ same);
}

-- the one lane that a view holds
pub one_held : (v : SeatView) (h g : Held) → HoldsOnly v h → HoldsOnly v g → h ≡ g
one_held v h g a b = some-injective h g (ap (λ (z : List Held). get_elem? z 0) (sym a ∙ b))

pub is_taken : (v : SeatView) (h : Held) → HoldsOnly v h → HasTakenLane v → h.state ≡ Taken
is_taken v h only has = ap (λ (z : Held). z.state) (one_held v h has.lane only has.only) ∙ has.taken

module _ (face : ℕ → ℕ → List (ℕ × ℕ) → List ℕ) (o : Opening) where
  module _ (s : St) (r : Kept face o s) (id : ℕ) (v : SeatView) (at : get_elem? s.views id ≡ some v) (h : Held) (only : v.held ≡ h ∷ []) (taken : h.state ≡ Taken) (x : Owned) (listed : Lists h.owned x) (scanned : x.life.scanned ≡ o.shape.reservations) (field value : ℕ)
      (small : field < record_words) (steps : List StepTaken) where
    abbrev place : ℕ
    place = record_start o.shape x.number + field

    abbrev after : List ℕ
    after = set s.words place value

    abbrev lane' : Held
    lane' = storing_in o.shape place value h

    held : get_elem? v.held 0 ≡ some h
    held = subst (λ (z : List Held). get_elem? z 0 ≡ some h) (sym only) refl

    mine : HoldsLane o.shape s.words r.fate h
    mine = (r.each_view id v at).holds 0 h held

    inside : place < length s.words
    inside = let wide = r.tree.wide in let b = record_inside o.shape x.number field (mine.owns x listed).exists small in omega arith

    own : IsOwnWord face o s r id v at 0 h held x.life scanned place value
    own = record {
      past_nodes = λ q low is. omega arith;
      past_lanes = λ m low other is. omega arith;
      past_records = λ number k small' other. records_apart o.shape number x.number k field (λ is. other (ap r.fate is ∙ (mine.owns x listed).fate_is)) small' small;
      before_era = let low = (mine.owns x listed).exists in omega arith;
    }

    state_stays : get_or after (lane_place o.shape h.lane) 0 ≡ word_of_state Taken
    state_stays = let low = mine.exists in get_or-set_other s.words place (lane_place o.shape h.lane) value 0 (λ is. omega arith) ∙ mine.state ∙ ap word_of_state taken

    holds_it : HoldsLane o.shape after r.fate lane'
    holds_it = record {
      exists = mine.exists;
      state = state_stays ∙ sym (ap word_of_state taken);
      owns = λ y t. let was = listed_map (with_word o.shape place value) h.owned y t in let old = mine.owns was.0 was.1 in subst (OwnsRecord o.shape after r.fate h.lane) was.2 record {
        exists = old.exists;
        long = with_long o.shape place value was.0 ∙ old.long;
        exact = with_exact o.shape s.words place value was.0 inside old.long old.exact;
        fate_is = old.fate_is;
      };
    }

    pub writes : Kept face o record { words = after; homes = s.homes; views = set s.views id record v { held = lane' ∷ []; steps = steps } }
    writes = let moved = own_moves face o s r id v at 0 h held x.life scanned place value own 1 state_stays (omega arith) (omega arith) in
        moves_on face o s r id v after r.book r.fate r.gone moved at record v { held = lane' ∷ []; steps = steps } (one_lane v h lane' v.seen steps only refl refl)
        (knows_keeping face o s r id v after r.book r.fate r.gone moved at (lane' ∷ []) v.reserved v.reached steps (λ a g p. subst (HoldsLane o.shape after r.fate) (alone lane' g a p).1 holds_it)
        (keeps_as o.shape after r.fate r.gone r.book v record v { held = lane' ∷ []; steps = steps } (one_reserves v h lane' v.seen steps only refl refl)
        (view_on o.shape s.words r.fate r.gone r.book after r.fate r.book (own_leaves face o s r id v at 0 h held x.life scanned place value own) (own_slots face o s r id v at 0 h held x.life scanned place value own) v (r.each_view id v at).records))) (λ key low. refl)

  pub stores_record_word : (n id place number field x : ℕ) (me : Sat) → me.0.live ≡ true → me.1 ≡ [] → HasTakenLane me.0 → MayStore me.0 number → field < record_words → place ≡ record_start me.0.shape number + field
      → Allows (Kept face o) n id me place (λ _. x) (WithEra me (λ _ m. stored_record (step n place x 0 none) me x m))
  stores_record_word n id place number field x me live empty has may small is s r _ at _ =
      let v : SeatView = me.0 in let h : Held = may.lane in let kn = r.each_view id v at in let shaped : v.shape ≡ o.shape = kn.shaped live in
      let is' : place ≡ record_start o.shape may.own.number + field = is ∙ (λ i. record_start (shaped i) (sym may.numbered i) + field) in
      let steps : List StepTaken = v.steps ++ store_record_word place x ∷ [] in
      let held : on_first (storing_in v.shape place x) v.held ≡ storing_in o.shape (record_start o.shape may.own.number + field) x h ∷ [] =
      ap (on_first (storing_in v.shape place x)) may.only ∙ (λ i. storing_in (shaped i) (is' i) x h ∷ []) in (
        storing v place x,
        keeps,
        tt,
        subst (λ (z : List Held). Kept face o record { words = set s.words place x; homes = s.homes; views = set s.views id record v { held = z; steps = steps } }) (sym held)
            (subst (λ (z : ℕ). Kept face o record { words = set s.words z x; homes = s.homes; views = set s.views id record v { held = storing_in o.shape (record_start o.shape may.own.number + field) x h ∷ []; steps = steps } }) (sym is')
            (writes s r id v at h may.only (is_taken v h may.only has) may.own may.listed (may.scanned ∙ ap (λ (z : Shape). z.reservations) shaped) field x small steps)),
        ((empty, refl), record { live = refl; era = refl; past = refl; shape = refl; members = refl; told = refl; base = refl; whole = refl; led = λ m e. (m, e) }, record { reads = refl; lent = refl; leads = λ m e. (m, e); works = still_works (storing_in v.shape place x) v (storing v place x) refl refl }),
      )
