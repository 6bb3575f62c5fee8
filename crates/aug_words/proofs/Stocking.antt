-- The records of a lane, as its pass keeps them.
use Rattle.std.proofs.Common.{true, false, ◌≡◌, ◌≢◌, ◌⊎◌, inl, inr, ℕ, zero, suc, ◌+◌, ◌-◌, ◌*◌, ◌^◌, ◌<◌, ◌≤◌, Bool, not, eqb, eqb-true, eq-eqb, ne_eqb, List, [], ◌∷◌, ◌++◌, length, map, get_or, set, length-set, get_or-set_same, get_or-set_other, length-append, if◌then◌else◌, append_assoc, add-one, refl, sym, ap, ◌∙◌, subst, ⊎_elim, arith}
use Rattle.std.specs.Prelude.{Option, ◌==◌, nat_le, nat_lt, unwrap_or, All}
use Rattle.std.proofs.lemmas.Bool.{cases_eq, cases_lt, leb-true, ltb-true}
use Rattle.std.proofs.lemmas.List.{append-nil, map-id}
use Rattle.std.proofs.lemmas.List.Elements.{All-nil, All-cons, All-append}
use Rattle.std.proofs.lemmas.List.FromFn.{length-map-range_with_len}
use mathlib.Core.Bool.{true≢false, false≢true}
use Rattle.aug_core.specs.Places.{Shape, record_start, record_count, record_words, era_place, reservation_place}
use Rattle.aug_core.specs.Lanes.{first_record, lane_records, new_lane}
use Rattle.aug_core.specs.declared.view.LaneState.TheVariants.{Taken}
use Rattle.aug_words.specs.Leads.{HandsLaneOut}
use Rattle.aug_words.specs.Reservations.{LoadsEra}
use Rattle.aug_core.specs.Book.{Book, word_of_node}
use Rattle.aug_core.specs.Kinds.{load_era, load_reservation, store_reservation, try_node}
use Rattle.aug_core.specs.Records.{Lists, IsClosed, first_era, floor_of}
use Rattle.aug_core.specs.Effects.{HoldsOnly, MayStore, handed_out, in_state, own_lane, own_lane_place, on_first, storing, storing_in, with_word, last_replaced, publishing, publishing_from, ReplacesOther, TriesNode}
use Rattle.aug_core.specs.Reclaiming.{holds_in, passed_if, passed_record, scanning_in, scanning, retired_in, retiring_in, retiring, reaching, releasing, but_slot, Reserves}
use Rattle.aug_core.specs.declared.step.StepKind.{StepKind}
use Rattle.aug_core.specs.declared.step.StepKind.TheVariants.{LoadLeaf, TryLeaf, LoadNode, TryNode, LoadRecordWord, StoreRecordWord, TakeLane, FinishLane, LoadEra, TurnEra, LoadReservation, StoreReservation}
use Rattle.aug_core.specs.declared.step.StepTaken.{StepTaken}
use Rattle.aug_core.specs.declared.view.Held.{Held}
use Rattle.aug_core.specs.declared.view.Life.{Life}
use Rattle.aug_core.specs.declared.view.Owned.{Owned}
use Rattle.aug_core.specs.declared.view.Replaced.{Replaced}
use Rattle.aug_core.specs.declared.view.Reserved.{Reserved}
use Rattle.aug_core.specs.declared.view.SeatView.{SeatView}
use Rattle.aug_core.specs.inside.Refreshes.{stored}
use Rattle.aug_core.proofs.Keeping.{lists_none}
use Rattle.aug_core.proofs.Counting.{at_longer, at_after}
use Rattle.aug_core.proofs.Owning.{listed_first, listed_filter, map_listed, filter_listed, with_long}
use Rattle.aug_core.proofs.Clients.{after_store, new_lane_owns, may_store_same, may_store_publishing}
use Rattle.aug_words.specs.Seats.{IsNextLane, TriedNode}
use Rattle.aug_words.specs.Stocks.{naming, number_in_word, birth_in_word, StockFacts, OpensStock, HasReplaced, HasWaiting, ReservesAt, Stocks, scan_steps, IsHeld, ReservesAnew, Scans}
use Rattle.aug_words.specs.inside.Stocking.{passed_all, passing_all, HasLoaded, Sorts}

-- ---- steps that exchange no leaf

-- the kind is that of an exchange of a leaf
abbrev pub tries_leaf : StepKind → Bool
tries_leaf TryLeaf = true
tries_leaf LoadLeaf = false
tries_leaf LoadNode = false
tries_leaf TryNode = false
tries_leaf LoadRecordWord = false
tries_leaf StoreRecordWord = false
tries_leaf TakeLane = false
tries_leaf FinishLane = false
tries_leaf LoadEra = false
tries_leaf TurnEra = false
tries_leaf LoadReservation = false
tries_leaf StoreReservation = false

abbrev pub quiet : StepTaken → Type 0
quiet taken = taken.kind ≢ TryLeaf

pub no_try_none : All quiet []
no_try_none = All-nil quiet

pub no_try_one : (taken : StepTaken) → tries_leaf taken.kind ≡ false → All quiet (taken ∷ [])
no_try_one taken other = All-cons quiet taken [] (λ is. false≢true (sym other ∙ ap tries_leaf is)) (All-nil quiet)

-- ---- words that name records

pub number_named : (birth number : ℕ) → number < 2 ^ 24 → number_in_word (naming birth number) ≡ number
number_named birth number low = omega arith

pub birth_named : (birth number : ℕ) → number < 2 ^ 24 → birth_in_word (naming birth number) ≡ birth
birth_named birth number low = omega arith

-- ---- lists that were mapped

map_twice : (f g : Owned → Owned) (xs : List Owned) → map f (map g xs) ≡ map (λ x. f (g x)) xs
map_twice f g [] = refl
map_twice f g (x ∷ xs) = ap (λ (z : List Owned). f (g x) ∷ z) (map_twice f g xs)

first_twice : (f g : Held → Held) (held : List Held) → on_first f (on_first g held) ≡ on_first (λ h. f (g h)) held
first_twice f g [] = refl
first_twice f g (h ∷ hs) = refl

first_same : (held : List Held) → on_first (λ h. h) held ≡ held
first_same [] = refl
first_same (h ∷ hs) = refl

-- ---- a record while reservations are loaded

-- what is known of it after so many, if there are `all` in all
pub record IsPassed (eras : ℕ → ℕ) (n all : ℕ) (x y : Owned) : Type 0 where
  pub number : y.number ≡ x.number
  pub words : y.words ≡ x.words
  pub born : y.life.birth ≡ x.life.birth
  pub died : y.life.death ≡ x.life.death
  pub most : x.life.scanned ≤ all → y.life.scanned ≤ all
  pub stays : x.life.scanned ≡ all → y.life.scanned ≡ all
  pub passed : ((slot : ℕ) → slot < n → IsHeld (eras slot) x.life.birth x.life.death → ⊥) → n ≤ y.life.scanned

held_as : (era birth death : ℕ) (life : Life) → life.birth ≡ birth → life.death ≡ death → holds_in era life ≡ holds_in era (record { birth = birth; death = death; scanned = 0 })
held_as era birth death life born died i = holds_in era (record { birth = born i; death = died i; scanned = 0 })

passed_more : (eras : ℕ → ℕ) (n all : ℕ) (x y : Owned) → n < all → IsPassed eras n all x y → (next held : Bool) → (y.life.scanned == n) ≡ next → holds_in (eras n) y.life ≡ held
    → IsPassed eras (suc n) all x (record y { life = passed_if next held n y.life })
passed_more eras n all x y low p true true next held = record {
  number = p.number;
  words = p.words;
  born = p.born;
  died = p.died;
  most = p.most;
  stays = p.stays;
  passed = λ none. absurd (none n (omega arith) (sym (held_as (eras n) x.life.birth x.life.death y.life p.born p.died) ∙ held));
}
passed_more eras n all x y low p true false next held = let here : y.life.scanned ≡ n = eqb-true y.life.scanned n next in record {
  number = p.number;
  words = p.words;
  born = p.born;
  died = p.died;
  most = λ le. omega arith;
  stays = λ is. let at = p.stays is in absurd (omega arith);
  passed = λ none. omega arith;
}
passed_more eras n all x y low p false held next is_held = record {
  number = p.number;
  words = p.words;
  born = p.born;
  died = p.died;
  most = p.most;
  stays = p.stays;
  passed = λ none. ⊎_elim (λ (same : y.life.scanned ≡ n). let clash : true ≡ false = sym (eq-eqb y.life.scanned n same) ∙ next in cc)
      (λ other. let le = p.passed (λ slot less. none slot (omega arith)) in omega arith) (cases_eq y.life.scanned n);
}

pub is_passed : (eras : ℕ → ℕ) (n all : ℕ) (x : Owned) → n ≤ all → IsPassed eras n all x (passed_all eras n x)
is_passed eras zero all x le = record { number = refl; words = refl; born = refl; died = refl; most = λ le. le; stays = λ is. is; passed = λ none. omega arith }
is_passed eras (suc n) all x le = let y = passed_all eras n x in passed_more eras n all x y (omega arith) (is_passed eras n all x (omega arith)) (y.life.scanned == n) (holds_in (eras n) y.life) refl refl

-- ---- the loads

loads_agree : (s : Shape) (f g : ℕ → ℕ) (n : ℕ) → ((k : ℕ) → k < n → f k ≡ g k) → scan_steps s f n ≡ scan_steps s g n
loads_agree s f g zero same = refl
loads_agree s f g (suc n) same = λ i. loads_agree s f g n (λ k low. same k (omega arith)) i ++ load_reservation (reservation_place s n) (same n (omega arith) i) ∷ []

passed_agree : (f g : ℕ → ℕ) (n : ℕ) → ((k : ℕ) → k < n → f k ≡ g k) → (x : Owned) → passed_all f n x ≡ passed_all g n x
passed_agree f g zero same x = refl
passed_agree f g (suc n) same x = λ i. passed_record n (same n (omega arith) i) (passed_agree f g n (λ k low. same k (omega arith)) x i)

pub loads_none : (v : SeatView) (eras : ℕ → ℕ) → HasLoaded v eras 0 v
loads_none v eras = record {
  steps = sym (append-nil v.steps);
  same = refl;
  held = sym (first_same v.held) ∙ (λ i. on_first (λ h. record h { owned = sym (map-id h.owned) i }) v.held);
}

module _ (v w after : SeatView) (f g : ℕ → ℕ) (n r : ℕ) (l : HasLoaded v f n w) (is : after ≡ scanning w n r (load_reservation (reservation_place w.shape n) r)) (same : (k : ℕ) → k < n → f k ≡ g k) (last : g n ≡ r) where
  shaped : w.shape ≡ v.shape
  shaped = ap (λ (z : SeatView). z.shape) l.same

  held_now : on_first (scanning_in n r) w.held ≡ on_first (passing_all g (suc n)) v.held
  held_now = ap (on_first (scanning_in n r)) l.held ∙ first_twice (scanning_in n r) (passing_all f n) v.held
      ∙ (λ i. on_first (λ h. record h { owned = (map_twice (passed_record n r) (passed_all f n) h.owned ∙ (λ j. map (λ x. passed_record n (sym last j) (passed_agree f g n same x j)) h.owned)) i }) v.held)

  pub loads_more : HasLoaded v g (n + 1) after
  loads_more = subst (λ (z : ℕ × SeatView). HasLoaded v g z.0 z.1) (λ i. (sym (add-one n) i, sym is i)) record {
    steps = (λ i. l.steps i ++ load_reservation (reservation_place (shaped i) n) (sym last i) ∷ []) ∙ append_assoc v.steps (scan_steps v.shape f n) (load_reservation (reservation_place v.shape n) (g n) ∷ [])
        ∙ ap (λ (z : List StepTaken). v.steps ++ (z ++ load_reservation (reservation_place v.shape n) (g n) ∷ [])) (loads_agree v.shape f g n same);
    same = ap (λ (z : SeatView). record z { held = on_first (scanning_in n r) w.held; steps = w.steps ++ load_reservation (reservation_place w.shape n) r ∷ [] }) l.same;
    held = held_now;
  }

-- ---- a stock

-- the stock of a pass that was just handed out
pub stocks_opened : (v : SeatView) (opens : OpensStock v) (words deaths : List ℕ) (n : ℕ) → 0 < v.shape.reservations → record_count v.shape ≤ 2 ^ 24 → n ≡ lane_records v.shape → length words ≡ n
    → ((j : ℕ) → j < n → get_or words j 0 ≡ first_record v.shape opens.lane.lane + j) → Stocks v (record { words = words; deaths = deaths; free = n; replaced = 0; era = 0 })
stocks_opened v opens words deaths n used numbers all long at = record {
  lane = opens.lane;
  only = opens.only;
  used = used;
  numbers = numbers;
  era = record { held = λ any. absurd (omega arith); one = λ x listed same. absurd (lists_none v.reserved x opens.none listed) };
  free = λ i low. subst (MayStore v) (sym (number_at i low)) (opens.owns i (omega arith));
  replaced = λ i past low. absurd (omega arith);
  waits = λ i past low. absurd (omega arith);
  counted = ap length opens.replaced;
  once = λ i j low low' same. let a = number_at i (omega arith) in let b = number_at j (omega arith) in omega arith;
}
  where
    number_at : (i : ℕ) → i < n → number_in_word (get_or words i 0) ≡ first_record v.shape opens.lane.lane + i
    number_at i low = let may = opens.owns i (omega arith) in let is = at i low in let exists = may.exists in let numbered = may.numbered in omega arith

-- each record of a stock is one that the lane owns or replaced
abbrev IsOfLane : SeatView → StockFacts → ℕ → Type 0
IsOfLane v k i = ((h : Held) × HoldsOnly v h × (x : Owned) × Lists h.owned x × (x.number ≡ number_in_word (get_or k.words i 0))) ⊎ ((h : Held) × HoldsOnly v h × (c : Replaced) × Lists h.replaced c × (c.number ≡ number_in_word (get_or k.words i 0)))

of_lane : (v : SeatView) (k : StockFacts) (i : ℕ) → Stocks v k → i < length k.words → IsOfLane v k i
of_lane v k i s low = ⊎_elim
    (λ (free : i < k.free). let may = s.free i free in inl (may.lane, may.only, may.own, may.listed, may.numbered))
    (λ past. ⊎_elim
    (λ (early : i < k.free + k.replaced). let t = s.replaced i past early in let exists = t.exists in let numbers = s.numbers in
    inr (s.lane, s.only, t.entry, t.listed, sym (ap number_in_word t.named ∙ number_named t.entry.birth t.entry.number (omega arith))))
    (λ late. let t = s.waits i late low in let exists = t.exists in let numbers = s.numbers in
    inl (s.lane, s.only, t.own, t.listed, sym (ap number_in_word t.named ∙ number_named t.own.life.birth t.own.number (omega arith)))) (cases_lt i (k.free + k.replaced))) (cases_lt i k.free)

-- a reservation with this place is none of the others
not_there : (slot : ℕ) (reserved : List Reserved) (y : Reserved) → Lists (but_slot slot reserved) y → y.slot ≡ slot → ⊥
not_there slot reserved y listed same = true≢false (sym (listed_filter (λ z. not (eqb z.slot slot)) reserved y listed).1 ∙ ap not (eq-eqb y.slot slot same))

-- what is reserved after a reservation was made, and after it was let go of
pub reserves_now : (x : Reserved) (slot era : ℕ) (reserved : List Reserved) → 0 < era → x.slot ≡ slot → x.era ≡ era → ReservesAt (x ∷ but_slot slot reserved) slot era
reserves_now x slot era reserved some is era_is = record {
  held = λ any. (x, (0, refl), is, era_is);
  one = λ y listed same. ⊎_elim (λ first. (ap (λ (z : Reserved). z.era) first ∙ era_is, some)) (λ other. absurd (not_there slot reserved y other same)) (listed_first x (but_slot slot reserved) y listed);
}

pub reserves_none : (slot : ℕ) (reserved : List Reserved) → ReservesAt (but_slot slot reserved) slot 0
reserves_none slot reserved = record { held = λ any. absurd (omega arith); one = λ y listed same. absurd (not_there slot reserved y listed same) }

-- a step that leaves the lane as it was leaves its stock
pub stocks_on : (v w : SeatView) (k : StockFacts) (era : ℕ) → (s : Stocks v k) → w.shape ≡ v.shape → w.held ≡ v.held → ReservesAt w.reserved s.lane.lane era → Stocks w (record k { era = era })
stocks_on v w k era s shaped held is = record {
  lane = s.lane;
  only = held ∙ s.only;
  used = subst (λ (z : Shape). 0 < z.reservations) (sym shaped) s.used;
  numbers = subst (λ (z : Shape). record_count z ≤ 2 ^ 24) (sym shaped) s.numbers;
  era = is;
  free = λ i low. may_store_same v w (number_in_word (get_or k.words i 0)) shaped held (s.free i low);
  replaced = λ i past low. subst (λ (z : Shape). HasReplaced z s.lane (get_or k.words i 0)) (sym shaped) (s.replaced i past low);
  waits = λ i past low. subst (λ (z : Shape). HasWaiting z s.lane (get_or k.words i 0) (get_or k.deaths i 0)) (sym shaped) (s.waits i past low);
  counted = s.counted;
  once = s.once;
}

-- and so does one that leaves what is reserved too
pub stocks_same : (v w : SeatView) (k : StockFacts) → Stocks v k → w.shape ≡ v.shape → w.held ≡ v.held → w.reserved ≡ v.reserved → Stocks w k
stocks_same v w k s shaped held reserved = stocks_on v w k k.era s shaped held (subst (λ (z : List Reserved). ReservesAt z s.lane.lane k.era) (sym reserved) s.era)

pub named_used : (s : Shape) (birth number : ℕ) → 0 < s.reservations → word_of_node s birth number ≡ naming birth number
named_used s birth number used = ap (λ (b : Bool). if b then number else birth * 2 ^ 24 + number) (ne_eqb s.reservations 0 (λ is. absurd (omega arith)))

-- the next record was published, and what it replaced is in its place
module _ (v w : SeatView) (k : StockFacts) (book : Book) (number old : ℕ) (taken : StepTaken) (s : Stocks v k) (free : 0 < k.free) (few : k.free + k.replaced ≤ length k.words)
    (next : number ≡ number_in_word (get_or k.words (k.free - 1) 0)) (is : w ≡ publishing v book number taken) (other : (h : Held) → HoldsOnly v h → ReplacesOther v.shape h old (last_replaced book taken.place)) where
  abbrev last : ℕ
  last = k.free - 1

  abbrev mark : Replaced
  mark = last_replaced book taken.place

  abbrev words' : List ℕ
  words' = set k.words last old

  abbrev lane' : Held
  lane' = publishing_from number mark s.lane

  here : get_or words' last 0 ≡ old
  here = get_or-set_same k.words last old 0 (omega arith)

  there : (i : ℕ) → i ≢ last → get_or words' i 0 ≡ get_or k.words i 0
  there i ne = get_or-set_other k.words last i old 0 ne

  its : ReplacesOther v.shape s.lane old mark
  its = other s.lane s.only

  named : old ≡ naming mark.birth mark.number
  named = its.named ∙ named_used v.shape mark.birth mark.number s.used

  old_number : number_in_word old ≡ mark.number
  old_number = let exists = its.exists in let numbers = s.numbers in ap number_in_word named ∙ number_named mark.birth mark.number (omega arith)

  new_to_all : (i : ℕ) → i < length k.words → number_in_word (get_or k.words i 0) ≢ mark.number
  new_to_all i low same = ⊎_elim (λ t. (other t.0 t.1).not_owned t.2 t.3 (t.4 ∙ same)) (λ t. (other t.0 t.1).not_replaced t.2 t.3 (t.4 ∙ same)) (of_lane v k i s low)

  not_next : (i : ℕ) → i < length k.words → i ≢ last → number_in_word (get_or k.words i 0) ≢ number
  not_next i low ne same = ne (s.once i last low (omega arith) (same ∙ next))

  once' : (i j : ℕ) → i < length k.words → j < length k.words → number_in_word (get_or words' i 0) ≡ number_in_word (get_or words' j 0) → i ≡ j
  once' i j low low' same = ⊎_elim
      (λ (a : i ≡ last). ⊎_elim (λ (b : j ≡ last). a ∙ sym b)
      (λ b. absurd (new_to_all j low' (sym (ap number_in_word (there j b)) ∙ sym same ∙ ap (λ (z : ℕ). number_in_word (get_or words' z 0)) a ∙ ap number_in_word here ∙ old_number))) (cases_eq j last))
      (λ a. ⊎_elim
      (λ (b : j ≡ last). absurd (new_to_all i low (sym (ap number_in_word (there i a)) ∙ same ∙ ap (λ (z : ℕ). number_in_word (get_or words' z 0)) b ∙ ap number_in_word here ∙ old_number)))
      (λ b. s.once i j low low' (sym (ap number_in_word (there i a)) ∙ same ∙ ap number_in_word (there j b))) (cases_eq j last)) (cases_eq i last)

  pub stocks_published : Stocks w (record k { words = words'; free = last; replaced = k.replaced + 1 })
  stocks_published = subst (λ (z : SeatView). Stocks z (record k { words = words'; free = last; replaced = k.replaced + 1 })) (sym is) record {
    lane = lane';
    only = ap (on_first (publishing_from number mark)) s.only;
    used = s.used;
    numbers = s.numbers;
    era = s.era;
    free = λ i low. subst (λ (z : ℕ). MayStore (publishing v book number taken) (number_in_word z)) (sym (there i (λ same. absurd (omega arith))))
        (may_store_publishing v (publishing v book number taken) book number (number_in_word (get_or k.words i 0)) taken refl (not_next i (omega arith) (λ same. absurd (omega arith))) (s.free i (omega arith)));
    replaced = λ i past low. ⊎_elim
        (λ (at : i ≡ last). record { entry = mark; listed = (length s.lane.replaced + 0, at_after s.lane.replaced (mark ∷ []) 0 mark refl); named = ap (λ (z : ℕ). get_or words' z 0) at ∙ here ∙ named; exists = its.exists })
        (λ ne. let t = s.replaced i (omega (arith, ne)) (omega arith) in record { entry = t.entry; listed = (t.listed.0, at_longer s.lane.replaced (mark ∷ []) t.listed.0 t.entry t.listed.1); named = there i ne ∙ t.named; exists = t.exists }) (cases_eq i last);
    waits = λ i past low. let inside : i < length k.words = subst (λ (z : ℕ). i < z) (length-set k.words last old) low in let t = s.waits i (omega arith) inside in let ne : i ≢ last = λ same. absurd (omega arith) in
        let exists = t.exists in let numbers = s.numbers in let mine : t.own.number ≢ number = λ same. not_next i inside ne (ap number_in_word t.named ∙ number_named t.own.life.birth t.own.number (omega arith) ∙ same) in record {
          own = t.own;
          listed = filter_listed (λ x. not (x.number == number)) s.lane.owned t.own (ap not (ne_eqb t.own.number number mine)) t.listed;
          named = there i ne ∙ t.named;
          died = t.died;
          exists = t.exists;
          long = t.long;
          scanned = t.scanned;
        };
    counted = length-append s.lane.replaced (mark ∷ []) ∙ ap (λ (z : ℕ). z + 1) s.counted;
    once = λ i j low low'. once' i j (subst (λ (z : ℕ). i < z) (length-set k.words last old) low) (subst (λ (z : ℕ). j < z) (length-set k.words last old) low');
  }

-- what was replaced was retired
pub stocks_retired : (v w : SeatView) (k : StockFacts) (deaths : List ℕ) (era : ℕ) (taken : StepTaken) → Stocks v k → w ≡ retiring v era taken → ((i : ℕ) → k.free ≤ i → i < k.free + k.replaced → get_or deaths i 0 ≡ era)
    → ((i : ℕ) → k.free + k.replaced ≤ i → get_or deaths i 0 ≡ get_or k.deaths i 0) → Stocks w (record k { deaths = deaths; replaced = 0 })
stocks_retired v w k deaths era taken s is now before = subst (λ (z : SeatView). Stocks z (record k { deaths = deaths; replaced = 0 })) (sym is) record {
  lane = retiring_in era s.lane;
  only = ap (on_first (retiring_in era)) s.only;
  used = s.used;
  numbers = s.numbers;
  era = s.era;
  free = λ i low. let may = s.free i low in record {
    lane = retiring_in era may.lane;
    only = ap (on_first (retiring_in era)) may.only;
    own = may.own;
    listed = (may.listed.0, at_longer may.lane.owned (map (retired_in era) may.lane.replaced) may.listed.0 may.own may.listed.1);
    numbered = may.numbered;
    exists = may.exists;
    long = may.long;
    scanned = may.scanned;
  };
  replaced = λ i past low. absurd (omega arith);
  waits = λ i past low. ⊎_elim
      (λ (early : i < k.free + k.replaced). let t = s.replaced i (omega arith) early in record {
        own = retired_in era t.entry;
        listed = let m = map_listed (retired_in era) s.lane.replaced t.entry t.listed in (length s.lane.owned + m.0, at_after s.lane.owned (map (retired_in era) s.lane.replaced) m.0 (retired_in era t.entry) m.1);
        named = t.named;
        died = now i (omega arith) early;
        exists = t.exists;
        long = length-map-range_with_len (λ j. get_or t.entry.words j 0) 0 record_words;
        scanned = omega arith;
      })
      (λ late. let t = s.waits i late low in record {
        own = t.own;
        listed = (t.listed.0, at_longer s.lane.owned (map (retired_in era) s.lane.replaced) t.listed.0 t.own t.listed.1);
        named = t.named;
        died = before i late ∙ t.died;
        exists = t.exists;
        long = t.long;
        scanned = t.scanned;
      }) (cases_lt i (k.free + k.replaced));
  counted = refl;
  once = s.once;
}

-- ---- records that change places

module _ (i f : ℕ) where
  abbrev pub swapped : ℕ → ℕ
  swapped j = if j == f then i else if j == i then f else j

  at_f : swapped f ≡ i
  at_f = ap (λ (b : Bool). if b then i else if f == i then f else f) (eq-eqb f f refl)

  at_i : swapped i ≡ f
  at_i = ⊎_elim (λ (same : i ≡ f). ap (λ (b : Bool). if b then i else if i == i then f else i) (eq-eqb i f same) ∙ same)
      (λ ne. ap (λ (b : Bool). if b then i else if i == i then f else i) (ne_eqb i f ne) ∙ ap (λ (b : Bool). if b then f else i) (eq-eqb i i refl)) (cases_eq i f)

  at_other : (j : ℕ) → j ≢ f → j ≢ i → swapped j ≡ j
  at_other j ne ne' = ap (λ (b : Bool). if b then i else if j == i then f else j) (ne_eqb j f ne) ∙ ap (λ (b : Bool). if b then f else j) (ne_eqb j i ne')

  swapped_twice : (j : ℕ) → swapped (swapped j) ≡ j
  swapped_twice j = ⊎_elim (λ (a : j ≡ f). ap (λ (z : ℕ). swapped (swapped z)) a ∙ ap swapped at_f ∙ at_i ∙ sym a)
      (λ a. ⊎_elim (λ (b : j ≡ i). ap (λ (z : ℕ). swapped (swapped z)) b ∙ ap swapped at_i ∙ at_f ∙ sym b) (λ b. ap swapped (at_other j a b) ∙ at_other j a b) (cases_eq j i)) (cases_eq j f)

  swapped_inside : (j n : ℕ) → i < n → f < n → j < n → swapped j < n
  swapped_inside j n low low' inside = ⊎_elim (λ (a : j ≡ f). let is = ap swapped a ∙ at_f in omega arith)
      (λ a. ⊎_elim (λ (b : j ≡ i). let is = ap swapped b ∙ at_i in omega arith) (λ b. let is = at_other j a b in omega arith) (cases_eq j i)) (cases_eq j f)

  swap_at : (l : List ℕ) → i < length l → f < length l → (j : ℕ) → get_or (set (set l i (get_or l f 0)) f (get_or l i 0)) j 0 ≡ get_or l (swapped j) 0
  swap_at l low low' j = let l' = set l i (get_or l f 0) in let x = get_or l i 0 in ⊎_elim
      (λ (a : j ≡ f). ap (λ (z : ℕ). get_or (set l' f x) z 0) a ∙ get_or-set_same l' f x 0 (subst (λ (z : ℕ). f < z) (sym (length-set l i (get_or l f 0))) low') ∙ ap (λ (z : ℕ). get_or l z 0) (sym (ap swapped a ∙ at_f)))
      (λ a. get_or-set_other l' f j x 0 a ∙ ⊎_elim
      (λ (b : j ≡ i). ap (λ (z : ℕ). get_or l' z 0) b ∙ get_or-set_same l i (get_or l f 0) 0 low ∙ ap (λ (z : ℕ). get_or l z 0) (sym (ap swapped b ∙ at_i)))
      (λ b. get_or-set_other l i j (get_or l f 0) 0 b ∙ ap (λ (z : ℕ). get_or l z 0) (sym (at_other j a b))) (cases_eq j i)) (cases_eq j f)

-- none was looked at
pub sorts_none : (eras : List ℕ) (k : StockFacts) → k.free ≤ length k.words → Sorts eras k k k.free
sorts_none eras k few = record { frees = omega arith; few = few; long = refl; long_deaths = refl; replaced = refl; era = refl; was = λ i. i; inside = λ i low. low; words = λ i low. refl; deaths = λ i low. refl; once = λ i j low low' same. same; first = λ i low. refl; past = λ i le. le; freed = λ i past low. absurd (omega arith); held = λ i past low. absurd (omega arith) }

-- what is held was retired no earlier than in the first era of what holds it
held_ends : (some_era born died : Bool) → (if some_era then (if born then died else false) else false) ≡ true → (some_era ≡ true) × (died ≡ true)
held_ends true true died held = (refl, held)
held_ends true false died held = cc
held_ends false born died held = cc

-- so what was retired before all of them is held by none
pub none_before : (eras : List ℕ) (lowest birth death : ℕ) → ((slot : ℕ) → slot < length eras → 0 < get_or eras slot 0 → lowest ≤ first_era (get_or eras slot 0)) → death < lowest
    → (slot : ℕ) → slot < length eras → IsHeld (get_or eras slot 0) birth death → ⊥
none_before eras lowest birth death least early slot low held = let era = get_or eras slot 0 in let ends = held_ends (nat_lt 0 era) (nat_le birth era) (nat_le (first_era era) death) held in
    let le = least slot low (ltb-true 0 era ends.0) in let died = leb-true (first_era era) death ends.1 in omega arith

module _ (eras : List ℕ) (k a : StockFacts) (i : ℕ) (low : i < length k.words) (s : Sorts eras k a i) where
  -- one more is held
  pub sorts_held : (slot : ℕ) × (slot < length eras) × IsHeld (get_or eras slot 0) (birth_in_word (get_or a.words i 0)) (get_or a.deaths i 0) → Sorts eras k a (i + 1)
  sorts_held found = record {
    frees = s.frees;
    few = s.few;
    long = s.long;
    long_deaths = s.long_deaths;
    replaced = s.replaced;
    era = s.era;
    was = s.was;
    inside = s.inside;
    words = s.words;
    deaths = s.deaths;
    once = s.once;
    first = s.first;
    past = s.past;
    freed = s.freed;
    held = λ j past less. ⊎_elim
        (λ (same : j ≡ i). subst (λ (z : ℕ). (slot : ℕ) × (slot < length eras) × IsHeld (get_or eras slot 0) (birth_in_word (get_or a.words z 0)) (get_or a.deaths z 0)) (sym same) found)
        (λ ne. s.held j past (omega (arith, ne))) (cases_eq j i);
  }

  -- one more is free
  module _ (past_free : a.free ≤ i) (deaths_long : length k.deaths ≡ length k.words) (none : (slot : ℕ) → slot < length eras → IsHeld (get_or eras slot 0) (birth_in_word (get_or a.words i 0)) (get_or a.deaths i 0) → ⊥) where
    abbrev f : ℕ
    f = a.free

    abbrev after : StockFacts
    after = record a { words = set (set a.words i (get_or a.words f 0)) f (get_or a.words i 0); deaths = set (set a.deaths i (get_or a.deaths f 0)) f (get_or a.deaths i 0); free = a.free + 1 }

    word_at : (j : ℕ) → get_or after.words j 0 ≡ get_or a.words (swapped i f j) 0
    word_at j = let long = s.long in swap_at i f a.words (omega arith) (omega arith) j

    death_at : (j : ℕ) → get_or after.deaths j 0 ≡ get_or a.deaths (swapped i f j) 0
    death_at j = let long = s.long_deaths in swap_at i f a.deaths (omega arith) (omega arith) j

    inside_too : (j : ℕ) → j < length k.words → swapped i f j < length k.words
    inside_too j = swapped_inside i f j (length k.words) low (omega arith)

    pub sorts_freed : Sorts eras k after (i + 1)
    sorts_freed = let frees = s.frees in record {
      frees = omega arith;
      few = omega arith;
      long = length-set (set a.words i (get_or a.words f 0)) f (get_or a.words i 0) ∙ length-set a.words i (get_or a.words f 0) ∙ s.long;
      long_deaths = length-set (set a.deaths i (get_or a.deaths f 0)) f (get_or a.deaths i 0) ∙ length-set a.deaths i (get_or a.deaths f 0) ∙ s.long_deaths;
      replaced = s.replaced;
      era = s.era;
      was = λ j. s.was (swapped i f j);
      inside = λ j inside. s.inside (swapped i f j) (inside_too j inside);
      words = λ j inside. word_at j ∙ s.words (swapped i f j) (inside_too j inside);
      deaths = λ j inside. death_at j ∙ s.deaths (swapped i f j) (inside_too j inside);
      once = λ j j' inside inside' same. sym (swapped_twice i f j) ∙ ap (swapped i f) (s.once (swapped i f j) (swapped i f j') (inside_too j inside) (inside_too j' inside') same) ∙ swapped_twice i f j';
      first = λ j less. ap s.was (at_other i f j (λ same. absurd (omega arith)) (λ same. absurd (omega arith))) ∙ s.first j less;
      past = λ j le. s.past (swapped i f j) (⊎_elim (λ (x : j ≡ f). let is = ap (swapped i f) x ∙ at_f i f in omega arith)
          (λ x. ⊎_elim (λ (y : j ≡ i). let is = ap (swapped i f) y ∙ at_i i f in omega arith) (λ y. let is = at_other i f j x y in omega arith) (cases_eq j i)) (cases_eq j f));
      freed = λ j le less slot below held. ⊎_elim
          (λ (x : j ≡ f). none slot below (subst (λ (z : ℕ × ℕ). IsHeld (get_or eras slot 0) (birth_in_word z.0) z.1) (λ t. ((word_at j ∙ ap (λ (z : ℕ). get_or a.words z 0) (ap (swapped i f) x ∙ at_f i f)) t, (death_at j ∙ ap (λ (z : ℕ). get_or a.deaths z 0) (ap (swapped i f) x ∙ at_f i f)) t)) held))
          (λ x. let same : swapped i f j ≡ j = at_other i f j x (λ y. absurd (omega (arith, x))) in
          s.freed j le (omega (arith, x)) slot below (subst (λ (z : ℕ × ℕ). IsHeld (get_or eras slot 0) (birth_in_word z.0) z.1) (λ t. ((word_at j ∙ ap (λ (z : ℕ). get_or a.words z 0) same) t, (death_at j ∙ ap (λ (z : ℕ). get_or a.deaths z 0) same) t)) held)) (cases_eq j f);
      held = λ j le less. let back : ((slot : ℕ) × (slot < length eras) × IsHeld (get_or eras slot 0) (birth_in_word (get_or a.words (swapped i f j) 0)) (get_or a.deaths (swapped i f j) 0)) → (slot : ℕ) × (slot < length eras) × IsHeld (get_or eras slot 0) (birth_in_word (get_or after.words j 0)) (get_or after.deaths j 0) =
          λ t. (t.0, t.1, subst (λ (z : ℕ × ℕ). IsHeld (get_or eras t.0 0) (birth_in_word z.0) z.1) (λ u. (sym (word_at j) u, sym (death_at j) u)) t.2) in
          back (⊎_elim (λ (y : j ≡ i). let is = ap (swapped i f) y ∙ at_i i f in s.held (swapped i f j) (omega arith) (omega arith)) (λ y. let is = at_other i f j (λ x. absurd (omega arith)) y in s.held (swapped i f j) (omega arith) (omega (arith, y))) (cases_eq j i));
    }

-- ---- what all reservations leave

module _ (v w : SeatView) (k after : StockFacts) (eras : ℕ → ℕ) (list : List ℕ) (s : Stocks v k) (none : k.replaced ≡ 0) (l : HasLoaded v eras v.shape.reservations w) (sorted : Sorts list k after (length k.words))
    (long : length list ≡ v.shape.reservations) (are : (slot : ℕ) → slot < v.shape.reservations → get_or list slot 0 ≡ eras slot) where
  abbrev all : ℕ
  all = v.shape.reservations

  same_shape : w.shape ≡ v.shape
  same_shape = ap (λ (z : SeatView). z.shape) l.same

  only_now : (h : Held) → HoldsOnly v h → HoldsOnly w (passing_all eras all h)
  only_now h only = l.held ∙ ap (on_first (passing_all eras all)) only

  passed_here : (x : Owned) → IsPassed eras all all x (passed_all eras all x)
  passed_here x = is_passed eras all all x (omega arith)

  waits_now : (word death : ℕ) → HasWaiting v.shape s.lane word death → HasWaiting v.shape (passing_all eras all s.lane) word death
  waits_now word death t = let p = passed_here t.own in let exists = t.exists in let number = p.number in record {
    own = passed_all eras all t.own;
    listed = map_listed (passed_all eras all) s.lane.owned t.own t.listed;
    named = t.named ∙ (λ i. naming (sym p.born i) (sym p.number i));
    died = t.died ∙ sym p.died;
    exists = omega arith;
    long = ap length p.words ∙ t.long;
    scanned = p.most t.scanned;
  }

  may_now : (h : Held) (number : ℕ) (x : Owned) → HoldsOnly v h → Lists h.owned x → x.number ≡ number → x.number < record_count v.shape → length x.words ≡ record_words → (passed_all eras all x).life.scanned ≡ all → MayStore w number
  may_now h number x only listed numbered exists words_long scanned = let p = passed_here x in let n = p.number in record {
    lane = passing_all eras all h;
    only = only_now h only;
    own = passed_all eras all x;
    listed = map_listed (passed_all eras all) h.owned x listed;
    numbered = p.number ∙ numbered;
    exists = subst (λ (z : Shape). (passed_all eras all x).number < record_count z) (sym same_shape) (omega arith);
    long = ap length p.words ∙ words_long;
    scanned = scanned ∙ ap (λ (z : Shape). z.reservations) (sym same_shape);
  }

  free_now : (i : ℕ) → i < after.free → MayStore w (number_in_word (get_or after.words i 0))
  free_now i low = let few = sorted.few in let word = sorted.words i (omega arith) in let death = sorted.deaths i (omega arith) in ⊎_elim
      (λ (early : i < k.free). let may = s.free i early in let p = passed_here may.own in
      may_now may.lane (number_in_word (get_or after.words i 0)) may.own may.only may.listed (may.numbered ∙ ap (λ (z : ℕ). number_in_word (get_or k.words z 0)) (sym (sorted.first i early)) ∙ ap number_in_word (sym word)) may.exists may.long (p.stays may.scanned))
      (λ past. let at : ℕ = sorted.was i in let le = sorted.past i past in let t = s.waits at (omega arith) (sorted.inside i (omega arith)) in let p = passed_here t.own in let exists = t.exists in let numbers = s.numbers in
      let number : t.own.number < 2 ^ 24 = omega arith in
      let upper = p.most t.scanned in
      let lower = p.passed (λ slot below held. sorted.freed i past low slot (omega arith) (subst (λ (z : ℕ × ℕ × ℕ). IsHeld z.0 z.1 z.2)
      (λ j. (sym (are slot below) j, (sym (birth_named t.own.life.birth t.own.number number) ∙ ap birth_in_word (sym t.named) ∙ ap birth_in_word (sym word)) j, (sym t.died ∙ sym death) j)) held)) in
      may_now s.lane (number_in_word (get_or after.words i 0)) t.own s.only t.listed (sym (ap number_in_word word ∙ ap number_in_word t.named ∙ number_named t.own.life.birth t.own.number number)) t.exists t.long (let is : (passed_all eras all t.own).life.scanned ≡ all = omega arith in is)) (cases_lt i k.free)

  pub stocks_scanned : Stocks w after
  stocks_scanned = let frees = sorted.frees in let replaced = sorted.replaced in let same = sorted.long in record {
    lane = passing_all eras all s.lane;
    only = only_now s.lane s.only;
    used = subst (λ (z : Shape). 0 < z.reservations) (sym same_shape) s.used;
    numbers = subst (λ (z : Shape). record_count z ≤ 2 ^ 24) (sym same_shape) s.numbers;
    era = subst (λ (z : List Reserved × ℕ). ReservesAt z.0 s.lane.lane z.1) (λ i. (ap (λ (z : SeatView). z.reserved) (sym l.same) i, sym sorted.era i)) s.era;
    free = free_now;
    replaced = λ i past low. absurd (omega arith);
    waits = λ i past low. let le = sorted.past i (omega arith) in let inside = sorted.inside i (omega arith) in
        subst (λ (z : Shape × ℕ × ℕ). HasWaiting z.0 (passing_all eras all s.lane) z.1 z.2) (λ j. (sym same_shape j, sym (sorted.words i (omega arith)) j, sym (sorted.deaths i (omega arith)) j))
        (waits_now (get_or k.words (sorted.was i) 0) (get_or k.deaths (sorted.was i) 0) (s.waits (sorted.was i) (omega arith) inside));
    counted = s.counted ∙ sym sorted.replaced;
    once = λ i j low low' is. sorted.once i j (omega arith) (omega arith) (s.once (sorted.was i) (sorted.was j) (sorted.inside i (omega arith)) (sorted.inside j (omega arith))
        (ap number_in_word (sym (sorted.words i (omega arith))) ∙ is ∙ ap number_in_word (sorted.words j (omega arith))));
  }

  pub scans_all : Scans v k w after
  scans_all = record {
    eras = eras;
    steps = l.steps;
    same = l.same;
    lane = λ h only. (passing_all eras all h, only_now h only, refl, refl, refl);
    frees = sorted.frees;
    keeps = (sorted.long, sorted.replaced, sorted.era);
    held = λ i past low. let same = sorted.long in let t = sorted.held i past (omega arith) in let below = t.1 in let inside : t.0 < all = omega arith in
        (t.0, inside, subst (λ (z : ℕ). IsHeld z (birth_in_word (get_or after.words i 0)) (get_or after.deaths i 0)) (are t.0 inside) t.2);
  }

-- ---- the calls

module _ (face : ℕ → ℕ → List (ℕ × ℕ) → List ℕ) (v w : SeatView) (k : StockFacts) (q old birth number : ℕ) (done : Bool) (s : Stocks v k) (some : 0 < k.free) (next : number ≡ number_in_word (get_or k.words (k.free - 1) 0)) (tried : TriedNode face v q old (naming birth number) done w) where
  pub told : TriesNode face v q old number (naming birth number) tried.found w
  told = let may = s.free (k.free - 1) (omega arith) in tried.told birth number (subst (λ (z : ℕ). z < record_count v.shape) (may.numbered ∙ sym next) may.exists) (sym (named_used v.shape birth number s.used))

  pub tried_shape : w.shape ≡ v.shape
  tried_shape = told.shaped

  pub stocks_tried : done ≡ true → k.free + k.replaced ≤ length k.words → Stocks w (record k { words = set k.words (k.free - 1) old; free = k.free - 1; replaced = k.replaced + 1 })
  stocks_tried hits few = let hit = tried.decided.0 hits in stocks_published v w k w.seen number old (try_node q old (naming birth number) tried.found) s some few next (told.hit hit).0 (λ h only. told.other s.used hit h only)

  pub stocks_missed : done ≡ false → Stocks w k
  stocks_missed misses = let miss = told.miss (λ hit. false≢true (sym misses ∙ tried.decided.1 hit)) in
      stocks_same v w k s (ap (λ (z : SeatView). z.shape) miss.0) (ap (λ (z : SeatView). z.held) miss.0) (ap (λ (z : SeatView). z.reserved) miss.0)

-- an era was loaded and reserved, and perhaps turned in between
module _ (v u t w : SeatView) (found era : ℕ) (more : List StepTaken) (word : ℕ → ℕ) (loaded : LoadsEra v found u) (after : t ≡ record u { reached = t.reached; steps = u.steps ++ more }) (none : All quiet more) (is : era ≡ word found) (r : Reserves t (own_lane t.held) era w) where
  same_u : u ≡ record v { reached = found; steps = v.steps ++ load_era (era_place v.shape) found ∷ [] }
  same_u = loaded.stepped

  same_t : t ≡ record v { reached = t.reached; steps = (v.steps ++ load_era (era_place v.shape) found ∷ []) ++ more }
  same_t = after ∙ (λ i. record (same_u i) { reached = t.reached; steps = (ap (λ (z : SeatView). z.steps) same_u i) ++ more })

  abbrev store : StepTaken
  store = store_reservation (reservation_place t.shape (own_lane t.held)) era

  pub reserves_anew : (most : ℕ) → length more + 2 ≤ most → ReservesAnew word most v w era
  reserves_anew most few = record {
    now = r.now;
    same = r.stepped ∙ (λ i. record (same_t i) { reserved = r.now ∷ but_slot (own_lane (ap (λ (z : SeatView). z.held) same_t i)) (ap (λ (z : SeatView). z.reserved) same_t i); reached = t.reached; steps = t.steps ++ store ∷ [] })
        ∙ (λ i. record v { reserved = r.now ∷ but_slot (own_lane v.held) v.reserved; reached = ap (λ (z : SeatView). z.reached) (sym r.stepped) i; steps = ap (λ (z : SeatView). z.steps) (sym r.stepped) i });
    found = found;
    more = more ++ store ∷ [];
    steps = ap (λ (z : SeatView). z.steps) r.stepped ∙ ap (λ (z : SeatView). z.steps ++ store ∷ []) same_t ∙ append_assoc (v.steps ++ load_era (era_place v.shape) found ∷ []) more (store ∷ [])
        ∙ append_assoc v.steps (load_era (era_place v.shape) found ∷ []) (more ++ store ∷ []);
    few = let long = length-append more (store ∷ []) in omega arith;
    no_try = All-append quiet more (store ∷ []) none (no_try_one (store) refl);
    era_found = is;
    slot = r.slot_is ∙ ap (λ (z : SeatView). own_lane z.held) same_t;
    era_is = r.era_is;
    closed = subst (λ (z : SeatView). IsClosed z.shape z.seen (floor_of r.now)) same_t r.closed;
  }

pub turned_on : (u t : SeatView) (era : ℕ) (taken : StepTaken) → t ≡ reaching u era taken → t ≡ record u { reached = t.reached; steps = u.steps ++ taken ∷ [] }
turned_on u t era taken is = is ∙ (λ i. record u { reached = ap (λ (z : SeatView). z.reached) (sym is) i; steps = u.steps ++ taken ∷ [] })

pub not_turned : (u t : SeatView) → t ≡ u → t ≡ record u { reached = t.reached; steps = u.steps ++ [] }
not_turned u t is = is ∙ (λ i. record u { reached = ap (λ (z : SeatView). z.reached) (sym is) i; steps = sym (append-nil u.steps) i })

-- what was reserved there was let go of
pub stocks_released : (v w : SeatView) (k : StockFacts) → Stocks v k → w ≡ releasing v (own_lane v.held) → Stocks w (record k { era = 0 })
stocks_released v w k s is = let own : own_lane v.held ≡ s.lane.lane = ap own_lane s.only in stocks_on v w k 0 s (ap (λ (z : SeatView). z.shape) is) (ap (λ (z : SeatView). z.held) is)
    (subst (λ (z : List Reserved). ReservesAt z s.lane.lane 0) (sym (ap (λ (z : SeatView). z.reserved) is)) (subst (λ (z : ℕ). ReservesAt (but_slot z v.reserved) s.lane.lane 0) (sym own) (reserves_none s.lane.lane v.reserved)))

-- the stock stays
pub stocks_anew : (word : ℕ → ℕ) (most : ℕ) (v w : SeatView) (k : StockFacts) (era : ℕ) → 0 < era → Stocks v k → ReservesAnew word most v w era → Stocks w (record k { era = era })
stocks_anew word most v w k era some s r = let own : own_lane v.held ≡ s.lane.lane = ap own_lane s.only in stocks_on v w k era s (ap (λ (z : SeatView). z.shape) r.same) (ap (λ (z : SeatView). z.held) r.same)
    (subst (λ (z : List Reserved). ReservesAt z s.lane.lane era) (sym (ap (λ (z : SeatView). z.reserved) r.same)) (subst (λ (z : ℕ). ReservesAt (r.now ∷ but_slot z v.reserved) s.lane.lane era) (sym own) (reserves_now r.now s.lane.lane era v.reserved some (r.slot ∙ own) r.era_is)))

-- the stock of a pass that was just handed out
pub opens_stock : (face : ℕ → ℕ → List (ℕ × ℕ) → List ℕ) (lead after v : SeatView) (lane : ℕ) → IsNextLane lead lane → HandsLaneOut face lead after v → OpensStock v
opens_stock face lead _ v lane next h = let place : ℕ = own_lane_place (handed_out h.between) in let is = h.loaded.stepped in
    let which : unwrap_or h.between.spare 0 ≡ lane = ap (λ (z : SeatView). unwrap_or z.spare 0) is ∙ ap (λ (o : Option ℕ). unwrap_or o 0) next.next in
    let inside : unwrap_or h.between.spare 0 < h.between.shape.workers = subst (λ (z : ℕ × Shape). z.0 < z.1.workers) (λ i. (sym which i, sym (ap (λ (z : SeatView). z.shape) is) i)) next.exists in
    subst OpensStock (sym h.pass_is) record {
      lane = in_state Taken (new_lane h.between.shape h.between.words (unwrap_or h.between.spare 0));
      only = refl;
      owns = λ k low. new_lane_owns h.between place k inside low;
      replaced = refl;
      none = refl;
    }

-- ---- a record that is filled

pub stocks_storing : (v : SeatView) (k : StockFacts) (place value : ℕ) → Stocks v k → Stocks (storing v place value) k
stocks_storing v k place value s = record {
  lane = storing_in v.shape place value s.lane;
  only = ap (on_first (storing_in v.shape place value)) s.only;
  used = s.used;
  numbers = s.numbers;
  era = s.era;
  free = λ i low. after_store v place value (number_in_word (get_or k.words i 0)) (s.free i low);
  replaced = λ i past low. let t = s.replaced i past low in record { entry = t.entry; listed = t.listed; named = t.named; exists = t.exists };
  waits = λ i past low. let t = s.waits i past low in record {
    own = with_word v.shape place value t.own;
    listed = map_listed (with_word v.shape place value) s.lane.owned t.own t.listed;
    named = t.named;
    died = t.died;
    exists = t.exists;
    long = with_long v.shape place value t.own ∙ t.long;
    scanned = t.scanned;
  };
  counted = s.counted;
  once = s.once;
}

pub stocks_stored : (v : SeatView) (k : StockFacts) (number : ℕ) (words : List ℕ) (n : ℕ) → Stocks v k → Stocks (stored v number words n) k
stocks_stored v k number words zero s = s
stocks_stored v k number words (suc n) s = stocks_storing (stored v number words n) k (record_start (stored v number words n).shape number + n) (get_or words n 0) (stocks_stored v k number words n s)
