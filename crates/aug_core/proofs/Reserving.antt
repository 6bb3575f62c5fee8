-- A seat loads the era, turns it, reserves an era, and lets go of it.
use Rattle.std.proofs.Common.{true, not, ◌≡◌, ◌≢◌, ◌⊎◌, inl, ℕ, ◌+◌, ◌<◌, ◌≤◌, Bool, if◌then◌else◌, eqb, eq-eqb, ne_eqb, List, [], ◌∷◌, ◌++◌, length, map, get_or, set, refl, sym, ap, ◌∙◌, subst, ⊎_elim, arith, length-set, get_or-set_other, get_or-set_same}
use Rattle.std.specs.List.{range_with_len}
use Rattle.std.proofs.lemmas.Bool.{cases_lt}
use Rattle.std.proofs.lemmas.List.{get_or_past}
use Rattle.std.proofs.lemmas.List.FromFn.{length-map-range_with_len, get_or-map-range_with_len}
use mathlib.Core.Bool.{true≢false}
use mathlib.Core.Option.{none, some}
use lib.ListN.{get_elem?}
use prog.Atomic.{either}
use Rattle.atomic_table.specs.Table.{step, keeps, Allows}
use Rattle.atomic_table.proofs.Lists.{exchanged}
use Rattle.aug_core.specs.Places.{Shape, lane_place, record_start, record_count, record_words, era_place, reservation_place}
use Rattle.aug_core.specs.Addresses.{place_count, IsInner, left_of, right_of}
use Rattle.aug_core.specs.Book.{At}
use Rattle.aug_core.specs.Opening.{Opening}
use Rattle.aug_core.specs.Records.{first_era, floor_of, Lists, IsThere, IsClosed, Protects, HoldsOnce, lane_of, IsItsLane, KeepsView, OwnsRecord}
use Rattle.aug_core.specs.Rule.{HoldsLane, Kept}
use Rattle.aug_core.specs.Kinds.{load_era, turn_era, store_reservation}
use Rattle.aug_core.specs.Effects.{Sat, HoldsOnly}
use Rattle.aug_core.specs.Reclaiming.{reaching, loaded_era, turned_era, reserved_era, released_era, Reserves, releasing, but_slot}
use Rattle.aug_core.specs.inside.Reclaims.{MayReserve}
use Rattle.aug_core.specs.inside.EraSteps.{WithEra}
use Rattle.aug_core.specs.declared.step.StepTaken.{StepTaken}
use Rattle.aug_core.specs.declared.view.Entry.{Entry}
use Rattle.aug_core.specs.declared.view.Held.{Held}
use Rattle.aug_core.specs.declared.view.Owned.{Owned}
use Rattle.aug_core.specs.declared.view.Reserved.{Reserved}
use Rattle.aug_core.specs.declared.view.SeatView.{SeatView}
use Rattle.aug_core.proofs.Sizes.{twice}
use Rattle.aug_core.proofs.Owning.{listed_filter, listed_first}
use Rattle.aug_core.proofs.Keeping.{stands_once, LeavesRecords, protects_on, view_but, view_on, replaced_on, records_on}
use Rattle.aug_core.proofs.Moves.{St, MayMove, rests, moves_on, stands, knows_keeping}
use Rattle.aug_core.proofs.States.{Did}
use Rattle.aug_core.proofs.PrefixLemmas.{book_refl, entry_stays}

module _ (face : ℕ → ℕ → List (ℕ × ℕ) → List ℕ) (o : Opening) where
  module _ (s : St) (r : Kept face o s) (id : ℕ) (v : SeatView) (at : get_elem? s.views id ≡ some v) where
    -- the view reserved something else, or knows another era
    abbrev pub standing_by : List Reserved → ℕ → List StepTaken → SeatView
    standing_by reserved reached steps = record v { held = v.held; reserved = reserved; reached = reached; steps = steps }

    -- a step that changes a word behind the records, and sets the era no lower
    module _ (i x : ℕ) (behind : record_start o.shape (record_count o.shape) ≤ i) (later : get_or s.words (era_place o.shape) 0 ≤ get_or (set s.words i x) (era_place o.shape) 0) where
      abbrev after : List ℕ
      after = set s.words i x

      before : (j : ℕ) → j < record_start o.shape (record_count o.shape) → get_or after j 0 ≡ get_or s.words j 0
      before j low = get_or-set_other s.words i j x 0 (λ is. omega arith)

      record_before : (number k : ℕ) → number < record_count o.shape → k < record_words → get_or after (record_start o.shape number + k) 0 ≡ get_or s.words (record_start o.shape number + k) 0
      record_before number k low small = before (record_start o.shape number + k) (omega arith)

      pub leaves : LeavesRecords o.shape s.words r.fate r.gone r.book after r.fate r.book
      leaves = record {
        era = later;
        grows = book_refl r.book;
        there = λ q j e inner p t. record { stands = t.stands; words_are = λ k small. record_before e.number k (r.tree.is_book.below q j e inner p) small ∙ t.words_are k small };
        waits = λ y q j e inner p inside some_era word w has. (w, λ k small. record_before e.number k (r.tree.is_book.below q j e inner p) small ∙ has k small);
        came = λ q j e inner p. inl p;
        opened = λ off number low is. is;
      }

      owns_on : (lane : ℕ) (y : Owned) → OwnsRecord o.shape s.words r.fate lane y → OwnsRecord o.shape after r.fate lane y
      owns_on lane y owns = record { exists = owns.exists; long = owns.long; exact = λ k small. record_before y.number k owns.exists small ∙ owns.exact k small; fate_is = owns.fate_is }

      lane_before : (lane : ℕ) → lane < o.shape.workers → get_or after (lane_place o.shape lane) 0 ≡ get_or s.words (lane_place o.shape lane) 0
      lane_before lane low = before (lane_place o.shape lane) (omega arith)

      holds_on : (h : Held) → HoldsLane o.shape s.words r.fate h → HoldsLane o.shape after r.fate h
      holds_on h l = record { exists = l.exists; state = lane_before h.lane l.exists ∙ l.state; owns = λ y t. owns_on h.lane y (l.owns y t) }

      -- it may be made, where what other views reserved stays
      moves_behind : ((j : ℕ) (u : SeatView) (y : Reserved) → j ≢ id → get_elem? s.views j ≡ some u → Lists u.reserved y → y.slot < o.shape.reservations → get_or after (reservation_place o.shape y.slot) 0 ≡ get_or s.words (reservation_place o.shape y.slot) 0)
          → MayMove face o s r id v after r.book r.fate r.gone
      moves_behind others = record {
        tree = record {
          wide = length-set s.words i x ∙ r.tree.wide;
          is_book = r.tree.is_book;
          opened = r.tree.opened;
          newest = λ q low. let t = r.tree.newest q low in record { index = t.index; entry = t.entry; newest = t.newest; word = before q (let b = twice o.shape.bits in omega arith) ∙ t.word; shown = t.shown };
          shared = λ off level low k small. record_before level k (omega arith) small ∙ r.tree.shared off level low k small;
          idle = λ off number k is small. record_before number k (let few = is.opening in omega arith) small ∙ r.tree.idle off number k is small;
        };
        records = records_on o.shape s.words r.fate r.gone r.book after r.fate r.book leaves r.records;
        grows = book_refl r.book;
        lanes = λ lane low. inl (lane_before lane low);
        others = λ lane y not. owns_on lane y;
        fresh = λ seen saw f. f;
        kept = λ j u ne p. view_but o.shape s.words r.fate r.gone r.book after r.fate r.book leaves u (λ y e low. others j u y ne p e low);
      }

      -- and the rule holds with what the view reserved then, if it can count on that
      pub keeps_behind : ((j : ℕ) (u : SeatView) (y : Reserved) → j ≢ id → get_elem? s.views j ≡ some u → Lists u.reserved y → y.slot < o.shape.reservations → get_or after (reservation_place o.shape y.slot) 0 ≡ get_or s.words (reservation_place o.shape y.slot) 0)
          → (reserved : List Reserved) (reached : ℕ) (steps : List StepTaken) → KeepsView o.shape after r.fate r.gone r.book (standing_by reserved reached steps) → Kept face o record { words = after; homes = s.homes; views = set s.views id (standing_by reserved reached steps) }
      keeps_behind others reserved reached steps keeps_it = let moved = moves_behind others in
          moves_on face o s r id v after r.book r.fate r.gone moved at (standing_by reserved reached steps) record { back = λ a h p. (h, p, refl, refl); forth = λ a h p. (h, p, refl, refl); spare = refl }
          (knows_keeping face o s r id v after r.book r.fate r.gone moved at v.held reserved reached steps (λ a h p. holds_on h ((r.each_view id v at).holds a h p)) keeps_it) (λ key low. refl)

    -- a view that knows another era, which was reached, can count on what it could
    pub knows_era : (words : List ℕ) (reached : ℕ) (steps : List StepTaken) → reached ≤ get_or words (era_place o.shape) 0 → KeepsView o.shape words r.fate r.gone r.book v → KeepsView o.shape words r.fate r.gone r.book (standing_by v.reserved reached steps)
    knows_era words reached steps le k = record {
      reserved = λ y e. let t = k.reserved y e in (record { index = t.0.index; held = t.0.held; at = t.0.at; is = t.0.is }, t.1);
      once = k.once;
      reached = le;
      replaced = k.replaced;
    }

  -- ---- the era

  pub loads_era : (n id place : ℕ) (me : Sat) → me.0.live ≡ true → me.1 ≡ [] → place ≡ era_place me.0.shape → Allows (Kept face o) n id me place (λ x. x) (WithEra me (loaded_era (step n place 0 0 none) me))
  loads_era n id place me live empty is s r _ at _ =
      let v : SeatView = me.0 in let kn = r.each_view id v at in let found : ℕ = get_or s.words place 0 in let is' : place ≡ era_place o.shape = is ∙ ap (λ (z : Shape). era_place z) (kn.shaped live) in
      let steps : List StepTaken = v.steps ++ load_era place found ∷ [] in let same : found ≡ get_or s.words (era_place o.shape) 0 = ap (λ (z : ℕ). get_or s.words z 0) is' in let known = kn.records.reached in (
        reaching v found (load_era place found),
        keeps,
        tt,
        stands face o s r id v at (standing_by s r id v at v.reserved found steps) record { back = λ a h p. (h, p, refl, refl); forth = λ a h p. (h, p, refl, refl); spare = refl }
            (knows_keeping face o s r id v s.words r.book r.fate r.gone (rests face o s r id v at) at v.held v.reserved found steps kn.holds (knows_era s r id v at s.words found steps (omega arith) kn.records)) place,
        (
          (empty, refl, omega arith),
          record { live = refl; era = refl; past = refl; shape = refl; members = refl; told = refl; base = refl; whole = refl; led = λ m e. (m, e) },
          record { reads = refl; lent = refl; leads = λ m e. (m, e); works = λ work. work },
        ),
      )

  pub turns_era : (n id place era : ℕ) (me : Sat) → me.0.live ≡ true → me.1 ≡ [] → 0 < me.0.shape.reservations → place ≡ era_place me.0.shape
      → Allows (Kept face o) n id me place (λ x. either (eqb x era) (era + 1) x) (WithEra me (turned_era (step n place era (era + 1) none) me))
  turns_era n id place era me live empty used is s r _ at _ =
      let v : SeatView = me.0 in let kn = r.each_view id v at in let shaped = kn.shaped live in let found : ℕ = get_or s.words place 0 in let is' : place ≡ era_place o.shape = is ∙ ap (λ (z : Shape). era_place z) shaped in
      let taken : StepTaken = turn_era place era found in let steps : List StepTaken = v.steps ++ taken ∷ [] in let known = kn.records.reached in
      let same : found ≡ get_or s.words (era_place o.shape) 0 = ap (λ (z : ℕ). get_or s.words z 0) is' in
      let used' : 0 < o.shape.reservations = subst (λ (z : Shape). 0 < z.reservations) shaped used in
      exchanged found era (era + 1) (Did face o s place id me (WithEra me (turned_era (step n place era (era + 1) none) me)))
      (λ hit. let after : List ℕ = set s.words place (era + 1) in let wide = r.tree.wide in
      let there : get_or after (era_place o.shape) 0 ≡ era + 1 = ap (λ (z : ℕ). get_or (set s.words z (era + 1)) (era_place o.shape) 0) is' ∙ get_or-set_same s.words (era_place o.shape) (era + 1) 0 (omega arith) in
      let now : (if eqb found era then found + 1 else found) ≡ era + 1 = ap (λ (b : Bool). if b then found + 1 else found) (eq-eqb found era hit) ∙ ap (λ (z : ℕ). z + 1) hit in
      let behind : record_start o.shape (record_count o.shape) ≤ place = omega arith in let later : get_or s.words (era_place o.shape) 0 ≤ get_or after (era_place o.shape) 0 = omega arith in
      let slots : (slot : ℕ) → get_or after (reservation_place o.shape slot) 0 ≡ get_or s.words (reservation_place o.shape slot) 0 = λ slot. get_or-set_other s.words place (reservation_place o.shape slot) (era + 1) 0 (λ e. omega arith) in
      let k = view_on o.shape s.words r.fate r.gone r.book after r.fate r.book (leaves s r id v at place (era + 1) behind later) (λ slot low. slots slot) v kn.records in (
        reaching v (if eqb found era then found + 1 else found) taken,
        keeps,
        tt,
        subst (λ (z : ℕ). Kept face o record { words = after; homes = s.homes; views = set s.views id (standing_by s r id v at v.reserved z steps) }) (sym now)
            (keeps_behind s r id v at place (era + 1) behind later (λ j u y ne p e low. slots y.slot) v.reserved (era + 1) steps (knows_era s r id v at after (era + 1) steps (omega arith) k)),
        (
          (empty, refl, omega arith),
          record { live = refl; era = refl; past = refl; shape = refl; members = refl; told = refl; base = refl; whole = refl; led = λ m e. (m, e) },
          record { reads = refl; lent = refl; leads = λ m e. (m, e); works = λ work. work },
        ),
      ))
      (λ miss. let now : (if eqb found era then found + 1 else found) ≡ found = ap (λ (b : Bool). if b then found + 1 else found) (ne_eqb found era miss) in (
        reaching v (if eqb found era then found + 1 else found) taken,
        keeps,
        tt,
        subst (λ (z : ℕ). Kept face o record { words = set s.words place found; homes = s.homes; views = set s.views id (standing_by s r id v at v.reserved z steps) }) (sym now)
            (stands face o s r id v at (standing_by s r id v at v.reserved found steps) record { back = λ a h p. (h, p, refl, refl); forth = λ a h p. (h, p, refl, refl); spare = refl }
            (knows_keeping face o s r id v s.words r.book r.fate r.gone (rests face o s r id v at) at v.held v.reserved found steps kn.holds (knows_era s r id v at s.words found steps (omega arith) kn.records)) place),
        (
          (empty, refl, omega arith),
          record { live = refl; era = refl; past = refl; shape = refl; members = refl; told = refl; base = refl; whole = refl; led = λ m e. (m, e) },
          record { reads = refl; lent = refl; leads = λ m e. (m, e); works = λ work. work },
        ),
      ))

  -- ---- reservations

  module _ (s : St) (r : Kept face o s) (id : ℕ) (v : SeatView) (at : get_elem? s.views id ≡ some v) (h : Held) (only : HoldsOnly v h) (slot : ℕ) (own : lane_of o.shape slot ≡ h.lane) (has_slot : slot < o.shape.reservations) (x : ℕ) where
    abbrev slot_place : ℕ
    slot_place = reservation_place o.shape slot

    abbrev reserved_words : List ℕ
    reserved_words = set s.words slot_place x

    held : get_elem? v.held 0 ≡ some h
    held = subst (λ (z : List Held). get_elem? z 0 ≡ some h) (sym only) refl

    slot_behind : record_start o.shape (record_count o.shape) ≤ slot_place
    slot_behind = omega arith

    same_era : get_or reserved_words (era_place o.shape) 0 ≡ get_or s.words (era_place o.shape) 0
    same_era = get_or-set_other s.words slot_place (era_place o.shape) x 0 (λ is. omega arith)

    no_earlier : get_or s.words (era_place o.shape) 0 ≤ get_or reserved_words (era_place o.shape) 0
    no_earlier = let is = same_era in omega arith

    -- another view's reservation is that of another lane
    others_slots : (j : ℕ) (u : SeatView) (y : Reserved) → j ≢ id → get_elem? s.views j ≡ some u → Lists u.reserved y → y.slot < o.shape.reservations → get_or reserved_words (reservation_place o.shape y.slot) 0 ≡ get_or s.words (reservation_place o.shape y.slot) 0
    others_slots j u y ne p e low = let t = ((r.each_view j u p).records.reserved y e).0 in get_or-set_other s.words slot_place (reservation_place o.shape y.slot) x 0
        (λ is. let same : y.slot ≡ slot = omega arith in ne (r.apart.one_holder j id t.index 0 u v t.held h p at t.at held (t.is ∙ ap (lane_of o.shape) same ∙ own)).0)

    -- what the view reserved at other places it holds
    abbrev rest : List Reserved
    rest = but_slot slot v.reserved

    rest_listed : (y : Reserved) → Lists rest y → Lists v.reserved y × (y.slot ≢ slot)
    rest_listed y e = let t = listed_filter (λ z. not (eqb z.slot slot)) v.reserved y e in (t.0, λ same. true≢false (sym t.1 ∙ ap not (eq-eqb y.slot slot same)))

    rest_stays : (y : Reserved) → Lists rest y → IsItsLane v (lane_of o.shape y.slot) × Protects o.shape reserved_words r.fate r.gone r.book y
    rest_stays y e = let t = rest_listed y e in let u = (r.each_view id v at).records.reserved y t.0 in (
      u.0,
      protects_on o.shape s.words r.fate r.gone r.book reserved_words r.fate r.book (leaves s r id v at slot_place x slot_behind no_earlier) y (get_or-set_other s.words slot_place (reservation_place o.shape y.slot) x 0 (λ is. t.1 (omega arith))) u.1,
    )

    -- the view lets go of what it reserved there
    pub releases : x ≡ 0 → (steps : List StepTaken) → Kept face o record { words = reserved_words; homes = s.homes; views = set s.views id (standing_by s r id v at rest v.reached steps) }
    releases zero steps = let kn = (r.each_view id v at).records in let l = leaves s r id v at slot_place x slot_behind no_earlier in
        keeps_behind s r id v at slot_place x slot_behind no_earlier others_slots rest v.reached steps record {
          reserved = λ y e. let t = rest_stays y e in (record { index = t.0.index; held = t.0.held; at = t.0.at; is = t.0.is }, t.1);
          once = λ y z e d. kn.once y z (rest_listed y e).0 (rest_listed z d).0;
          reached = let is = same_era in let le = kn.reached in omega arith;
          replaced = λ a g c p t. replaced_on o.shape s.words r.fate r.gone r.book reserved_words r.fate r.book l g.lane c (kn.replaced a g c p t);
        }

    -- the floors of what it reserves now: what is in use
    abbrev pub floors : List ℕ
    floors = map r.gone (range_with_len 0 (place_count o.shape))

    floors_long : length floors ≡ place_count o.shape
    floors_long = length-map-range_with_len r.gone 0 (place_count o.shape)

    floor_here : (q : ℕ) → q < place_count o.shape → get_or floors q 0 ≡ r.gone q
    floor_here q inside = get_or-map-range_with_len r.gone 0 (place_count o.shape) q q 0 inside (omega arith)

    floor_low : (q : ℕ) → get_or floors q 0 ≤ r.gone q
    floor_low q = ⊎_elim (λ (inside : q < place_count o.shape). let is = floor_here q inside in omega arith)
        (λ past. let none_there : get_or floors q 0 ≡ 0 = get_or_past floors q 0 (let l = floors_long in omega arith) in omega arith) (cases_lt q (place_count o.shape))

    pub floors_closed : IsClosed o.shape r.book (λ q. get_or floors q 0)
    floors_closed = record {
      below = λ q i e inner p le. let here = floor_here q inner.inside in let b = r.records.closed.below q i e inner p (omega arith) in let b0 = b.0 in let b1 = b.1 in
          let l = floor_low (left_of o.shape q) in let m = floor_low (right_of o.shape q) in (omega arith, omega arith);
    }

    abbrev pub now : Reserved
    now = record { slot = slot; era = x; floors = floors }

    stands_now : (q i : ℕ) (e : Entry) → IsInner o.shape q → At r.book q i e → floor_of now q ≤ i → IsThere o.shape reserved_words r.fate q i e
    stands_now q i e inner p from = let here = floor_here q inner.inside in
        (records_on o.shape s.words r.fate r.gone r.book reserved_words r.fate r.book (leaves s r id v at slot_place x slot_behind no_earlier) r.records).there q i e inner p (omega arith)

    protects_now : 0 < x → first_era x ≤ v.reached → Protects o.shape reserved_words r.fate r.gone r.book now
    protects_now some_era known = let is = same_era in let le = (r.each_view id v at).records.reached in let wide = r.tree.wide in record {
      exists = has_slot;
      some_era = some_era;
      word = get_or-set_same s.words slot_place x 0 (omega arith);
      not_late = omega arith;
      in_use = floor_low;
      closed = floors_closed;
      holds = λ q i f inner p young from. let t = stands_now q i f inner p from in (t.words_are, inl t.stands);
    }

    -- what it holds now stands, so it is of no record that another reservation holds elsewhere
    once_now : (y : Reserved) → Protects o.shape reserved_words r.fate r.gone r.book y → HoldsOnce o.shape r.book y now
    once_now y holds q i j e f inner p p' young young' from from' same = stands_once o.shape r.fate y q i j e f (holds.holds q i e inner p young from).1 (stands_now q j f inner p' from').stands same

    -- and what it holds then is there
    pub reserves : 0 < x → first_era x ≤ v.reached → (steps : List StepTaken) → Kept face o record { words = reserved_words; homes = s.homes; views = set s.views id (standing_by s r id v at (now ∷ rest) v.reached steps) }
    reserves some_era known steps = let kn = (r.each_view id v at).records in let l = leaves s r id v at slot_place x slot_behind no_earlier in let now_it = protects_now some_era known in
        let one : (y : Reserved) → Lists (now ∷ rest) y → (y ≡ now) ⊎ Lists rest y = listed_first now rest in
        keeps_behind s r id v at slot_place x slot_behind no_earlier others_slots (now ∷ rest) v.reached steps record {
          reserved = λ y e. ⊎_elim
              (λ first. subst (λ (z : Reserved). IsItsLane (standing_by s r id v at (now ∷ rest) v.reached steps) (lane_of o.shape z.slot) × Protects o.shape reserved_words r.fate r.gone r.book z) (sym first) (record { index = 0; held = h; at = held; is = sym own }, now_it))
              (λ other. let t = rest_stays y other in (record { index = t.0.index; held = t.0.held; at = t.0.at; is = t.0.is }, t.1)) (one y e);
          once = λ y z e d. ⊎_elim
              (λ first. ⊎_elim (λ first'. subst (λ (u : Reserved × Reserved). HoldsOnce o.shape r.book u.0 u.1) (λ i. (sym first i, sym first' i)) (once_now now now_it))
              (λ other. subst (λ (u : Reserved). HoldsOnce o.shape r.book u z) (sym first) (λ q i j a b inner p p' young young' from from' same. sym (once_now z (rest_stays z other).1 q j i b a inner p' p young' young from' from (sym same)))) (one z d))
              (λ other. ⊎_elim (λ first'. subst (λ (u : Reserved). HoldsOnce o.shape r.book y u) (sym first') (once_now y (rest_stays y other).1)) (λ other'. kn.once y z (rest_listed y other).0 (rest_listed z other').0) (one z d)) (one y e);
          reached = let is = same_era in let le = kn.reached in omega arith;
          replaced = λ a g c p t. replaced_on o.shape s.words r.fate r.gone r.book reserved_words r.fate r.book l g.lane c (kn.replaced a g c p t);
        }

  module _ (n id place slot x : ℕ) (me : Sat) (live : me.0.live ≡ true) (empty : me.1 ≡ []) (may : MayReserve me.0 slot) (is : place ≡ reservation_place me.0.shape slot) where
    at_slot : (s : St) (r : Kept face o s) → get_elem? s.views id ≡ some me.0 → (me.0.shape ≡ o.shape) × (place ≡ reservation_place o.shape slot) × (lane_of o.shape slot ≡ may.lane.lane) × (slot < o.shape.reservations)
    at_slot s r at = let shaped : me.0.shape ≡ o.shape = (r.each_view id me.0 at).shaped live in
        (shaped, is ∙ (λ i. reservation_place (shaped i) slot), subst (λ (z : Shape). lane_of z slot ≡ may.lane.lane) shaped may.own, subst (λ (z : Shape). slot < z.reservations) shaped may.exists)

    -- no other reservation has this place
    this_slot : (other : ℕ) → place ≡ reservation_place me.0.shape other → slot ≡ other
    this_slot other e = omega arith

    pub reserves_era : 0 < x → first_era x ≤ me.0.reached → Allows (Kept face o) n id me place (λ _. x) (WithEra me (λ _ m. reserved_era (step n place x 0 none) me x m))
    reserves_era some_era known s r _ at _ = let v : SeatView = me.0 in let t = at_slot s r at in let steps : List StepTaken = v.steps ++ store_reservation (reservation_place v.shape slot) x ∷ [] in
        let reserved : Reserved = now s r id v at may.lane may.only slot t.2 t.3 x in let w : SeatView = standing_by s r id v at (reserved ∷ but_slot slot v.reserved) v.reached steps in let kn = r.each_view id v at in (
          w,
          keeps,
          tt,
          subst (λ (z : ℕ). Kept face o record { words = set s.words z x; homes = s.homes; views = set s.views id w }) (sym t.1) (reserves s r id v at may.lane may.only slot t.2 t.3 x some_era known steps),
          (
            λ other e. (
              empty,
              subst (λ (z : ℕ). Reserves v z x w) (this_slot other e) record {
                now = reserved;
                stepped = refl;
                slot_is = refl;
                era_is = refl;
                closed = let c = floors_closed s r id v at may.lane may.only slot t.2 t.3 x in
                    record { below = λ q i e inner p le. subst (λ (z : Shape). (get_or reserved.floors (left_of z q) 0 ≤ e.left) × (get_or reserved.floors (right_of z q) 0 ≤ e.right)) (sym t.0) (c.below q i e (subst (λ (z : Shape). IsInner z q) t.0 inner) (entry_stays kn.saw q i e p) le) };
              },
            ),
            record { live = refl; era = refl; past = refl; shape = refl; members = refl; told = refl; base = refl; whole = refl; led = λ m e. (m, e) },
            record { reads = refl; lent = refl; leads = λ m e. (m, e); works = λ work. work },
          ),
        )

    pub releases_era : x ≡ 0 → Allows (Kept face o) n id me place (λ _. x) (WithEra me (λ _ m. released_era (step n place x 0 none) me x m))
    releases_era zero s r _ at _ = let v : SeatView = me.0 in let t = at_slot s r at in let steps : List StepTaken = v.steps ++ store_reservation (reservation_place v.shape slot) 0 ∷ [] in
        let w : SeatView = standing_by s r id v at (but_slot slot v.reserved) v.reached steps in (
          w,
          keeps,
          tt,
          subst (λ (z : ℕ). Kept face o record { words = set s.words z x; homes = s.homes; views = set s.views id w }) (sym t.1) (releases s r id v at may.lane may.only slot t.2 t.3 x zero steps),
          (
            λ other e. (empty, subst (λ (z : ℕ). w ≡ releasing v z) (this_slot other e) refl),
            record { live = refl; era = refl; past = refl; shape = refl; members = refl; told = refl; base = refl; whole = refl; led = λ m e. (m, e) },
            record { reads = refl; lent = refl; leads = λ m e. (m, e); works = λ work. work },
          ),
        )
