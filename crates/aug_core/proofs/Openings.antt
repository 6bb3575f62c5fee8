-- The rule holds of a table that was just opened.
use Rattle.std.proofs.Common.{true, false, ◌≡◌, ℕ, zero, suc, ◌+◌, ◌-◌, ◌*◌, ◌^◌, ◌<◌, ◌≤◌, Bool, le-ltb, lt-ltb, if◌then◌else◌, List, [], ◌∷◌, ◌++◌, length, get_or, replicate, All, sym, refl, ap, ◌∙◌, subst, ⊎_elim, arith, ◌⊎◌, ◌≢◌, inl, inr, eq-eqb, ne_eqb, Some, None}
use Rattle.std.specs.Prelude.{nat_lt, ◌/◌, ◌==◌}
use Rattle.std.specs.List.{range_with_len}
use Rattle.std.proofs.lemmas.Bool.{cases_eq, cases_lt}
use Rattle.std.proofs.lemmas.Nat.{div-mul-add}
use Rattle.std.proofs.lemmas.List.FromFn.{length-map-range_with_len, get_or-map-range_with_len}
use mathlib.Core.Option.{Option, some, some-injective, some-ne-none}
use lib.ListN.{get_elem?}
use Rattle.aug_core.specs.Places.{Shape, opening_count, record_start, record_count, record_words}
use Rattle.aug_core.specs.Addresses.{place_count, IsInner, left_of, right_of}
use Rattle.aug_core.specs.Lanes.{lane_records, first_record, unborn, record_in, new_lane}
use Rattle.aug_core.specs.Book.{Book, history_of, At, IsNewest, StandsOver, IsSerial, NamesOnce, SerialsFit, IsBook, word_of_leaf, word_of_node}
use Rattle.aug_model.specs.Keys.{is_member, keys_of, IsKeySet}
use Rattle.aug_model.specs.Queries.{weight_in}
use Rattle.aug_model.proofs.Pairs.{length-keys_of, weight_fits, weight-none}
use Rattle.aug_monoid.specs.Weighted.{FitsPair}
use Rattle.aug_core.specs.Opening.{opening_serial, Opening, opening_pairs, opening_number, opening_index, serial_entry, opening_entry, opening_history, opening_book}
use Rattle.aug_core.specs.Layout.{IsLayout}
use Rattle.aug_core.specs.Effects.{KnowsBook, spent}
use Rattle.aug_core.specs.Renewals.{IsOpened}
use Rattle.aug_core.specs.Rule.{Knows, Kept, no_beginning}
use Rattle.aug_core.specs.Records.{Lists, Fate, at_opening, standing, owned_by, StandsAs, IsThere, OwnsRecord}
use Rattle.aug_core.specs.declared.view.Entry.{Entry}
use Rattle.aug_core.specs.declared.view.PastEra.{PastEra}
use Rattle.aug_core.specs.declared.view.SeatView.{SeatView}
use Rattle.aug_model.proofs.Ranges.{Rises, rises_from}
use Rattle.aug_core.specs.declared.view.Owned.{Owned}
use Rattle.aug_core.proofs.Sizes.{twice, lane_inside}
use Rattle.aug_core.proofs.Owning.{listed_map, range_listed}
use Rattle.aug_core.proofs.Below.{pairs_over, pairs_of_leaf, number_of_leaf, number_below, room_number}
use Rattle.aug_core.proofs.Stores.{alone}
use Rattle.aug_core.proofs.Keeping.{keeps_none}
use Rattle.aug_core.proofs.Joins.{spent_knows}
use Rattle.aug_core.proofs.Books.{fresh_now, at_below, unborn_word}
use Rattle.aug_core.proofs.Fits.{at_most_one}
use Rattle.aug_core.specs.declared.view.Held.{Held}
use Rattle.std.proofs.lemmas.List.{length-replicate, get_or-replicate}
use Rattle.aug_core.proofs.PrefixLemmas.{book_none, book_refl}

module _ (o : Opening) where
  abbrev leaves : ℕ
  leaves = 2 ^ o.shape.bits

  pub index_of_leaf : (q : ℕ) → q < leaves → opening_index o q ≡ opening_serial o.members q
  index_of_leaf q low = ap (λ (z : Bool). if z then opening_serial o.members q else 0) (lt-ltb q leaves low)

  index_of_inner : (q : ℕ) → leaves ≤ q → opening_index o q ≡ 0
  index_of_inner q past = ap (λ (z : Bool). if z then opening_serial o.members q else 0) (le-ltb q leaves past)

module _ (face : ℕ → ℕ → List (ℕ × ℕ) → List ℕ) (o : Opening) where
  abbrev book : Book
  book = opening_book face o

  abbrev leaf_history : Bool → ℕ → List Entry
  leaf_history b q = if b then serial_entry q 0 0 ∷ serial_entry q 1 (weight_in o.members q) ∷ [] else serial_entry q 0 0 ∷ []

  pub history_is : (q : ℕ) → q < place_count o.shape → history_of book q ≡ opening_history face o q
  history_is q low = get_or-map-range_with_len (opening_history face o) 0 (place_count o.shape) q q [] low (omega arith)

  pub long : length book ≡ place_count o.shape
  long = length-map-range_with_len (opening_history face o) 0 (place_count o.shape)

  pub inner_history : (q : ℕ) → IsInner o.shape q → history_of book q ≡ opening_entry face o q ∷ []
  inner_history q inner = history_is q inner.inside ∙ ap (λ (z : Bool). if z then leaf_history (is_member (keys_of o.members) q) q else opening_entry face o q ∷ []) (le-ltb q (leaves o) inner.past_leaves)

  leaf_history_is : (q : ℕ) → q < leaves o → history_of book q ≡ leaf_history (is_member (keys_of o.members) q) q
  leaf_history_is q low = let t = twice o.shape.bits in
      history_is q (omega arith) ∙ ap (λ (z : Bool). if z then leaf_history (is_member (keys_of o.members) q) q else opening_entry face o q ∷ []) (lt-ltb q (leaves o) low)

  -- an inner node has one entry
  pub inner_at : (q i : ℕ) (e : Entry) → IsInner o.shape q → At book q i e → (i ≡ 0) × (opening_entry face o q ≡ e)
  inner_at q i e inner p = alone (opening_entry face o q) e i (subst (λ (z : List Entry). get_elem? z i ≡ some e) (inner_history q inner) p)

  serial_at : All FitsPair o.members → (b : Bool) (q i : ℕ) (e : Entry) → get_elem? (leaf_history b q) i ≡ some e → IsSerial q i e
  serial_at fit true q zero e p = subst (IsSerial q 0) (some-injective (serial_entry q 0 0) e p) record { counted = refl; named = refl; fits = omega arith; there_if_odd = refl; unborn = refl; none_if_even = λ _. refl }
  serial_at fit true q (suc zero) e p = subst (IsSerial q 1) (some-injective (serial_entry q 1 (weight_in o.members q)) e p) record { counted = refl; named = refl; fits = weight_fits o.members q fit; there_if_odd = refl; unborn = refl; none_if_even = λ odd. absurd (omega arith) }
  serial_at fit true q (suc (suc i)) e p = absurd (some-ne-none e (sym p))
  serial_at fit false q zero e p = subst (IsSerial q 0) (some-injective (serial_entry q 0 0) e p) record { counted = refl; named = refl; fits = omega arith; there_if_odd = refl; unborn = refl; none_if_even = λ _. refl }
  serial_at fit false q (suc i) e p = absurd (some-ne-none e (sym p))

  -- the newest entry of a leaf has its serial, its weight, and that serial's pairs
  abbrev pub newest_of : Bool → ℕ → Entry
  newest_of b q = if b then serial_entry q 1 (weight_in o.members q) else serial_entry q 0 0

  newest_leaf : (b : Bool) (q : ℕ) → (get_elem? (leaf_history b q) (if b then 1 else 0) ≡ some (newest_of b q)) × (length (leaf_history b q) ≡ (if b then 1 else 0) + 1)
  newest_leaf true q = (refl, refl)
  newest_leaf false q = (refl, refl)

  pairs_of_newest : (b : Bool) (q : ℕ) → (newest_of b q).pairs ≡ (if b then (q, weight_in o.members q) ∷ [] else [])
  pairs_of_newest true q = refl
  pairs_of_newest false q = refl

  word_of_newest : (b : Bool) (q : ℕ) → b ≡ is_member (keys_of o.members) q → (newest_of b q).word ≡ word_of_leaf (if b then 1 else 0) (weight_in o.members q)
  word_of_newest true q is = refl
  word_of_newest false q is = ap (word_of_leaf 0) (sym (weight-none o.members q (sym is)))

  -- it stands at its serial
  pub newest_entry : (q : ℕ) → q < leaves o → At book q (opening_index o q) (newest_of (is_member (keys_of o.members) q) q)
  newest_entry q low = subst (λ (z : ℕ). At book q z (newest_of (is_member (keys_of o.members) q) q)) (sym (index_of_leaf o q low))
      (subst (λ (z : List Entry). get_elem? z (opening_serial o.members q) ≡ some (newest_of (is_member (keys_of o.members) q) q)) (sym (leaf_history_is q low)) (newest_leaf (is_member (keys_of o.members) q) q).0)

  not_passed : (b : Bool) (q : ℕ) → (newest_of b q).passed ≡ false
  not_passed true q = refl
  not_passed false q = refl

  not_born : (b : Bool) (q : ℕ) → (newest_of b q).birth ≡ 0
  not_born true q = refl
  not_born false q = refl

  -- what the newest entry of a leaf or an inner node says
  pub record Newly (q : ℕ) : Type 0 where
    pub entry : Entry
    pub newest : IsNewest book q (opening_index o q) entry
    pub named : entry.word ≡ opening_number o q
    pub shown : entry.passed ≡ false
    pub unborn : entry.birth ≡ 0
    pub pairs : Rises (keys_of o.members) → entry.pairs ≡ opening_pairs o q

  pub newly : (q : ℕ) → q < place_count o.shape → Newly q
  newly q inside = ⊎_elim
      (λ (low : q < leaves o). let serial : ℕ = opening_serial o.members q in let b : Bool = is_member (keys_of o.members) q in let t = newest_leaf b q in record {
        entry = newest_of b q;
        newest = record {
          at = subst (λ (z : ℕ). At book q z (newest_of b q)) (sym (index_of_leaf o q low)) (subst (λ (z : List Entry). get_elem? z serial ≡ some (newest_of b q)) (sym (leaf_history_is q low)) t.0);
          last = ap length (leaf_history_is q low) ∙ t.1 ∙ ap (λ (z : ℕ). z + 1) (sym (index_of_leaf o q low));
        };
        named = word_of_newest b q refl ∙ sym (number_of_leaf o q low);
        shown = not_passed b q;
        unborn = not_born b q;
        pairs = λ rises. pairs_of_newest b q ∙ sym (pairs_of_leaf o rises q low);
      })
      (λ (past : leaves o ≤ q). let inner : IsInner o.shape q = record { past_leaves = past; inside = inside } in record {
        entry = opening_entry face o q;
        newest = record {
          at = subst (λ (z : ℕ). At book q z (opening_entry face o q)) (sym (index_of_inner o q past)) (subst (λ (z : List Entry). get_elem? z 0 ≡ some (opening_entry face o q)) (sym (inner_history q inner)) refl);
          last = ap length (inner_history q inner) ∙ ap (λ (z : ℕ). z + 1) (sym (index_of_inner o q past));
        };
        named = refl;
        shown = refl;
        unborn = refl;
        pairs = λ _. refl;
      }) (cases_lt q (leaves o))

  over : Rises (keys_of o.members) → (q : ℕ) → IsInner o.shape q → StandsOver face o.shape book q (opening_entry face o q)
  over rises q inner = let past = inner.past_leaves in let inside = inner.inside in let t = twice o.shape.bits in
      let l = newly (left_of o.shape q) (omega arith) in let r = newly (right_of o.shape q) (omega arith) in record {
        left_child = l.entry;
        right_child = r.entry;
        left_at = l.newest.at;
        right_at = r.newest.at;
        left_shown = l.shown;
        right_shown = r.shown;
        pairs_of_both = ◌∙◌ {c = l.entry.pairs ++ r.entry.pairs} (pairs_over o rises q inner) (λ i. sym (l.pairs rises) i ++ sym (r.pairs rises) i);
        words_say = λ i. face (sym l.named i) (sym r.named i) (opening_pairs o q);
        left_born = λ _. let is = l.unborn in omega arith;
        right_born = λ _. let is = r.unborn in omega arith;
      }

  -- its nodes name opening records alone
  low : Rises (keys_of o.members) → length (keys_of o.members) ≤ o.shape.members → (q i : ℕ) (e : Entry) → IsInner o.shape q → At book q i e → e.number < opening_count o.shape
  low rises few q i e inner p = subst (λ (z : Entry). z.number < opening_count o.shape) (inner_at q i e inner p).1 (number_below o rises few q inner)

  pub is_book : Rises (keys_of o.members) → All FitsPair o.members → length (keys_of o.members) ≤ o.shape.members → (0 < o.shape.reservations → record_count o.shape ≤ 2 ^ 24) → IsBook face o.shape book
  is_book rises pairs_fit fit numbers = record {
    long = long;
    named = λ q i e inner p. subst (λ (z : Entry). z.word ≡ word_of_node o.shape z.birth z.number) (inner_at q i e inner p).1 (sym (unborn_word o.shape (opening_number o q)));
    numbers = numbers;
    below = λ q i e inner p. let few = low rises fit q i e inner p in omega arith;
    over = λ q i e inner p. subst (StandsOver face o.shape book q) (inner_at q i e inner p).1 (over rises q inner);
    rises = λ q i j e f inner at at' le. let same : e ≡ f = sym (inner_at q i e inner at).1 ∙ (inner_at q j f inner at').1 in
        let l = ap (λ (z : Entry). z.left) same in let r = ap (λ (z : Entry). z.right) same in (omega arith, omega arith);
    floors = λ q i e inner p. subst (λ (z : Entry). ((f : Entry) × At book (left_of o.shape q) z.left_floor f) × ((g : Entry) × At book (right_of o.shape q) z.right_floor g)) (inner_at q i e inner p).1
        (let stands = over rises q inner in ((stands.left_child, stands.left_at), (stands.right_child, stands.right_at)));
    floored = λ q i e f inner at at'. let a = (inner_at q i e inner at).0 in let b = (inner_at q (i + 1) f inner at').0 in absurd (omega arith);
    serials = λ key i e low p. serial_at pairs_fit (is_member (keys_of o.members) key) key i e (subst (λ (z : List Entry). get_elem? z i ≡ some e) (leaf_history_is key low) p);
  }

  -- what becomes of an opening record: where records are used again it stands as that of the node whose own it is, unless a level shares it
  abbrev fate_of_opening : ℕ → Fate
  fate_of_opening n = if o.shape.reservations == 0 then at_opening else if nat_lt n o.shape.bits then at_opening else standing (2 ^ o.shape.bits + (n - o.shape.bits)) 0

  -- and of any record at the opening: those behind the opening records are the lanes', in a row
  abbrev opening_fate : ℕ → Fate
  opening_fate n = if nat_lt n (opening_count o.shape) then fate_of_opening n else owned_by ((n - opening_count o.shape) / lane_records o.shape) (unborn o.shape)

  of_opening : (n : ℕ) → n < opening_count o.shape → opening_fate n ≡ fate_of_opening n
  of_opening n few = ap (λ (b : Bool). if b then fate_of_opening n else owned_by ((n - opening_count o.shape) / lane_records o.shape) (unborn o.shape)) (lt-ltb n (opening_count o.shape) few)

  is_opening : o.shape.reservations ≡ 0 → (n : ℕ) → n < opening_count o.shape → opening_fate n ≡ at_opening
  is_opening off n few = of_opening n few ∙ ap (λ (b : Bool). if b then at_opening else if nat_lt n o.shape.bits then at_opening else standing (2 ^ o.shape.bits + (n - o.shape.bits)) 0) (eq-eqb o.shape.reservations 0 off)

  stands_opened : o.shape.reservations ≢ 0 → 2 ^ o.shape.bits ≤ o.shape.members → (q : ℕ) → IsInner o.shape q → opening_number o q < opening_count o.shape → opening_fate (opening_number o q) ≡ standing q 0
  stands_opened used room q inner few = let n : ℕ = opening_number o q in let own = room_number o room q inner in let past = inner.past_leaves in let is : 2 ^ o.shape.bits + (n - o.shape.bits) ≡ q = omega arith in
      of_opening n few ∙ ap (λ (b : Bool). if b then at_opening else if nat_lt n o.shape.bits then at_opening else standing (2 ^ o.shape.bits + (n - o.shape.bits)) 0) (ne_eqb o.shape.reservations 0 used)
      ∙ ap (λ (b : Bool). if b then at_opening else standing (2 ^ o.shape.bits + (n - o.shape.bits)) 0) (le-ltb n o.shape.bits (omega arith)) ∙ ap (λ (z : ℕ). standing z 0) is

  stands_at_opening : (o.shape.reservations ≡ 0) ⊎ (2 ^ o.shape.bits ≤ o.shape.members) → (q : ℕ) → IsInner o.shape q → opening_number o q < opening_count o.shape → StandsAs o.shape (opening_fate (opening_number o q)) q 0
  stands_at_opening room q inner few = ⊎_elim
      (λ (off : o.shape.reservations ≡ 0). inr (off, is_opening off (opening_number o q) few, refl))
      (λ used. inl (⊎_elim (λ off. absurd (used off)) (λ all. stands_opened used all q inner few) room)) (cases_eq o.shape.reservations 0)

  is_owned : (lane k : ℕ) → k < lane_records o.shape → opening_fate (first_record o.shape lane + k) ≡ owned_by lane (unborn o.shape)
  is_owned lane k small = let n : ℕ = first_record o.shape lane + k in let is : n - opening_count o.shape ≡ lane * lane_records o.shape + k = omega arith in
      ap (λ (b : Bool). if b then fate_of_opening n else owned_by ((n - opening_count o.shape) / lane_records o.shape) (unborn o.shape)) (le-ltb n (opening_count o.shape) (omega arith))
      ∙ ap (λ (z : ℕ). owned_by (z / lane_records o.shape) (unborn o.shape)) is ∙ ap (λ (z : ℕ). owned_by z (unborn o.shape)) (div-mul-add lane (lane_records o.shape) k small)

  named_at_opening : NamesOnce o.shape book
  named_at_opening = record { once = λ q i j e f inner p p' same. (inner_at q i e inner p).0 ∙ sym (inner_at q j f inner p').0 }

  -- a leaf's history at the opening
  pub leaf_long : (key : ℕ) → key < 2 ^ o.shape.bits → length (history_of book key) ≡ opening_serial o.members key + 1
  leaf_long key low = let t = twice o.shape.bits in let n = newly key (omega arith) in n.newest.last ∙ ap (λ (z : ℕ). z + 1) (index_of_leaf o key low)

  -- and no serial is great
  pub opening_fits : SerialsFit o.shape book
  opening_fits = record { few = λ key low. let long = leaf_long key low in let one = at_most_one (is_member (keys_of o.members) key) in omega arith }

  -- the view of the seat that opens the table, in an era of the table, whose words are known to it
  abbrev pub opener : List PastEra → ℕ → ℕ → List ℕ → List ℕ → List ℕ → SeatView
  opener past era base lent known whole = record {
    live = true;
    era = era;
    past = past;
    shape = o.shape;
    base = base;
    members = o.members;
    seen = book;
    also = [];
    told = None;
    held = [];
    spare = Some 0;
    reads = false;
    lent = lent;
    words = known;
    whole = whole;
    reserved = [];
    reached = 0;
    began = no_beginning;
    steps = [];
  }

  -- of these views one opens the table, and the others are those of seats that were joined
  pub record IsAlone (views : List SeatView) (id : ℕ) (first : SeatView) : Type 0 where
    pub each : (j : ℕ) (x : SeatView) → get_elem? views j ≡ some x → ((j ≡ id) × (first ≡ x)) ⊎ (spent ≡ x)

  module _ (views : List SeatView) (past : List PastEra) (id era base : ℕ) (lent known whole : List ℕ) (one : IsAlone views id (opener past era base lent known whole)) where
    -- nobody holds a lane
    holds_none : (j a : ℕ) (x : SeatView) (h : Held) → get_elem? views j ≡ some x → get_elem? x.held a ≡ some h → ⊥
    holds_none j a x h p q = ⊎_elim
        (λ t. let out : get_elem? (opener past era base lent known whole).held a ≡ some h = subst (λ (z : SeatView). get_elem? z.held a ≡ some h) (sym t.1) q in some-ne-none h (sym out))
        (λ t. let out : get_elem? spent.held a ≡ some h = subst (λ (z : SeatView). get_elem? z.held a ≡ some h) (sym t) q in some-ne-none h (sym out)) (one.each j x p)

    -- and one hands lanes out
    leads : (j n : ℕ) (x : SeatView) → get_elem? views j ≡ some x → x.spare ≡ Some n → j ≡ id
    leads j n x p e = ⊎_elim (λ t. t.0) (λ t. let clash : None ≡ Some n = ap (λ (z : SeatView). z.spare) t ∙ e in cc) (one.each j x p)

    -- the lane owns its records, which hold what is known
    owns_at_opening : (words known : List ℕ) (lane : ℕ) → lane < o.shape.workers → ((i : ℕ) → record_start o.shape (opening_count o.shape) ≤ i → get_or words i 0 ≡ get_or known i 0)
        → (x : Owned) → Lists (new_lane o.shape known lane).owned x → OwnsRecord o.shape words opening_fate lane x
    owns_at_opening words known lane inside same x t = let s : Shape = o.shape in let was = listed_map (record_in s known) (range_with_len (first_record s lane) (lane_records s)) x t in
        let of = range_listed (first_record s lane) (lane_records s) was.0 was.1 in subst (OwnsRecord s words opening_fate lane) (ap (record_in s known) (sym of.2) ∙ was.2) record {
          exists = lane_inside s lane of.0 inside of.1;
          long = length-map-range_with_len (λ k. get_or known (record_start s (first_record s lane + of.0) + k) 0) 0 record_words;
          exact = λ k small. same (record_start s (first_record s lane + of.0) + k) (omega arith) ∙ sym (get_or-map-range_with_len (λ j. get_or known (record_start s (first_record s lane + of.0) + j) 0) 0 record_words k k 0 small (omega arith));
          fate_is = is_owned lane of.0 of.1;
        }

    -- the rule holds of these words
    pub opens : (words : List ℕ) (homes : List (Option (Unit {0}))) → IsOpened face o words
        → ((i : ℕ) → record_start o.shape (opening_count o.shape) ≤ i → get_or words i 0 ≡ get_or known i 0)
        → Kept face o record { words = words; homes = homes; views = views }
    opens words homes opened same =
        let rises : Rises (keys_of o.members) = rises_from (keys_of o.members) opened.key_set.rising in record {
          book = book;
          tree = record {
            wide = opened.wide;
            is_book = is_book rises opened.members_fit opened.few opened.numbers;
            opened = book_refl book;
            newest = λ q inside. let t = newly q inside in record { index = opening_index o q; entry = t.entry; newest = t.newest; word = opened.named q inside ∙ sym t.named; shown = t.shown };
            shared = λ off level few k small. opened.shared level k few small;
            idle = λ off. opened.idle;
          };
          fate = opening_fate;
          gone = λ q. 0;
          records = record {
            none_gone = λ off q. refl;
            opened = is_opening;
            closed = record { below = λ q i e inner p le. (omega arith, omega arith) };
            newest = λ q inside. let t = newly q inside in let long = t.newest.last in omega arith;
            there = λ q i e inner p le. let is = inner_at q i e inner p in subst (λ (z : ℕ × Entry). IsThere o.shape words opening_fate q z.0 z.1) (λ k. (sym is.0 k, is.1 k)) record {
              stands = stands_at_opening opened.room q inner (number_below o rises opened.few q inner);
              words_are = λ k small. opened.records q k inner small;
            };
          };
          states = λ lane inside. let z = opened.lanes lane inside in omega arith;
          each_view = λ j v p. ⊎_elim
              (λ t. subst (Knows o words opening_fate (λ q. 0) book) t.1 record {
                shaped = λ _. refl;
                same_members = λ _. refl;
                saw = book_refl book;
                also_saw = book_none book;
                fresh = fresh_now o.shape book;
                holds = λ a h at. absurd (some-ne-none h (sym at));
                spares = λ n lane e le inside. record { exists = inside; state = opened.lanes lane inside; owns = λ x t. owns_at_opening words known lane inside same x t };
                records = keeps_none o.shape words opening_fate (λ q. 0) book (opener past era base lent known whole) refl (omega arith) (λ a h c at l. some-ne-none h (sym at));
              })
              (λ t. subst (Knows o words opening_fate (λ q. 0) book) t (spent_knows o words opening_fate (λ q. 0) book)) (one.each j v p);
          apart = record {
            one_holder = λ i j a b x y h g px py ph pg same. absurd (holds_none i a x h px ph);
            one_lead = λ i j n m x y px py ex ey. leads i n x px ex ∙ sym (leads j m y py ey);
            handed_out = λ i j a n x y h px py ex ph. absurd (holds_none j a y h py ph);
          };
          changes = record {
            counted = record {
              all = λ c m. let long = leaf_long c.key m.exists in let past = m.past_opening in let reached = at_below (history_of book c.key) c.serial m.entry m.reached in absurd (omega arith);
              once = λ i j a b k l c p q. absurd (holds_none i a p.view p.lane p.sits p.held);
              none_else = λ i a k c p. absurd (holds_none i a p.view p.lane p.sits p.held);
            };
            tally = replicate o.shape.workers 0;
            tallied = λ off. record {
              long = length-replicate o.shape.workers 0;
              each = λ i a v h p held. absurd (holds_none i a v h p held);
              few = λ lane inside. subst (λ (z : ℕ). z ≤ 2 * o.shape.updates) (sym (get_or-replicate o.shape.workers lane 0 0 inside)) (omega arith);
              free = λ lane inside free. get_or-replicate o.shape.workers lane 0 0 inside;
              enough = λ key inside. let long = leaf_long key inside in omega arith;
            };
          };
        }

  -- what such a seat knows of its table
  pub opener_knows : (past : List PastEra) (era base : ℕ) (lent known whole : List ℕ) → IsLayout o.shape → IsKeySet o.shape.bits (keys_of o.members) → All FitsPair o.members → length (keys_of o.members) ≤ o.shape.members → KnowsBook face (opener past era base lent known whole)
  opener_knows past era base lent known whole laid_out key_set fit few = record { laid_out = laid_out; key_set = key_set; members_fit = fit; few_members = let long = length-keys_of o.members in omega arith; book = is_book (rises_from (keys_of o.members) key_set.rising) fit few (λ used. let few = laid_out.words in omega arith); opened = book_refl book; in_round = λ off. (named_at_opening, opening_fits) }
