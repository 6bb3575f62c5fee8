-- What a step of one seat carries over: the words of its own lanes change, or one word of a leaf or a node, and the book stays or grows.
use Rattle.std.proofs.Common.{◌≡◌, ℕ, ◌+◌, ◌^◌, ◌<◌, ◌≤◌, ◌≢◌, ◌⊎◌, inl, inr, List, [], ◌∷◌, ◌++◌, length, get_or, set, refl, sym, ap, ◌∙◌, subst, ⊎_elim, false, arith, length-set, get_or-set_other, get_or-set_same, Some}
use Rattle.std.proofs.lemmas.Bool.{cases_eq}
use Rattle.std.proofs.lemmas.List.{set-get_or}
use mathlib.Core.Option.{some}
use lib.ListN.{get_elem?}
use Rattle.atomic_table.specs.Table.{State}
use Rattle.atomic_table.proofs.Lists.{at_set}
use Rattle.aug_core.specs.Places.{Shape, lane_place, record_start, record_count, record_words, era_place, reservation_place}
use Rattle.aug_core.specs.Addresses.{place_count, IsInner, left_of, right_of}
use Rattle.aug_core.specs.Lanes.{new_lane, word_of_state}
use Rattle.aug_core.specs.Book.{Book, history_of, At, IsNewest, ArePrefixes, FloorsCover, IsFresh, IsBook}
use Rattle.aug_core.specs.Opening.{Opening}
use Rattle.aug_core.specs.Counts.{WasMade, AreCounted, AreTallied}
use Rattle.aug_core.specs.declared.view.Change.{Change}
use Rattle.aug_core.specs.declared.step.StepTaken.{StepTaken}
use Rattle.aug_core.specs.Rule.{NamesNewest, HoldsLane, Knows, KeepsTree, Kept}
use Rattle.aug_core.specs.Records.{Lists, HasWords, Fate, at_opening, standing, owned_by, StandsAs, IsThere, Waits, IsItsLane, KeepsView, KeepsRecords, OwnsRecord}
use Rattle.aug_core.specs.declared.view.Beginning.{Beginning}
use Rattle.aug_core.specs.declared.view.Entry.{Entry}
use Rattle.aug_core.specs.declared.view.Held.{Held}
use Rattle.aug_core.specs.declared.view.Life.{Life}
use Rattle.aug_core.specs.declared.view.Owned.{Owned}
use Rattle.aug_core.specs.declared.view.Replaced.{Replaced}
use Rattle.aug_core.specs.declared.view.Reserved.{Reserved}
use Rattle.aug_core.specs.declared.view.SeatView.{SeatView}
use Rattle.aug_core.specs.declared.view.LaneState.TheVariants.{Free, Ended}
use Rattle.aug_core.proofs.Sizes.{twice}
use Rattle.aug_core.proofs.Keeping.{SameSlots, stands_unowned, reserves_same, keeps_as, LeavesRecords, view_on, records_on}
use Rattle.aug_core.proofs.Books.{grown, fresh_now, at_below, there_is, one_entry, grow, at_grown, newest_here, newest_there}
use Rattle.aug_core.proofs.Views.{Likens, Repeats, was_there, repeats_like, counted_on, apart_on}
use Rattle.aug_core.proofs.PrefixLemmas.{book_refl, book_trans, entry_stays}

abbrev pub St : Type 0
St = State (Unit {0}) SeatView

-- the lane is one that the view holds, and it is not free
pub record IsMine (s : Shape) (after : List ℕ) (v : SeatView) (lane : ℕ) : Type 0 where
  pub holds : IsItsLane v lane
  pub some_state : word_of_state Free < get_or after (lane_place s lane) 0
  pub last_state : get_or after (lane_place s lane) 0 ≤ word_of_state Ended

module _ (face : ℕ → ℕ → List (ℕ × ℕ) → List ℕ) (o : Opening) (s : St) (r : Kept face o s) (id : ℕ) (v : SeatView) (after : List ℕ) (book' : Book) (fate' : ℕ → Fate) (gone' : ℕ → ℕ) where
  -- what a step may do to the words, to the book and to what becomes of records
  pub record MayMove : Type 0 where
    pub tree : KeepsTree face o after book'
    pub records : KeepsRecords o.shape after fate' gone' book'
    pub grows : ArePrefixes r.book book'
    pub lanes : (lane : ℕ) → lane < o.shape.workers → (get_or after (lane_place o.shape lane) 0 ≡ get_or s.words (lane_place o.shape lane) 0) ⊎ IsMine o.shape after v lane
    -- what lanes own that the view does not hold they own still
    pub others : (lane : ℕ) (x : Owned) → (IsItsLane v lane → ⊥) → OwnsRecord o.shape s.words r.fate lane x → OwnsRecord o.shape after fate' lane x
    pub fresh : (seen : Book) → ArePrefixes seen r.book → IsFresh o.shape r.book seen → IsFresh o.shape book' seen
    -- what other views count on they still can
    pub kept : (j : ℕ) (u : SeatView) → j ≢ id → get_elem? s.views j ≡ some u → KeepsView o.shape s.words r.fate r.gone r.book u → KeepsView o.shape after fate' gone' book' u

  module _ (m : MayMove) (at : get_elem? s.views id ≡ some v) where
    -- what is known of a lane that the view does not hold
    lane_on : (g : Held) → (IsItsLane v g.lane → ⊥) → HoldsLane o.shape s.words r.fate g → HoldsLane o.shape after fate' g
    lane_on g not l = record {
      exists = l.exists;
      state = ⊎_elim (λ stays. stays ∙ l.state) (λ (mine : IsMine o.shape after v g.lane). absurd (not mine.holds)) (m.lanes g.lane l.exists);
      owns = λ x t. m.others g.lane x not (l.owns x t);
    }

    -- the view holds no lane that a view may still hand out
    not_spare : (j n lane : ℕ) (u : SeatView) → get_elem? s.views j ≡ some u → u.spare ≡ Some n → n ≤ lane → IsItsLane v lane → ⊥
    not_spare j n lane u p e le mine = let below : mine.held.lane < n = r.apart.handed_out j id mine.index n u v mine.held p at e mine.at in let is = mine.is in omega arith

    -- what another view knows stays so
    pub others_know : (j : ℕ) (u : SeatView) → j ≢ id → get_elem? s.views j ≡ some u → Knows o after fate' gone' book' u
    others_know j u ne p = let kn = r.each_view j u p in record {
      shaped = kn.shaped;
      same_members = kn.same_members;
      saw = book_trans kn.saw m.grows;
      also_saw = book_trans kn.also_saw m.grows;
      fresh = m.fresh u.seen kn.saw kn.fresh;
      holds = λ b g t. lane_on g (λ mine. ne (r.apart.one_holder j id b mine.index u v g mine.held p at t mine.at (sym mine.is)).0) (kn.holds b g t);
      spares = λ n lane e le low. lane_on (new_lane o.shape u.words lane) (not_spare j n lane u p e le) (kn.spares n lane e le low);
      records = m.kept j u ne p kn.records;
    }

    -- the lanes that the view may still hand out are free, with the same records
    pub still_spare : (w : SeatView) → v.spare ≡ w.spare → v.words ≡ w.words → (n lane : ℕ) → w.spare ≡ Some n → n ≤ lane → lane < o.shape.workers → HoldsLane o.shape after fate' (new_lane o.shape w.words lane)
    still_spare w same words n lane e le low = subst (λ (z : List ℕ). HoldsLane o.shape after fate' (new_lane o.shape z lane)) words
        (lane_on (new_lane o.shape v.words lane) (not_spare id n lane v at (same ∙ e) le) ((r.each_view id v at).spares n lane (same ∙ e) le low))

    -- no lane that was not free is free now
    pub was_free : (lane : ℕ) → lane < o.shape.workers → get_or after (lane_place o.shape lane) 0 ≡ word_of_state Free → get_or s.words (lane_place o.shape lane) 0 ≡ word_of_state Free
    was_free lane low free = ⊎_elim (λ stays. sym stays ∙ free) (λ (mine : IsMine o.shape after v lane). let pos = mine.some_state in absurd (omega arith)) (m.lanes lane low)

    -- the rule holds after the step, where the changes are counted
    pub moves : (w : SeatView) → Likens v w → Knows o after fate' gone' book' w → AreCounted o book' (set s.views id w) → (tally : List ℕ) → (o.shape.reservations ≡ 0 → AreTallied o after book' (set s.views id w) tally)
        → Kept face o record { words = after; homes = s.homes; views = set s.views id w }
    moves w like knows counted tally tallied = record {
      book = book';
      tree = m.tree;
      fate = fate';
      gone = gone';
      records = m.records;
      states = λ lane low. ⊎_elim (λ stays. let t = r.states lane low in subst (λ (z : ℕ). z ≤ word_of_state Ended) (sym stays) t) (λ (mine : IsMine o.shape after v lane). mine.last_state) (m.lanes lane low);
      each_view = λ j u p. ⊎_elim (λ t. subst (Knows o after fate' gone' book') t.1 knows) (λ t. others_know j u t.0 t.1) (at_set s.views id j w u p);
      apart = apart_on s.views (set s.views id w) (λ i a j b. (i ≡ j) × (a ≡ b)) (λ i a h. ⊥) r.apart record {
        came = λ i a x h p q. let t = was_there s.views id v w at like i x p in let l = t.2.lanes a h q in
            inl record { seat = i; index = a; view = t.0; lane = l.0; sits = t.1; held = l.1; same = l.2; from = (refl, refl) };
        once = λ i a j b k c p q. (p.0 ∙ sym q.0, p.1 ∙ sym q.1);
        led = λ i m x p e. let t = was_there s.views id v w at like i x p in (t.0, m, t.1, t.2.spare ∙ e, omega arith);
        new_once = λ i j a b h g none. absurd none;
        new_apart = λ i j a b y h g none. absurd none;
        new_below = λ i j a m x h none. absurd none;
      };
      changes = record { counted = counted; tally = tally; tallied = tallied };
    }

    abbrev pub SameLeaves : Type 0
    SameLeaves = (key : ℕ) → key < 2 ^ o.shape.bits → length (history_of book' key) ≡ length (history_of r.book key)

    -- the tally stays
    tallied_on : (w : SeatView) → Repeats v w → SameLeaves → o.shape.reservations ≡ 0 → AreTallied o after book' (set s.views id w) r.changes.tally
    tallied_on w rep same off = let t = r.changes.tallied off in record {
      long = t.long;
      each = λ i a u h p held. ⊎_elim
          (λ is. let g = rep.back a h (subst (λ (z : SeatView). get_elem? z.held a ≡ some h) (sym is.1) held) in
          ap length (sym g.3) ∙ t.each id a v g.0 at g.1 ∙ ap (λ (z : ℕ). get_or r.changes.tally z 0) g.2)
          (λ old. t.each i a u h old.1 held) (at_set s.views id i w u p);
      few = t.few;
      free = λ lane low free. t.free lane low (was_free lane low free);
      enough = λ key low. let e = same key low in let l = t.enough key low in omega arith;
    }

    made_on : (c : Change) → WasMade o r.book c → WasMade o book' c
    made_on c w = record { exists = w.exists; past_opening = w.past_opening; entry = w.entry; reached = entry_stays m.grows c.key c.serial w.entry w.reached; weighs = w.weighs }

    made_back : SameLeaves → (c : Change) → WasMade o book' c → WasMade o r.book c
    made_back same c w =
        let below = at_below (history_of book' c.key) c.serial w.entry w.reached in let long = same c.key w.exists in
        let x = there_is (history_of r.book c.key) c.serial (omega arith) in
        let is : x.0 ≡ w.entry = one_entry book' c.key c.serial x.0 w.entry (entry_stays m.grows c.key c.serial x.0 x.1) w.reached in
        record { exists = w.exists; past_opening = w.past_opening; entry = w.entry; reached = subst (At r.book c.key c.serial) is x.1; weighs = w.weighs }

    -- the rule holds after a step that makes no change
    pub moves_on : (w : SeatView) → Repeats v w → Knows o after fate' gone' book' w → SameLeaves → Kept face o record { words = after; homes = s.homes; views = set s.views id w }
    moves_on w rep knows same = moves w (repeats_like v w rep) knows
        (counted_on s.views id v w at rep o r.book book' (made_back same) made_on r.changes.counted) r.changes.tally (tallied_on w rep same)

    -- a view that was shown the whole book
    pub knows_seeing : (held : List Held) (began : Beginning) (steps : List StepTaken) → ((a : ℕ) (h : Held) → get_elem? held a ≡ some h → HoldsLane o.shape after fate' h)
        → KeepsView o.shape after fate' gone' book' record v { seen = book'; held = held; began = began; steps = steps } → Knows o after fate' gone' book' record v { seen = book'; held = held; began = began; steps = steps }
    knows_seeing held began steps holds keeps = let kn = r.each_view id v at in record {
      shaped = kn.shaped;
      same_members = kn.same_members;
      saw = book_refl book';
      also_saw = book_trans kn.also_saw m.grows;
      fresh = fresh_now o.shape book';
      holds = holds;
      spares = still_spare record v { seen = book'; held = held; began = began; steps = steps } refl refl;
      records = keeps;
    }

    -- a view that was shown nothing of it
    pub knows_keeping : (held : List Held) (reserved : List Reserved) (reached : ℕ) (steps : List StepTaken) → ((a : ℕ) (h : Held) → get_elem? held a ≡ some h → HoldsLane o.shape after fate' h)
        → KeepsView o.shape after fate' gone' book' record v { held = held; reserved = reserved; reached = reached; steps = steps } → Knows o after fate' gone' book' record v { held = held; reserved = reserved; reached = reached; steps = steps }
    knows_keeping held reserved reached steps holds keeps = let kn = r.each_view id v at in record {
      shaped = kn.shaped;
      same_members = kn.same_members;
      saw = book_trans kn.saw m.grows;
      also_saw = book_trans kn.also_saw m.grows;
      fresh = m.fresh v.seen kn.saw kn.fresh;
      holds = holds;
      spares = still_spare record v { held = held; reserved = reserved; reached = reached; steps = steps } refl refl;
      records = keeps;
    }

module _ (face : ℕ → ℕ → List (ℕ × ℕ) → List ℕ) (o : Opening) (s : St) (r : Kept face o s) (id : ℕ) (v : SeatView) (at : get_elem? s.views id ≡ some v) where
  -- a step that changes no word
  pub rests : MayMove face o s r id v s.words r.book r.fate r.gone
  rests = record { tree = r.tree; records = r.records; grows = book_refl r.book; lanes = λ lane low. inl refl; others = λ lane x not owns. owns; fresh = λ seen saw f. f; kept = λ j u ne p k. k }

  pub stands : (w : SeatView) → Repeats v w → Knows o s.words r.fate r.gone r.book w → (i : ℕ) → Kept face o record { words = set s.words i (get_or s.words i 0); homes = s.homes; views = set s.views id w }
  stands w rep knows i = subst (λ (z : List ℕ). Kept face o record { words = z; homes = s.homes; views = set s.views id w }) (sym (set-get_or s.words i 0))
      (moves_on face o s r id v s.words r.book r.fate r.gone rests at w rep knows (λ key low. refl))

  -- the view after a step that shows it the whole book, and changes no word
  pub watches : (began : Beginning) (taken : StepTaken) (i : ℕ) → Kept face o record { words = set s.words i (get_or s.words i 0); homes = s.homes; views = set s.views id record v { seen = r.book; began = began; steps = v.steps ++ taken ∷ [] } }
  watches began taken i = let steps : List StepTaken = v.steps ++ taken ∷ [] in let kn = r.each_view id v at in
      stands record v { seen = r.book; began = began; steps = steps } record { back = λ a h p. (h, p, refl, refl); forth = λ a h p. (h, p, refl, refl); spare = refl }
      (knows_seeing face o s r id v s.words r.book r.fate r.gone rests at v.held began steps kn.holds
      (keeps_as o.shape s.words r.fate r.gone r.book v record v { seen = r.book; began = began; steps = steps } (reserves_same v record v { seen = r.book; began = began; steps = steps } refl refl refl) kn.records)) i

  -- what a reservation holds no lane owns that was found not to be held
  waits_unowned : (x : Reserved) (number lane : ℕ) (life : Life) → x.slot < o.shape.reservations → life.scanned ≡ o.shape.reservations → Waits r.fate x number → r.fate number ≢ owned_by lane life
  waits_unowned x number lane life inside free w is = let e : owned_by w.lane w.life ≡ owned_by lane life = sym w.fate_is ∙ is in let same : w.life ≡ life = cc e in
      let le = w.unscanned in let all : w.life.scanned ≡ o.shape.reservations = ap (λ (z : Life). z.scanned) same ∙ free in omega arith

  -- a step that changes a word of the seat's own lane, which is not free after it, or of a record of this life that it owns, and that no reservation holds
  module _ (a : ℕ) (h : Held) (held : get_elem? v.held a ≡ some h) (life : Life) (scanned : life.scanned ≡ o.shape.reservations) (i x : ℕ) where
    -- the word i is of this lane's estate: no leaf's or node's, of no other lane, and of no record but those that the lane owns
    pub record IsOwnWord : Type 0 where
      pub past_nodes : (q : ℕ) → q < place_count o.shape → q ≢ i
      pub past_lanes : (m : ℕ) → m < o.shape.workers → m ≢ h.lane → lane_place o.shape m ≢ i
      pub past_records : (number k : ℕ) → k < record_words → r.fate number ≢ owned_by h.lane life → record_start o.shape number + k ≢ i
      pub before_era : i < record_start o.shape (record_count o.shape)

    module _ (own : IsOwnWord) where
      own_stays : (j : ℕ) → j ≢ i → get_or (set s.words i x) j 0 ≡ get_or s.words j 0
      own_stays j ne = get_or-set_other s.words i j x 0 ne

      own_record_stays : (number k : ℕ) → k < record_words → r.fate number ≢ owned_by h.lane life → get_or (set s.words i x) (record_start o.shape number + k) 0 ≡ get_or s.words (record_start o.shape number + k) 0
      own_record_stays number k small other = own_stays (record_start o.shape number + k) (own.past_records number k small other)

      pub own_leaves : LeavesRecords o.shape s.words r.fate r.gone r.book (set s.words i x) r.fate r.book
      own_leaves = record {
        era = let same = own_stays (era_place o.shape) (λ is. let low = own.before_era in omega arith) in omega arith;
        grows = book_refl r.book;
        there = λ q j e inner p t. record { stands = t.stands; words_are = λ k small. own_record_stays e.number k small (stands_unowned o.shape (r.fate e.number) q j h.lane life t.stands) ∙ t.words_are k small };
        waits = λ y q j e inner p inside some_era word w has. (w, λ k small. own_record_stays e.number k small (waits_unowned y e.number h.lane life inside scanned w) ∙ has k small);
        came = λ q j e inner p. inl p;
        opened = λ off number low is. is;
      }

      pub own_slots : SameSlots o.shape s.words r.fate r.gone r.book (set s.words i x) r.fate r.book
      own_slots slot inside = own_stays (reservation_place o.shape slot) (λ is. let low = own.before_era in omega arith)

      pub own_moves : (n : ℕ) → get_or (set s.words i x) (lane_place o.shape h.lane) 0 ≡ n → word_of_state Free < n → n ≤ word_of_state Ended → MayMove face o s r id v (set s.words i x) r.book r.fate r.gone
      own_moves n state some_state last_state = record {
        tree = record {
          wide = length-set s.words i x ∙ r.tree.wide;
          is_book = r.tree.is_book;
          opened = r.tree.opened;
          newest = λ q low. let t = r.tree.newest q low in record { index = t.index; entry = t.entry; newest = t.newest; word = own_stays q (own.past_nodes q low) ∙ t.word; shown = t.shown };
          shared = λ off level low k small. own_record_stays level k small (λ is. let clash : at_opening ≡ owned_by h.lane life = sym (r.records.opened off level (omega arith)) ∙ is in cc) ∙ r.tree.shared off level low k small;
          idle = λ off number k is small. own_record_stays number k small (λ e. let clash : at_opening ≡ owned_by h.lane life = sym (r.records.opened off number is.opening) ∙ e in cc) ∙ r.tree.idle off number k is small;
        };
        records = records_on o.shape s.words r.fate r.gone r.book (set s.words i x) r.fate r.book own_leaves r.records;
        grows = book_refl r.book;
        lanes = λ lane low. ⊎_elim
            (λ (same : lane ≡ h.lane). inr record { holds = record { index = a; held = h; at = held; is = sym same }; some_state = subst (λ (z : ℕ). word_of_state Free < get_or (set s.words i x) (lane_place o.shape z) 0) (sym same) (omega (arith, state)); last_state = subst (λ (z : ℕ). get_or (set s.words i x) (lane_place o.shape z) 0 ≤ word_of_state Ended) (sym same) (omega (arith, state)) })
            (λ other. inl (own_stays (lane_place o.shape lane) (own.past_lanes lane low other))) (cases_eq lane h.lane);
        others = λ lane y not owns. record {
          exists = owns.exists;
          long = owns.long;
          exact = λ k small. own_record_stays y.number k small (λ is. let e : owned_by lane y.life ≡ owned_by h.lane life = sym owns.fate_is ∙ is in let same : lane ≡ h.lane = cc e in not record { index = a; held = h; at = held; is = sym same }) ∙ owns.exact k small;
          fate_is = owns.fate_is;
        };
        fresh = λ seen saw f. f;
        kept = λ j u ne p. view_on o.shape s.words r.fate r.gone r.book (set s.words i x) r.fate r.book own_leaves own_slots u;
      }

  -- a step that changes the word of a leaf or a node, which gains an entry
  module _ (q : ℕ) (inside : q < place_count o.shape) (e : Entry) where
    pub in_book : q < length r.book
    in_book = let long = r.tree.is_book.long in omega arith

    abbrev pub book' : Book
    book' = grow r.book q in_book e

    abbrev pub after : List ℕ
    after = set s.words q e.word

    stay : (j : ℕ) → j ≢ q → get_or after j 0 ≡ get_or s.words j 0
    stay j ne = get_or-set_other s.words q j e.word 0 ne

    record_stays : (n k : ℕ) → get_or after (record_start o.shape n + k) 0 ≡ get_or s.words (record_start o.shape n + k) 0
    record_stays n k = stay (record_start o.shape n + k) (λ is. omega arith)

    lane_stays : (lane : ℕ) → get_or after (lane_place o.shape lane) 0 ≡ get_or s.words (lane_place o.shape lane) 0
    lane_stays lane = stay (lane_place o.shape lane) (λ is. omega arith)

    -- what a lane owns it owns still, if that becomes of it
    pub owns_on : (fate' : ℕ → Fate) (lane : ℕ) (x : Owned) → fate' x.number ≡ owned_by lane x.life → OwnsRecord o.shape s.words r.fate lane x → OwnsRecord o.shape after fate' lane x
    owns_on fate' lane x is owns = record { exists = owns.exists; long = owns.long; exact = λ k small. record_stays x.number k ∙ owns.exact k small; fate_is = is }

    pub holds_on : (fate' : ℕ → Fate) (h : Held) (kept : List Owned) → HoldsLane o.shape s.words r.fate h → ((x : Owned) → Lists kept x → Lists h.owned x × (fate' x.number ≡ owned_by h.lane x.life)) → (replaced : List Replaced) → HoldsLane o.shape after fate' record h { owned = kept; replaced = replaced }
    holds_on fate' h kept l was replaced = record { exists = l.exists; state = lane_stays h.lane ∙ l.state; owns = λ x t. let w = was x t in owns_on fate' h.lane x w.1 (l.owns x w.0) }

    -- the new entry is over entries in use, its record was a free one of the lane, and has the entry's words
    module _ (fate' : ℕ → Fate) (lane : ℕ) (life : Life) (scanned : life.scanned ≡ o.shape.reservations) where
      pub record Publishes : Type 0 where
        pub was : r.fate e.number ≡ owned_by lane life
        pub stands_now : fate' e.number ≡ standing q (length (history_of r.book q))
        pub others_as : (n : ℕ) → n ≢ e.number → fate' n ≡ r.fate n
        pub full : HasWords o.shape s.words e.number e.words
        pub left_in_use : r.gone (left_of o.shape q) ≤ e.left
        pub right_in_use : r.gone (right_of o.shape q) ≤ e.right

      module _ (p : Publishes) where
        -- what was not a free record of the lane is what it was
        pub fate_same : (n : ℕ) → r.fate n ≢ owned_by lane life → fate' n ≡ r.fate n
        fate_same n not = p.others_as n (λ is. not (ap r.fate is ∙ p.was))

        pub tree_leaves : LeavesRecords o.shape s.words r.fate r.gone r.book after fate' book'
        tree_leaves = record {
          era = let same = stay (era_place o.shape) (λ is. omega arith) in omega arith;
          grows = grown r.book q in_book e;
          there = λ p' j f inner at' t. record {
            stands = subst (λ (z : Fate). StandsAs o.shape z p' j) (sym (fate_same f.number (stands_unowned o.shape (r.fate f.number) p' j lane life t.stands))) t.stands;
            words_are = λ k small. record_stays f.number k ∙ t.words_are k small;
          };
          waits = λ x p' j f inner at' low some_era word w has. (record { lane = w.lane; life = w.life; fate_is = fate_same f.number (waits_unowned x f.number lane life low scanned w) ∙ w.fate_is; born = w.born; died = w.died; unscanned = w.unscanned }, λ k small. record_stays f.number k ∙ has k small);
          came = λ p' j f inner at'. ⊎_elim (λ old. inl old)
              (λ new. inr (subst (λ (z : ℕ × ℕ × Entry). IsThere o.shape after fate' z.0 z.1 z.2 × (r.gone (left_of o.shape z.0) ≤ z.2.left) × (r.gone (right_of o.shape z.0) ≤ z.2.right)) (λ k. (sym new.0 k, sym new.1 k, new.2 k))
              (record { stands = inl p.stands_now; words_are = λ k small. record_stays e.number k ∙ p.full k small }, p.left_in_use, p.right_in_use))) (at_grown r.book q in_book e p' j f at');
          opened = λ off number low is. fate_same number (λ z. let clash : at_opening ≡ owned_by lane life = sym is ∙ z in cc) ∙ is;
        }

        pub tree_slots : SameSlots o.shape s.words r.fate r.gone r.book after fate' book'
        tree_slots slot low = stay (reservation_place o.shape slot) (λ is. omega arith)

        pub tree_moves : ((theirs : ℕ) (x : Owned) → (IsItsLane v theirs → ⊥) → r.fate x.number ≡ owned_by theirs x.life → fate' x.number ≡ owned_by theirs x.life) → IsBook face o.shape book' → e.passed ≡ false
            → ((seen : Book) → ArePrefixes seen r.book → IsInner o.shape q → FloorsCover o.shape seen q e) → MayMove face o s r id v after book' fate' r.gone
        tree_moves theirs is_book shown floors = record {
          records = records_on o.shape s.words r.fate r.gone r.book after fate' book' tree_leaves r.records;
          kept = λ j u ne at'. view_on o.shape s.words r.fate r.gone r.book after fate' book' tree_leaves tree_slots u;
          grows = grown r.book q in_book e;
          tree = record {
            wide = length-set s.words q e.word ∙ r.tree.wide;
            is_book = is_book;
            opened = book_trans r.tree.opened (grown r.book q in_book e);
            newest = λ p' low. ⊎_elim
                (λ is. subst (λ (z : ℕ). NamesNewest after book' z) (sym is) record {
                  index = length (history_of r.book q);
                  entry = e;
                  newest = newest_here r.book q in_book e;
                  word = let wide = r.tree.wide in get_or-set_same s.words q e.word 0 (omega arith);
                  shown = shown;
                })
                (λ ne. let t = r.tree.newest p' low in record { index = t.index; entry = t.entry; newest = newest_there r.book q in_book e p' t.index t.entry ne t.newest; word = stay p' ne ∙ t.word; shown = t.shown }) (cases_eq p' q);
            shared = λ off level low k small. record_stays level k ∙ r.tree.shared off level low k small;
            idle = λ off number k is small. record_stays number k ∙ r.tree.idle off number k is small;
          };
          lanes = λ theirs low. inl (lane_stays theirs);
          others = λ of x not owns. owns_on fate' of x (theirs of x not owns.fate_is) owns;
          fresh = λ seen saw f. record {
            covers = λ p' j x inner past t. ⊎_elim (λ old. f.covers p' j x inner past old)
                (λ new. subst (λ (z : ℕ × Entry). FloorsCover o.shape seen z.0 z.1) (λ k. (sym new.0 k, new.2 k)) (floors seen saw (subst (IsInner o.shape) new.0 inner))) (at_grown r.book q in_book e p' j x t);
          };
        }

  -- a step that changes the word of a leaf, whose history gains entries
  module _ (key : ℕ) (leaf : key < 2 ^ o.shape.bits) (x : ℕ) (longer : Book) where
    pub record GainsLeaf : Type 0 where
      pub is_book : IsBook face o.shape longer
      pub grows : ArePrefixes r.book longer
      pub stays : (p i : ℕ) (e : Entry) → p ≢ key → At longer p i e → At r.book p i e
      pub still : (p i : ℕ) (e : Entry) → p ≢ key → IsNewest r.book p i e → IsNewest longer p i e
      pub names : NamesNewest (set s.words key x) longer key

    stay_leaf : (j : ℕ) → j ≢ key → get_or (set s.words key x) j 0 ≡ get_or s.words j 0
    stay_leaf j ne = get_or-set_other s.words key j x 0 ne

    past_leaf : (j : ℕ) → place_count o.shape ≤ j → get_or (set s.words key x) j 0 ≡ get_or s.words j 0
    past_leaf j le = let t = twice o.shape.bits in stay_leaf j (λ is. omega arith)

    -- what a lane owns it owns still
    owns_still : (lane : ℕ) (y : Owned) → OwnsRecord o.shape s.words r.fate lane y → OwnsRecord o.shape (set s.words key x) r.fate lane y
    owns_still lane y owns = record { exists = owns.exists; long = owns.long; exact = λ k small. past_leaf (record_start o.shape y.number + k) (omega arith) ∙ owns.exact k small; fate_is = owns.fate_is }

    pub holds_still : (h : Held) (changes : List Change) → HoldsLane o.shape s.words r.fate h → HoldsLane o.shape (set s.words key x) r.fate record h { changes = changes }
    holds_still h changes l = record { exists = l.exists; state = past_leaf (lane_place o.shape h.lane) (omega arith) ∙ l.state; owns = λ y t. owns_still h.lane y (l.owns y t) }

    no_leaf : (p : ℕ) → IsInner o.shape p → p ≢ key
    no_leaf p inner is = let past = inner.past_leaves in omega arith

    pub leaf_leaves : GainsLeaf → LeavesRecords o.shape s.words r.fate r.gone r.book (set s.words key x) r.fate longer
    leaf_leaves g = record {
      era = let same = past_leaf (era_place o.shape) (omega arith) in omega arith;
      grows = g.grows;
      there = λ p j f inner at' t. record { stands = t.stands; words_are = λ k small. past_leaf (record_start o.shape f.number + k) (omega arith) ∙ t.words_are k small };
      waits = λ y p j f inner at' low some_era word w has. (w, λ k small. past_leaf (record_start o.shape f.number + k) (omega arith) ∙ has k small);
      came = λ p j f inner t. inl (g.stays p j f (no_leaf p inner) t);
      opened = λ off number low is. is;
    }

    pub leaf_slots : SameSlots o.shape s.words r.fate r.gone r.book (set s.words key x) r.fate longer
    leaf_slots slot low = past_leaf (reservation_place o.shape slot) (omega arith)

    pub leaf_moves : GainsLeaf → MayMove face o s r id v (set s.words key x) longer r.fate r.gone
    leaf_moves g = record {
      records = records_on o.shape s.words r.fate r.gone r.book (set s.words key x) r.fate longer (leaf_leaves g) r.records;
      kept = λ j u ne at'. view_on o.shape s.words r.fate r.gone r.book (set s.words key x) r.fate longer (leaf_leaves g) leaf_slots u;
      grows = g.grows;
      tree = record {
        wide = length-set s.words key x ∙ r.tree.wide;
        is_book = g.is_book;
        opened = book_trans r.tree.opened g.grows;
        newest = λ p low. ⊎_elim
            (λ is. subst (λ (z : ℕ). NamesNewest (set s.words key x) longer z) (sym is) g.names)
            (λ ne. let t = r.tree.newest p low in record { index = t.index; entry = t.entry; newest = g.still p t.index t.entry ne t.newest; word = stay_leaf p ne ∙ t.word; shown = t.shown }) (cases_eq p key);
        shared = λ off level low k small. past_leaf (record_start o.shape level + k) (omega arith) ∙ r.tree.shared off level low k small;
        idle = λ off number k is small. past_leaf (record_start o.shape number + k) (omega arith) ∙ r.tree.idle off number k is small;
      };
      lanes = λ lane low. inl (past_leaf (lane_place o.shape lane) (omega arith));
      others = λ lane y not owns. owns_still lane y owns;
      fresh = λ seen saw f. record { covers = λ p j e inner past t. f.covers p j e inner past (g.stays p j e (no_leaf p inner) t) };
    }
