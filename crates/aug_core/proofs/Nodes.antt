-- A node's word goes to a record of the seat's own lane, which is its newest entry then.
use Rattle.std.proofs.Common.{◌⊎◌, inl, inr, ◌%◌, ◌-◌, true, false, Bool, not, if◌then◌else◌, ◌≡◌, ◌≢◌, ℕ, ◌+◌, ◌^◌, ◌<◌, ◌≤◌, List, [], ◌∷◌, ◌++◌, length, get_or, set, eqb, eq-eqb, ne_eqb, sym, refl, ap, ◌∙◌, subst, ⊎_elim, arith}
use Rattle.std.specs.Prelude.{◌==◌}
use Rattle.std.proofs.lemmas.Bool.{cases_lt}
use mathlib.Core.Bool.{true≢false}
use mathlib.Core.Option.{none, some}
use lib.ListN.{get_elem?}
use prog.Atomic.{either}
use Rattle.atomic_table.specs.Table.{step, keeps, Allows}
use Rattle.atomic_table.proofs.Lists.{exchanged}
use Rattle.aug_core.specs.Places.{Shape, record_start, record_count, record_words}
use Rattle.aug_core.specs.Addresses.{place_count, IsInner, left_of, right_of}
use Rattle.aug_core.specs.Book.{Book, history_of, At, IsNewest, IsLastNamed, ArePrefixes, word_of_node, FloorsCover, IsFresh, NamesOnce, SerialsFit, IsBook}
use Rattle.aug_core.specs.Opening.{Opening}
use Rattle.aug_core.specs.Rule.{NamesNewest, HoldsLane, Kept}
use Rattle.aug_core.specs.Records.{Lists, Fate, standing, owned_by, StandsAs, HasWords, IsThere, IsClosed, floor_of, lane_of, Waits, IsReplaced, KeepsView, OwnsRecord}
use Rattle.aug_core.specs.Kinds.{try_node}
use Rattle.aug_core.specs.Effects.{Sat, HoldsOnly, Owns, MayStore, IsBornBy, on_first, last_replaced, ReplacesOther, publishing_from, seeing, publishing, IsFilled, TriesNode, tried_node}
use Rattle.aug_core.specs.inside.EraSteps.{WithEra}
use Rattle.aug_core.specs.inside.LaneStates.{HasTakenLane}
use Rattle.aug_core.specs.declared.step.StepTaken.{StepTaken}
use Rattle.aug_core.specs.declared.view.Entry.{Entry}
use Rattle.aug_core.specs.declared.view.Held.{Held}
use Rattle.aug_core.specs.declared.view.LaneState.TheVariants.{Taken}
use Rattle.aug_core.specs.declared.view.Life.{Life}
use Rattle.aug_core.specs.declared.view.Replaced.{Replaced}
use Rattle.aug_core.specs.declared.view.Reserved.{Reserved}
use Rattle.aug_core.specs.declared.view.SeatView.{SeatView}
use Rattle.aug_core.specs.declared.view.Owned.{Owned}
use Rattle.aug_core.proofs.Sizes.{twice}
use Rattle.aug_core.proofs.Owning.{listed_filter}
use Rattle.aug_core.proofs.EntryCuts.{entry_is}
use Rattle.aug_core.proofs.LastNamed.{LastOf, last_of}
use Rattle.aug_core.proofs.Leaves.{word_apart}
use Rattle.aug_core.proofs.Books.{at_below, grown, grown_at, at_grown, names_one, one_name, snoc_at, longer, no_shorter, one_entry, newest_here, there, grows}
use Rattle.aug_core.proofs.Keeping.{one_standing, one_place, stands_unowned, holds_lane_on, view_on}
use Rattle.aug_core.proofs.Moves.{St, MayMove, moves_on, holds_on, knows_seeing, in_book, book', after, Publishes, tree_leaves, tree_slots, tree_moves, watches}
use Rattle.aug_core.proofs.Stores.{alone, one_lane, is_taken}
use Rattle.aug_core.proofs.States.{Did}
use Rattle.aug_core.proofs.Fits.{fits_book, named_once, sees_after}
use Rattle.aug_core.proofs.Clients.{covers_now}
use Rattle.aug_core.proofs.Loads.{guarded, sees_it}
use Rattle.aug_core.proofs.PrefixLemmas.{book_trans, entry_stays}
use Rattle.aug_core.proofs.ReaderCounts.{still_works}

-- what becomes of records where one comes to stand
abbrev pub placed_at : (ℕ → Fate) → ℕ → ℕ → ℕ → ℕ → Fate
placed_at fate number q i n = if n == number then standing q i else fate n

module _ (face : ℕ → ℕ → List (ℕ × ℕ) → List ℕ) (o : Opening) where
  module _ (s : St) (r : Kept face o s) (id : ℕ) (v : SeatView) (at : get_elem? s.views id ≡ some v) (shaped : v.shape ≡ o.shape) (h : Held) (only : HoldsOnly v h) (taken : h.state ≡ Taken) (number : ℕ)
      (q : ℕ) (inner : IsInner o.shape q) (old birth : ℕ) (c : IsFilled face v q old birth number) (free : c.own.life.scanned ≡ o.shape.reservations) where
    held : get_elem? v.held 0 ≡ some h
    held = subst (λ (z : List Held). get_elem? z 0 ≡ some h) (sym only) refl

    mine : HoldsLane o.shape s.words r.fate h
    mine = (r.each_view id v at).holds 0 h held

    -- what was seen of the node and its children stands in the book
    know : ArePrefixes v.seen r.book
    know = (r.each_view id v at).saw

    abbrev HeldFrom : ℕ → ℕ → Type 0
    HeldFrom p i = (o.shape.reservations ≡ 0) ⊎ ((x : Reserved) × Lists v.reserved x × (floor_of x p ≤ i) × (birth ≤ x.era))

    by_used : {birth era : ℕ} → 0 < o.shape.reservations → IsBornBy v birth era → birth ≤ era
    by_used used le = ⊎_elim (λ off. let same = ap (λ (z : Shape). z.reservations) shaped in absurd (omega arith)) (λ le. le) le

    -- the last entry of a child with the word of one that was loaded: of the same keys with the same weights, and no younger
    pub record LastChild (p i : ℕ) (e : Entry) : Type 0 where
      pub is : LastOf (history_of r.book p) e.word
      pub later : i ≤ is.index
      pub pairs_are : is.entry.pairs ≡ e.pairs
      pub born : 0 < o.shape.reservations → is.entry.birth ≤ birth

    module _ (p i : ℕ) (e : Entry) (inside : p < place_count o.shape) (at_i : At r.book p i e) (shown : e.passed ≡ false) (young : IsBornBy v e.birth birth) (from : HeldFrom p i) where
      found : LastOf (history_of r.book p) e.word
      found = last_of (history_of r.book p) i e at_i shown

      up : i ≤ found.index
      up = found.last i e at_i shown refl

      born_by : 0 < o.shape.reservations → e.birth ≤ birth
      born_by used = by_used used young

      -- two entries of a node with one word, of which the view guards the first, are one
      one_inner : IsInner o.shape p → found.entry ≡ e
      one_inner inner' = let n = one_name face o.shape r.book r.tree.is_book p found.index i found.entry e inner' found.at at_i found.named in
          let same : found.index ≡ i = ⊎_elim (λ off. (named_once o.shape s.words r.fate r.gone r.book r.records off).once p found.index i found.entry e inner' found.at at_i n.0)
          (λ x. let t = (r.each_view id v at).records.reserved x.0 x.1 in let used : 0 < o.shape.reservations = (let low = t.1.exists in omega arith) in let le = born_by used in let one = n.1 used in
          let low = x.2 in let later = up in let most = x.3 in
          (r.each_view id v at).records.once x.0 x.0 x.1 x.1 p found.index i found.entry e inner' found.at at_i (omega arith) (omega arith) (omega arith) low n.0) from in
          one_entry r.book p i found.entry e (subst (λ (z : ℕ). At r.book p z found.entry) same found.at) at_i

      last_child : LastChild p i e
      last_child = ⊎_elim
          (λ (leaf : p < 2 ^ o.shape.bits). let x = r.tree.is_book.serials p found.index found.entry leaf found.at in let y = r.tree.is_book.serials p i e leaf at_i in
          let a = word_apart found.index i found.entry.weight e.weight x.fits y.fits (sym x.named ∙ found.named ∙ y.named) in let a0 = a.0 in
          let odd : found.index % 2 ≡ i % 2 = omega arith in let unborn = x.unborn in record {
            is = found;
            later = up;
            pairs_are = x.there_if_odd ∙ (λ k. if eqb (odd k) 1 then (p, a.1 k) ∷ [] else []) ∙ sym y.there_if_odd;
            born = λ used. omega arith;
          })
          (λ past. let one = one_inner record { past_leaves = past; inside = inside } in record {
            is = found;
            later = up;
            pairs_are = ap (λ (z : Entry). z.pairs) one;
            born = λ used. subst (λ (z : Entry). z.birth ≤ birth) (sym one) (born_by used);
          }) (cases_lt p (2 ^ o.shape.bits))

    left_at : At r.book (left_of o.shape q) c.is_loaded.left_index c.is_loaded.left
    left_at = subst (λ (z : Shape). At r.book (left_of z q) c.is_loaded.left_index c.is_loaded.left) shaped (entry_stays know (left_of v.shape q) c.is_loaded.left_index c.is_loaded.left c.is_loaded.left_at)

    right_at : At r.book (right_of o.shape q) c.is_loaded.right_index c.is_loaded.right
    right_at = subst (λ (z : Shape). At r.book (right_of z q) c.is_loaded.right_index c.is_loaded.right) shaped (entry_stays know (right_of v.shape q) c.is_loaded.right_index c.is_loaded.right c.is_loaded.right_at)

    pub left_newest : NamesNewest s.words r.book (left_of o.shape q)
    left_newest = r.tree.newest (left_of o.shape q) (let past = inner.past_leaves in let low = inner.inside in let t = twice o.shape.bits in omega arith)

    pub right_newest : NamesNewest s.words r.book (right_of o.shape q)
    right_newest = r.tree.newest (right_of o.shape q) (let past = inner.past_leaves in let low = inner.inside in let t = twice o.shape.bits in omega arith)

    node_newest : NamesNewest s.words r.book q
    node_newest = r.tree.newest q inner.inside

    -- what was loaded of a child is held by what the view reserved, if that matters
    held_below : (p i : ℕ) → ((x : Reserved) → floor_of x q ≤ c.is_loaded.index → IsClosed o.shape r.book (floor_of x) → floor_of x p ≤ i) → HeldFrom p i
    held_below p i below = ⊎_elim (λ off. inl (ap (λ (z : Shape). z.reservations) (sym shaped) ∙ off))
        (λ x. inr (x.0, x.1, below x.0 x.3 (((r.each_view id v at).records.reserved x.0 x.1).1).closed, x.4)) c.covers

    from_at : At r.book q c.is_loaded.index c.is_loaded.from
    from_at = entry_stays know q c.is_loaded.index c.is_loaded.from c.is_loaded.loaded

    -- the last entries of the children that have the words which were loaded
    pub left_last : LastChild (left_of o.shape q) c.is_loaded.left_index c.is_loaded.left
    left_last = last_child (left_of o.shape q) c.is_loaded.left_index c.is_loaded.left (let past = inner.past_leaves in let low = inner.inside in let t = twice o.shape.bits in omega arith) left_at c.is_loaded.left_shown c.left_born
        (held_below (left_of o.shape q) c.is_loaded.left_index (λ x low closed. let b = (closed.below q c.is_loaded.index c.is_loaded.from inner from_at low).0 in let later = c.is_loaded.left_later in omega arith))

    pub right_last : LastChild (right_of o.shape q) c.is_loaded.right_index c.is_loaded.right
    right_last = last_child (right_of o.shape q) c.is_loaded.right_index c.is_loaded.right (let past = inner.past_leaves in let low = inner.inside in let t = twice o.shape.bits in omega arith) right_at c.is_loaded.right_shown c.right_born
        (held_below (right_of o.shape q) c.is_loaded.right_index (λ x low closed. let b = (closed.below q c.is_loaded.index c.is_loaded.from inner from_at low).1 in let later = c.is_loaded.right_later in omega arith))

    abbrev pairs : List (ℕ × ℕ)
    pairs = c.is_loaded.left.pairs ++ c.is_loaded.right.pairs

    abbrev pub entry : Entry
    entry = record { number = number; word = word_of_node v.shape birth number; left = left_last.is.index; right = right_last.is.index; left_floor = left_newest.index; right_floor = right_newest.index; weight = 0; passed = false; birth = birth; maker = h.lane; pairs = pairs; words = face c.is_loaded.left.word c.is_loaded.right.word pairs }

    abbrev pub longer_book : Book
    longer_book = book' face o s r id v at q inner.inside entry

    abbrev pub words' : List ℕ
    words' = after face o s r id v at q inner.inside entry

    ib : q < length r.book
    ib = in_book face o s r id v at q inner.inside entry

    -- the lane that owns the record is the one that the view holds
    owner : c.owns.lane ≡ h
    owner = sym (alone h c.owns.lane c.owns.index (subst (λ (z : List Held). get_elem? z c.owns.index ≡ some c.owns.lane) only c.owns.at)).1

    owned : OwnsRecord o.shape s.words r.fate h.lane c.own
    owned = mine.owns c.own (subst (λ (z : Held). Lists z.owned c.own) owner c.owns.listed)

    fate_was : r.fate number ≡ owned_by h.lane c.own.life
    fate_was = ap r.fate (sym c.owns.numbered) ∙ owned.fate_is

    -- what the table has of the record
    has : HasWords o.shape s.words number entry.words
    has k small = ap (λ (z : ℕ). get_or s.words (record_start o.shape z + k) 0) (sym c.owns.numbered) ∙ owned.exact k small ∙ c.full k small

    abbrev pub fate' : ℕ → Fate
    fate' = placed_at r.fate number q (length (history_of r.book q))

    fate_here : (n : ℕ) → n ≡ number → fate' n ≡ standing q (length (history_of r.book q))
    fate_here n is = ap (λ (b : Bool). if b then standing q (length (history_of r.book q)) else r.fate n) (eq-eqb n number is)

    fate_there : (n : ℕ) → n ≢ number → fate' n ≡ r.fate n
    fate_there n ne = ap (λ (b : Bool). if b then standing q (length (history_of r.book q)) else r.fate n) (ne_eqb n number ne)

    -- what was loaded of the node the table has as it was seen
    from_there : HasWords o.shape s.words c.is_loaded.from.number c.is_loaded.from.words × (StandsAs o.shape (r.fate c.is_loaded.from.number) q c.is_loaded.index ⊎ ((x : Reserved) × (x.slot < o.shape.reservations) × Waits r.fate x c.is_loaded.from.number))
    from_there = guarded face o s r v (r.each_view id v at) shaped q c.is_loaded.index c.is_loaded.from record { inner = subst (λ (z : Shape). IsInner z q) (sym shaped) inner; at = c.is_loaded.loaded; covers = covers_now v q c.is_loaded.index c.is_loaded.from birth c.covers }

    top_there : IsThere o.shape s.words r.fate q node_newest.index node_newest.entry
    top_there = let low = r.records.newest q inner.inside in let long = node_newest.newest.last in r.records.there q node_newest.index node_newest.entry inner node_newest.newest.at (omega arith)

    -- where the word is the one that was loaded, the newest entry is the one that was loaded: no other was published since whose record had that number
    top_is : get_or s.words q 0 ≡ old → node_newest.entry ≡ c.is_loaded.from
    top_is hit = let t = node_newest in let same : t.entry.number ≡ c.is_loaded.from.number = (one_name face o.shape r.book r.tree.is_book q t.index c.is_loaded.index t.entry c.is_loaded.from inner t.newest.at from_at (sym t.word ∙ hit ∙ c.is_loaded.named)).0 in
        let stands : StandsAs o.shape (r.fate c.is_loaded.from.number) q t.index = subst (λ (z : ℕ). StandsAs o.shape (r.fate z) q t.index) same top_there.stands in
        let one : t.index ≡ c.is_loaded.index = ⊎_elim (λ as_was. one_standing o.shape (r.fate c.is_loaded.from.number) q t.index c.is_loaded.index stands as_was)
        (λ w. absurd (stands_unowned o.shape (r.fate c.is_loaded.from.number) q t.index w.2.lane w.2.life stands w.2.fate_is)) from_there.1 in
        one_entry r.book q c.is_loaded.index t.entry c.is_loaded.from (subst (λ (z : ℕ). At r.book q z t.entry) one t.newest.at) from_at

    -- the new entry stands over entries in use
    in_use : get_or s.words q 0 ≡ old → (r.gone (left_of o.shape q) ≤ left_last.is.index) × (r.gone (right_of o.shape q) ≤ right_last.is.index)
    in_use hit = let t = node_newest in let low = r.records.newest q inner.inside in let long = t.newest.last in let b = r.records.closed.below q t.index t.entry inner t.newest.at (omega arith) in
        let l : t.entry.left ≤ c.is_loaded.left_index = subst (λ (z : Entry). z.left ≤ c.is_loaded.left_index) (sym (top_is hit)) c.is_loaded.left_later in
        let m : t.entry.right ≤ c.is_loaded.right_index = subst (λ (z : Entry). z.right ≤ c.is_loaded.right_index) (sym (top_is hit)) c.is_loaded.right_later in
        let b0 = b.0 in let b1 = b.1 in let up0 = left_last.later in let up1 = right_last.later in (omega arith, omega arith)

    pub published : get_or s.words q 0 ≡ old → Publishes face o s r id v at q inner.inside entry fate' h.lane c.own.life free
    published hit = record { was = fate_was; stands_now = fate_here number refl; others_as = fate_there; full = has; left_in_use = (in_use hit).0; right_in_use = (in_use hit).1 }

    pub is_book' : get_or s.words q 0 ≡ old → IsBook face o.shape longer_book
    is_book' hit = let e = sym (top_is hit) in let t = node_newest in let l : LastChild (left_of o.shape q) c.is_loaded.left_index c.is_loaded.left = left_last in let m : LastChild (right_of o.shape q) c.is_loaded.right_index c.is_loaded.right = right_last in
        let up : (n : ℕ) → n ≤ c.is_loaded.left_index → n ≤ l.is.index = λ n le. (let on = l.later in omega arith) in let up' : (n : ℕ) → n ≤ c.is_loaded.right_index → n ≤ m.is.index = λ n le. (let on = m.later in omega arith) in
        grows r.book q ib entry face o.shape r.tree.is_book inner t.index t.entry t.newest (ap (λ (z : Shape). word_of_node z birth number) shaped) (subst (λ (z : ℕ). z < record_count o.shape) c.owns.numbered owned.exists)
        record {
          left_child = l.is.entry;
          right_child = m.is.entry;
          left_at = l.is.at;
          right_at = m.is.at;
          left_shown = l.is.shown;
          right_shown = m.is.shown;
          pairs_of_both = λ i. sym l.pairs_are i ++ sym m.pairs_are i;
          words_say = λ i. face (sym l.is.named i) (sym m.is.named i) pairs;
          left_born = l.born;
          right_born = m.born;
        }
        (up t.entry.left (subst (λ (z : Entry). z.left ≤ c.is_loaded.left_index) e c.is_loaded.left_later)) (up' t.entry.right (subst (λ (z : Entry). z.right ≤ c.is_loaded.right_index) e c.is_loaded.right_later))
        (up t.entry.left_floor (subst (λ (z : Entry). z.left_floor ≤ c.is_loaded.left_index) e c.is_loaded.left_known)) (up' t.entry.right_floor (subst (λ (z : Entry). z.right_floor ≤ c.is_loaded.right_index) e c.is_loaded.right_known))
        ((left_newest.entry, left_newest.newest.at), (right_newest.entry, right_newest.newest.at))

    floors : (seen : Book) → ArePrefixes seen r.book → IsInner o.shape q → FloorsCover o.shape seen q entry
    floors seen saw _ = let a = no_shorter r.book seen saw (left_of o.shape q) in let b = no_shorter r.book seen saw (right_of o.shape q) in let x = left_newest.newest.last in let y = right_newest.newest.last in
        record { left = omega arith; right = omega arith }

    pub moved : get_or s.words q 0 ≡ old → MayMove face o s r id v words' longer_book fate' r.gone
    moved hit = tree_moves face o s r id v at q inner.inside entry fate' h.lane c.own.life free (published hit)
        (λ lane x not is. fate_there x.number (λ same. let e : owned_by lane x.life ≡ owned_by h.lane c.own.life = sym is ∙ ap r.fate same ∙ fate_was in let this : lane ≡ h.lane = cc e in not record { index = 0; held = h; at = held; is = sym this }) ∙ is)
        (is_book' hit) refl floors

    abbrev pub lane' : Held
    lane' = publishing_from number (last_replaced longer_book q) h

    holds_it : HoldsLane o.shape words' fate' lane'
    holds_it = holds_on face o s r id v at q inner.inside entry fate' h lane'.owned mine
        (λ x t. let was = listed_filter (λ z. not (z.number == number)) h.owned x t in (was.0, fate_there x.number (λ is. true≢false (sym was.1 ∙ ap not (eq-eqb x.number number is))) ∙ (mine.owns x was.0).fate_is)) lane'.replaced

    same_leaves : (key : ℕ) → key < 2 ^ o.shape.bits → length (history_of longer_book key) ≡ length (history_of r.book key)
    same_leaves key low = ap length (there r.book q ib entry key (λ is. let past = inner.past_leaves in omega arith))

    -- the entry that was replaced is known to be that
    replaced_now : get_or s.words q 0 ≡ old → IsReplaced o.shape words' fate' longer_book h.lane (last_replaced longer_book q)
    replaced_now hit = let t = node_newest in let long = t.newest.last in let more = longer r.book q ib entry in
        let place : length (history_of longer_book q) - 2 ≡ t.index = omega arith in let after : length (history_of r.book q) ≡ length (history_of longer_book q) - 2 + 1 = omega arith in
        let was : At longer_book q (length (history_of longer_book q) - 2) t.entry = subst (λ (z : ℕ). At longer_book q z t.entry) (sym place) (entry_stays (grown r.book q ib entry) q t.index t.entry t.newest.at) in
        let is = entry_is longer_book q (length (history_of longer_book q) - 2) t.entry was in
        let there = (tree_leaves face o s r id v at q inner.inside entry fate' h.lane c.own.life free (published hit)).there q t.index t.entry inner t.newest.at top_there in record {
          inner = inner;
          entry = t.entry;
          next = entry;
          at = was;
          followed = subst (λ (z : ℕ). At longer_book q z entry) after (newest_here r.book q ib entry).at;
          made_by = refl;
          numbered = ap (λ (z : Entry). z.number) (sym is);
          born = ap (λ (z : Entry). z.birth) (sym is);
          said = ap (λ (z : Entry). z.words) (sym is);
          there = subst (λ (z : ℕ). IsThere o.shape words' fate' q z t.entry) (sym place) there;
        }

    -- it was no record of the lane's
    other : get_or s.words q 0 ≡ old → 0 < o.shape.reservations → ReplacesOther o.shape h old (last_replaced longer_book q)
    other hit used = let t = node_newest in let long = t.newest.last in let more = longer r.book q ib entry in let top = top_there in
        let place : length (history_of longer_book q) - 2 ≡ t.index = omega arith in
        let is = entry_is longer_book q (length (history_of longer_book q) - 2) t.entry (subst (λ (z : ℕ). At longer_book q z t.entry) (sym place) (entry_stays (grown r.book q ib entry) q t.index t.entry t.newest.at)) in record {
          named = sym hit ∙ t.word ∙ r.tree.is_book.named q t.index t.entry inner t.newest.at ∙ ap (λ (z : Entry). word_of_node o.shape z.birth z.number) (sym is);
          exists = subst (λ (z : Entry). z.number < record_count o.shape) (sym is) (r.tree.is_book.below q t.index t.entry inner t.newest.at);
          not_owned = λ x listed same. stands_unowned o.shape (r.fate t.entry.number) q t.index h.lane x.life top.stands (ap r.fate (sym (same ∙ ap (λ (z : Entry). z.number) is)) ∙ (mine.owns x listed).fate_is);
          not_replaced = λ d listed same. let was = (r.each_view id v at).records.replaced 0 h d held listed in
              let one = one_place o.shape (r.fate t.entry.number) d.place q d.index t.index used (subst (λ (z : ℕ). StandsAs o.shape (r.fate z) d.place d.index) (was.numbered ∙ same ∙ ap (λ (z : Entry). z.number) is) was.there.stands) top.stands in
              let below = at_below (history_of r.book q) (d.index + 1) was.next (subst (λ (z : ℕ). At r.book z (d.index + 1) was.next) one.0 was.followed) in let index = one.1 in absurd (omega arith);
        }

    pub followed : (last_replaced longer_book q).index + 1 ≡ length (history_of r.book q)
    followed = let long = node_newest.newest.last in let more = longer r.book q ib entry in omega arith

    -- as the view can tell of the lane that it holds
    pub other_told : get_or s.words q 0 ≡ old → 0 < v.shape.reservations → (g : Held) → HoldsOnly v g → ReplacesOther v.shape g old (last_replaced longer_book q)
    other_told hit used g its = subst (λ (z : Shape × Held). ReplacesOther z.0 z.1 old (last_replaced longer_book q))
        (λ i. (sym shaped i, (alone h g 0 (subst (λ (z : List Held). get_elem? z 0 ≡ some g) (sym its ∙ only) refl)).1 i)) (other hit (subst (λ (z : Shape). 0 < z.reservations) shaped used))

    keeps_view : get_or s.words q 0 ≡ old → (steps : List StepTaken) → KeepsView o.shape words' fate' r.gone longer_book record v { seen = longer_book; held = lane' ∷ []; steps = steps }
    keeps_view hit steps = let k = view_on o.shape s.words r.fate r.gone r.book words' fate' longer_book (tree_leaves face o s r id v at q inner.inside entry fate' h.lane c.own.life free (published hit)) (tree_slots face o s r id v at q inner.inside entry fate' h.lane c.own.life free (published hit)) v (r.each_view id v at).records in record {
      reserved = λ x e. let t = k.reserved x e in (
        holds_lane_on v record v { seen = longer_book; held = lane' ∷ []; steps = steps } (lane_of o.shape x.slot)
            (λ a g p. let u = alone h g a (subst (λ (z : List Held). get_elem? z a ≡ some g) only p) in (lane', subst (λ (z : ℕ). get_elem? (lane' ∷ []) z ≡ some lane') (sym u.0) refl, ap (λ (z : Held). z.lane) (sym u.1))) t.0,
        t.1,
      );
      once = k.once;
      reached = k.reached;
      replaced = λ a g x p l. let u = alone lane' g a p in subst (λ (z : ℕ). IsReplaced o.shape words' fate' longer_book z x) (ap (λ (z : Held). z.lane) u.1)
          (⊎_elim (λ was. k.replaced 0 h x held (l.0, was)) (λ new. subst (IsReplaced o.shape words' fate' longer_book h.lane) new.1 (replaced_now hit))
          (snoc_at h.replaced (last_replaced longer_book q) x l.0 (subst (λ (z : Held). get_elem? z.replaced l.0 ≡ some x) (sym u.1) l.1)));
    }

    pub publishes : get_or s.words q 0 ≡ old → (steps : List StepTaken) → Kept face o record { words = words'; homes = s.homes; views = set s.views id record v { seen = longer_book; held = lane' ∷ []; steps = steps } }
    publishes hit steps = moves_on face o s r id v words' longer_book fate' r.gone (moved hit) at record v { seen = longer_book; held = lane' ∷ []; steps = steps } (one_lane v h lane' longer_book steps only refl refl)
        (knows_seeing face o s r id v words' longer_book fate' r.gone (moved hit) at (lane' ∷ []) v.began steps (λ a g p. subst (HoldsLane o.shape words' fate') (alone lane' g a p).1 holds_it) (keeps_view hit steps)) same_leaves

    fits : o.shape.reservations ≡ 0 → SerialsFit o.shape longer_book
    fits off = let f = fits_book o s.words r.book s.views r.changes.tally (r.changes.tallied off) in record { few = λ key low. let e = same_leaves key low in let l = f.few key low in omega arith }

    pub later_fresh : get_or s.words q 0 ≡ old → IsFresh o.shape longer_book v.seen
    later_fresh hit = (moved hit).fresh v.seen know (r.each_view id v at).fresh

    pub later : ArePrefixes r.book longer_book
    later = grown r.book q ib entry

    pub newest_now : IsNewest longer_book q (length (history_of r.book q)) entry
    newest_now = newest_here r.book q ib entry

    pub in_round : get_or s.words q 0 ≡ old → o.shape.reservations ≡ 0 → NamesOnce o.shape longer_book × SerialsFit o.shape longer_book
    in_round hit off = (named_once o.shape words' fate' r.gone longer_book (moved hit).records off, fits off)

    -- whatever the view has of the record the entry has too
    pub says : (x : Owned) → Owns v number x → (k : ℕ) → k < record_words → get_or x.words k 0 ≡ get_or entry.words k 0
    says x owns k small = sym ((((r.each_view id v at).holds owns.index owns.lane owns.at).owns x owns.listed).exact k small) ∙ ap (λ (z : ℕ). get_or s.words (record_start o.shape z + k) 0) owns.numbered ∙ has k small

    -- no later entry of a child has the word that the new record names
    last_named : (p : ℕ) (w : ℕ) (l : LastOf (history_of r.book p) w) → p ≢ q → (e : Entry) → At longer_book p l.index e → IsLastNamed longer_book p l.index e
    last_named p w l ne e here = let is : e ≡ l.entry = one_entry longer_book p l.index e l.entry here (grown_at r.book q ib entry p l.index l.entry l.at) in
        record { last = λ j f there shown same. ⊎_elim (λ old. l.last j f old shown (same ∙ ap (λ (z : Entry). z.word) is ∙ l.named)) (λ new. absurd (ne new.0)) (at_grown r.book q ib entry p j f there) }

    pub lasts : (left right : Entry) → At longer_book (left_of v.shape q) entry.left left → At longer_book (right_of v.shape q) entry.right right → IsLastNamed longer_book (left_of v.shape q) entry.left left × IsLastNamed longer_book (right_of v.shape q) entry.right right
    lasts = subst (λ (z : Shape). (left right : Entry) → At longer_book (left_of z q) entry.left left → At longer_book (right_of z q) entry.right right → IsLastNamed longer_book (left_of z q) entry.left left × IsLastNamed longer_book (right_of z q) entry.right right) (sym shaped)
        (λ left right a b. let past = inner.past_leaves in let low = inner.inside in let t = twice o.shape.bits in (
          last_named (left_of o.shape q) c.is_loaded.left.word left_last.is (λ is. omega arith) left a,
          last_named (right_of o.shape q) c.is_loaded.right.word right_last.is (λ is. omega arith) right b,
        ))

  tries_node : (n id q old birth number : ℕ) (me : Sat) → me.0.live ≡ true → me.1 ≡ [] → IsInner me.0.shape q → HasTakenLane me.0 → MayStore me.0 number → IsFilled face me.0 q old birth number
      → Allows (Kept face o) n id me q (λ x. either (eqb x old) (word_of_node me.0.shape birth number) x) (WithEra me (tried_node face (step n q old (word_of_node me.0.shape birth number) none) me))
  tries_node n id q old birth number me live empty inner has may c s r _ at _ =
      let v : SeatView = me.0 in let taken0 = is_taken v may.lane may.only has in let h : Held = may.lane in let kn = r.each_view id v at in let shaped : v.shape ≡ o.shape = kn.shaped live in
      let inner' : IsInner o.shape q = subst (λ (z : Shape). IsInner z q) shaped inner in
      -- the record in question is the one that may be stored
      let mine : (y : Owned) → Lists h.owned y → OwnsRecord o.shape s.words r.fate h.lane y = (kn.holds 0 h (subst (λ (z : List Held). get_elem? z 0 ≡ some h) (sym may.only) refl)).owns in
      let owner : h ≡ c.owns.lane = (alone h c.owns.lane c.owns.index (subst (λ (z : List Held). get_elem? z c.owns.index ≡ some c.owns.lane) may.only c.owns.at)).1 in
      let lives : owned_by h.lane c.own.life ≡ owned_by h.lane may.own.life = sym (mine c.own (subst (λ (z : Held). Lists z.owned c.own) (sym owner) c.owns.listed)).fate_is ∙ ap r.fate (c.owns.numbered ∙ sym may.numbered) ∙ (mine may.own may.listed).fate_is in
      let life : c.own.life ≡ may.own.life = cc lives in let free : c.own.life.scanned ≡ o.shape.reservations = ap (λ (z : Life). z.scanned) life ∙ may.scanned ∙ ap (λ (z : Shape). z.reservations) shaped in
      let found : ℕ = get_or s.words q 0 in
      let new : ℕ = word_of_node v.shape birth number in let taken : StepTaken = try_node q old new found in let steps : List StepTaken = v.steps ++ taken ∷ [] in
      let mark : Replaced = last_replaced (longer_book s r id v at shaped h may.only taken0 number q inner' old birth c free) q in
      let held : on_first (publishing_from number mark) v.held ≡ publishing_from number mark h ∷ [] = ap (on_first (publishing_from number mark)) may.only in
      let exists : number < record_count v.shape = subst (λ (z : ℕ). z < record_count v.shape) may.numbered may.exists in let few : 0 < v.shape.reservations → record_count v.shape ≤ 2 ^ 24 = subst (λ (z : Shape). 0 < z.reservations → record_count z ≤ 2 ^ 24) (sym shaped) r.tree.is_book.numbers in
      let told : (w : SeatView) → TriesNode face v q old number new found w → (birth' number' : ℕ) → number' < record_count v.shape → new ≡ word_of_node v.shape birth' number' → TriesNode face v q old number' new found w = λ w t birth' number' low is.
      subst (λ (z : ℕ). TriesNode face v q old z new found w) (names_one v.shape birth number birth' number' (λ used. let most = few used in (omega arith, omega arith)) is).0 t in
      exchanged found old new (Did face o s q id me (WithEra me (tried_node face (step n q old new none) me)))
      (λ hit. let book2 : Book = longer_book s r id v at shaped h may.only taken0 number q inner' old birth c free in
      let e : Entry = entry s r id v at shaped h may.only taken0 number q inner' old birth c free in
      let longer = later s r id v at shaped h may.only taken0 number q inner' old birth c free in
      let w : SeatView = publishing v book2 number taken in (
        w,
        keeps,
        tt,
        subst (λ (z : List Held). Kept face o record { words = set s.words q new; homes = s.homes; views = set s.views id record v { seen = book2; held = z; steps = steps } }) (sym held)
            (publishes s r id v at shaped h may.only taken0 number q inner' old birth c free hit steps),
        (
          (
            empty,
            told w record {
              sees = sees_after face v w o.shape shaped (book_trans kn.saw longer) (book_trans kn.also_saw longer)
                  (later_fresh s r id v at shaped h may.only taken0 number q inner' old birth c free hit) (is_book' s r id v at shaped h may.only taken0 number q inner' old birth c free hit)
                  (in_round s r id v at shaped h may.only taken0 number q inner' old birth c free hit);
              shaped = refl;
              stepped = refl;
              index = length (history_of r.book q);
              entry = e;
              newest = newest_now s r id v at shaped h may.only taken0 number q inner' old birth c free;
              hit = λ _. (refl, refl, says s r id v at shaped h may.only taken0 number q inner' old birth c free);
              last = λ _. lasts s r id v at shaped h may.only taken0 number q inner' old birth c free;
              other = λ used _ g its. other_told s r id v at shaped h may.only taken0 number q inner' old birth c free hit used g its;
              followed = λ _. followed s r id v at shaped h may.only taken0 number q inner' old birth c free;
              miss = λ miss. absurd (miss hit);
            },
          ),
          record { live = refl; era = refl; past = refl; shape = refl; members = refl; told = refl; base = refl; whole = refl; led = λ m e. (m, e) },
          record { reads = refl; lent = refl; leads = λ m e. (m, e); works = still_works (publishing_from number mark) v w refl refl },
        ),
      ))
      (λ miss. let w : SeatView = seeing v r.book taken in let top = r.tree.newest q inner'.inside in (
        w,
        keeps,
        tt,
        watches face o s r id v at v.began taken q,
        (
          (
            empty,
            told w record {
              sees = sees_it face o s r id v at live w refl;
              shaped = refl;
              stepped = refl;
              index = top.index;
              entry = top.entry;
              newest = top.newest;
              hit = λ hit. absurd (miss hit);
              last = λ hit. absurd (miss hit);
              other = λ _ hit. absurd (miss hit);
              followed = λ hit. absurd (miss hit);
              miss = λ _. (refl, top.word);
            },
          ),
          record { live = refl; era = refl; past = refl; shape = refl; members = refl; told = refl; base = refl; whole = refl; led = λ m e. (m, e) },
          record { reads = refl; lent = refl; leads = λ m e. (m, e); works = λ work. work },
        ),
      ))

  -- the same, where the word that names the record is given
  pub allows_node : (n id q old birth number new : ℕ) (me : Sat) → new ≡ word_of_node me.0.shape birth number → me.0.live ≡ true → me.1 ≡ [] → IsInner me.0.shape q → HasTakenLane me.0 → MayStore me.0 number → IsFilled face me.0 q old birth number
      → Allows (Kept face o) n id me q (λ x. either (eqb x old) new x) (WithEra me (tried_node face (step n q old new none) me))
  allows_node n id q old birth number new me is live empty inner has may c =
      subst (λ (z : ℕ). Allows (Kept face o) n id me q (λ x. either (eqb x old) z x) (WithEra me (tried_node face (step n q old z none) me))) (sym is) (tries_node n id q old birth number me live empty inner has may c)
