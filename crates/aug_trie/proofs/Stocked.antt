-- One try at a node by the stock's next record.
use Rattle.std.proofs.Common.{◌==◌, ◌≡◌, ◌≢◌, inl, inr, ℕ, zero, suc, ◌+◌, ◌-◌, ◌*◌, ◌^◌, ◌<◌, ◌≤◌, max, Bool, nat_lt, if◌then◌else◌, List, [], ◌∷◌, ◌++◌, length, length-append, append_assoc, get_or, lt-ltb, le-ltb, sym, refl, ap, ◌∙◌, subst, ⊎_elim, arith}
use Rattle.std.proofs.lemmas.Bool.{cases_Bool, cases_lt, false≢true}
use Rattle.std.proofs.lemmas.List.{append-nil}
use Rattle.aug_monoid.specs.Parts.{Parts}
use Rattle.aug_monoid.specs.inside.Laws.{IsMonoid}
use Rattle.aug_core.specs.Places.{Shape, record_count, record_start, record_words}
use Rattle.aug_core.specs.Addresses.{place_count, IsInner, left_of, right_of}
use Rattle.aug_core.specs.Book.{Book, At, ArePrefixes, IsFresh, IsBook, IsLoaded}
use Rattle.aug_core.specs.Counts.{changes_of}
use Rattle.aug_core.specs.Faces.{face}
use Rattle.aug_core.specs.Reclaiming.{reaching, releasing, retiring_in}
use Rattle.aug_core.specs.inside.Shows.{Lifts}
use Rattle.aug_core.specs.Records.{first_era}
use Rattle.aug_core.specs.inside.Refreshes.{SaysLoaded, Published, Refreshed, stored}
use Rattle.aug_core.specs.Effects.{HoldsOnly, MayStore, Covers, GuardsRecord, IsFilled, TriesNode, KnowsBook, own_lane, on_first, storing_in, publishing_from, last_replaced}
use Rattle.aug_core.specs.declared.step.StepTaken.{StepTaken}
use Rattle.aug_core.specs.declared.view.Change.{Change}
use Rattle.aug_core.specs.declared.view.Entry.{Entry}
use Rattle.aug_core.specs.declared.view.Held.{Held}
use Rattle.aug_core.specs.declared.view.Replaced.{Replaced}
use Rattle.aug_core.specs.declared.view.Reserved.{Reserved}
use Rattle.aug_core.specs.declared.view.SeatView.{SeatView}
use Rattle.aug_model.specs.declared.outcome.Outcome.TheVariants.{Refused}
use Rattle.aug_trie.specs.Requests.{goes_from, outcome_by, word_left}
use Rattle.aug_trie.specs.declared.updates.told.LeafUpdate.{LeafUpdate}
use Rattle.aug_trie.specs.inside.Climbing.{CameBy}
use Rattle.aug_core.proofs.Books.{fresh_now, newest_is_last, one_entry}
use Rattle.aug_core.proofs.FaceLemmas.{left_in, right_in}
use Rattle.aug_core.proofs.Filling.{filled_view, is_filled}
use Rattle.aug_core.proofs.Fits.{book_as}
use Rattle.aug_core.proofs.PlaceLemmas.{double_pow}
use Rattle.aug_core.proofs.PrefixLemmas.{book_refl, book_trans, entry_stays}
use Rattle.aug_words.specs.Seats.{Known, Store, TriedNode}
use Rattle.aug_words.specs.Reservations.{Retires, LoadsEra, TurnsEra}
use Rattle.aug_words.specs.Stocks.{StockFacts, Stocks, CoversBy, ReservesAnew, IsLate, Scans, scan_steps, GoesBy, LoadsThree, LoadsOver, naming, number_in_word, birth_in_word}
use Rattle.aug_words.proofs.Held.{born_at, numbered_at}
use Rattle.aug_words.proofs.Stocking.{stocks_same, stocks_stored, told}
use Rattle.aug_trie.specs.declared.updates.request.Request.{Request}
use Rattle.aug_trie.specs.inside.Batching.{LeftFrom}
use Rattle.aug_trie.specs.inside.Goes.{Goes, Took, TookBetween, HasLeaves, KnowsLeaves, Looks, IsPartOf, part_steps, part_words}
use Rattle.aug_trie.specs.inside.Lasting.{all_records, most_try_steps, birth_from, KeepsStock, LiftedTo, TriedBy, MovesOn, IsScanned, UpdatedHeld, UpdatedOver, WorksBy}
use Rattle.aug_trie.specs.inside.RoundState.{eras_of}
use Rattle.aug_trie.proofs.Going.{took_one, between_on, goes_self, goes_after, goes_on, goes_more}
use Rattle.aug_trie.proofs.Looked.{guards_looking}
use Rattle.aug_trie.proofs.Looking.{goes_looking}
use Rattle.aug_trie.proofs.Publishing.{published, goes_tried, goes_stored, took_stored}
use Rattle.aug_trie.proofs.Raising.{lifts_later}
use Rattle.aug_trie.proofs.Whole.{part_few, five_over, same_steps, even}

-- ---- what the views of such a pass come to

-- so many steps lie between none and that many
pub took_by : (most : ℕ) (v w : SeatView) → GoesBy most v w → TookBetween v w 0 most
took_by most v w g = record { steps = length g.more; least_steps = omega arith; most_steps = g.few; took = record { more = g.more; steps = g.steps; count = refl; no_try = g.no_try } }

pub took_between : (v w : SeatView) (n : ℕ) → Took v w n → TookBetween v w n n
took_between v w n t = record { steps = n; least_steps = omega arith; most_steps = omega arith; took = t }

-- stores leave what was replaced
pub stored_keeps : (v : SeatView) (number : ℕ) (words : List ℕ) (n : ℕ) (h : Held) → HoldsOnly v h → (h' : Held) × HoldsOnly (stored v number words n) h' × (h'.replaced ≡ h.replaced)
stored_keeps v number words zero h only = (h, only, refl)
stored_keeps v number words (suc n) h only = let u : SeatView = stored v number words n in let before = stored_keeps v number words n h only in
    (storing_in u.shape (record_start u.shape number + n) (get_or words n 0) before.0, ap (λ (z : List Held). (storing_all u (record_start u.shape number + n) (get_or words n 0) z)) before.1, before.2)
  where
    storing_all : SeatView → ℕ → ℕ → List Held → List Held
    storing_all u place value [] = []
    storing_all u place value (x ∷ xs) = storing_in u.shape place value x ∷ xs

module _ (f : ℕ → ℕ → List (ℕ × ℕ) → List ℕ) where
  -- what goes from all records on
  pub goes_quiet : {v w : SeatView} {gained : List Change} → record_count v.shape ≤ 2 ^ 24 → ArePrefixes v.seen w.seen → IsFresh v.shape w.seen v.seen → KnowsBook f w → w.shape ≡ v.shape → w.members ≡ v.members → eras_of w ≡ eras_of v → own_lane w.held ≡ own_lane v.held
      → changes_of w.held ≡ changes_of v.held ++ gained → ((h : Held) × HoldsOnly v h → (h : Held) × HoldsOnly w h) → Goes f all_records gained v w
  goes_quiet {v} {w} few later fresh kn shaped members eras lane changes holds = record {
    later = later;
    fresh = fresh;
    knows_table = kn;
    shaped = shaped;
    same_members = members;
    same_eras = eras;
    lane = lane;
    changes = changes;
    holds = holds;
    still_owned = λ n past may. let low = may.exists in let is = may.numbered in absurd (omega arith);
  }

  pub knows_on : (v w : SeatView) → 0 < v.shape.reservations → w.shape ≡ v.shape → w.members ≡ v.members → ArePrefixes v.seen w.seen → IsBook f w.shape w.seen → KnowsBook f v → KnowsBook f w
  knows_on v w used shaped same later book kn = book_as f (record v { seen = w.seen }) shaped same refl record {
    laid_out = kn.laid_out;
    key_set = kn.key_set;
    members_fit = kn.members_fit;
    few_members = kn.few_members;
    book = subst (λ (z : Shape). IsBook f z w.seen) shaped book;
    opened = book_trans kn.opened later;
    in_round = λ off. absurd (omega (arith, off));
  }

  pub goes_by : {v w : SeatView} {k : StockFacts} (most : ℕ) → Stocks w k → KnowsBook f v → IsBook f w.shape w.seen → GoesBy most v w → Goes f all_records [] v w
  goes_by {v} {w} {k} most s kn book g = let shaped : w.shape ≡ v.shape = ap (λ (z : SeatView). z.shape) g.same in let held : w.held ≡ v.held = ap (λ (z : SeatView). z.held) g.same in
      let used : 0 < v.shape.reservations = subst (λ (z : Shape). 0 < z.reservations) shaped s.used in let few : record_count v.shape ≤ 2 ^ 24 = subst (λ (z : Shape). record_count z ≤ 2 ^ 24) shaped s.numbers in
      goes_quiet few g.later g.fresh (knows_on v w used shaped (ap (λ (z : SeatView). z.members) g.same) g.later book kn) shaped (ap (λ (z : SeatView). z.members) g.same) (ap eras_of g.same) (ap own_lane held)
      (ap changes_of held ∙ sym (append-nil (changes_of v.held))) (λ one. (one.0, held ∙ one.1))

  -- the record that a word of a node names may be read where it is held
  pub guards_held : (s : Shape) (v : SeatView) (q i word : ℕ) (e : Entry) → v.shape ≡ s → 0 < s.reservations → record_count s ≤ 2 ^ 24 → IsBook f s v.seen → IsInner s q → At v.seen q i e → word ≡ e.word → Covers v q i e → GuardsRecord v (number_in_word word)
  guards_held s v q i word e shaped used few book inner at named covers = let below = book.below q i e inner at in record {
    place = q;
    index = i;
    entry = e;
    guards = record { inner = subst (λ (z : Shape). IsInner z q) (sym shaped) inner; at = at; covers = covers };
    numbered = sym (numbered_at f s v.seen q i word e used book inner at named (omega arith));
  }

-- the birth that a record gets is no earlier than those of the children, nor later than what is reserved
birth_within : (era lb rb bound : ℕ) → first_era era ≤ bound → lb ≤ bound → rb ≤ bound → (lb ≤ max (max (first_era era) lb) rb) × (rb ≤ max (max (first_era era) lb) rb) × (max (max (first_era era) lb) rb ≤ bound)
birth_within era lb rb bound e l r = (omega arith, omega arith, omega arith)

module _ {A B : Type 0} (parts_a : Parts A) (parts_b : Parts B) (laws_a : IsMonoid parts_a) (laws_b : IsMonoid parts_b) where
  abbrev g : ℕ → ℕ → List (ℕ × ℕ) → List ℕ
  g = face parts_a parts_b

  -- what was loaded for a try that began at the view v: the record may be filled with it, and then published
  pub record StockLoaded (v w : SeatView) (k : StockFacts) (q old left right birth m n : ℕ) (rest : List ℕ) : Type 0 where
    pub stocks : Stocks w k
    pub knows_table : KnowsBook g w
    pub few : m + n < 2 ^ 64
    pub filled : (number : ℕ) (five : List ℕ) → 0 < k.free → number ≡ number_in_word (get_or k.words (k.free - 1) 0) → five ≡ left ∷ right ∷ (m + n) ∷ rest → IsFilled g (filled_view w number five) q old birth number
    pub over : (number : ℕ) (five : List ℕ) (w' : SeatView) (done : Bool) → 0 < k.free → number ≡ number_in_word (get_or k.words (k.free - 1) 0) → five ≡ left ∷ right ∷ (m + n) ∷ rest → TriedNode g (filled_view w number five) q old (naming birth number) done w' → TriedBy g v q done w'

  -- the loads of the children's parts leave the view as it is but for its steps
  module _ {v w0 : SeatView} (m1 m2 : List StepTaken) {k : StockFacts} {leaves q : ℕ} {r : ℕ × ℕ × ℕ} (table : HasLeaves v.shape leaves) (inner : IsInner v.shape q) (kn : KnowsBook g v) (s0 : Stocks w0 k) (o : LoadsOver g 14 k.era v q r w0) where
    abbrev w1 : SeatView
    w1 = record w0 { steps = w0.steps ++ m1 }

    abbrev w2 : SeatView
    w2 = record w0 { steps = w1.steps ++ m2 }

    abbrev s : Shape
    s = w0.shape

    abbrev child : ℕ
    child = 2 * (q - leaves)

    sh : w0.shape ≡ v.shape
    sh = ap (λ (z : SeatView). z.shape) o.goes.same

    inner0 : IsInner s q
    inner0 = subst (λ (z : Shape). IsInner z q) (sym sh) inner

    table0 : HasLeaves s leaves
    table0 = subst (λ (z : Shape). HasLeaves z leaves) (sym sh) table

    few0 : 2 ^ s.bits ≤ 65536
    few0 = let are = table0.are in let few = table0.few in omega arith

    left_is : child ≡ left_of s q
    left_is = ap (λ (z : ℕ). 2 * (q - z)) table0.are

    right_is : child + 1 ≡ right_of s q
    right_is = ap (λ (z : ℕ). z + 1) left_is

    g0 : Goes g all_records [] v w0
    g0 = goes_by g 14 s0 kn o.holds.loads.book o.goes

    kn0 : KnowsBook g w0
    kn0 = g0.knows_table

    abbrev l3 : LoadsThree g s v q r w0
    l3 = o.holds.loads

    abbrev t : IsLoaded s w0.seen q r.0
    t = l3.is_loaded

    inside : (left_of s q < place_count s) × (right_of s q < place_count s)
    inside = let past = inner0.past_leaves in let low = inner0.inside in let d = double_pow s.bits in (omega arith, omega arith)

    -- a child that is a node has a record of the table
    numbered : (p i word : ℕ) (e : Entry) → IsInner s p → At w0.seen p i e → word ≡ e.word → number_in_word word ≡ e.number
    numbered p i word e inn at named = let below = l3.book.below p i e inn at in let all = s0.numbers in numbered_at g s w0.seen p i word e s0.used l3.book inn at named (omega arith)

    -- what was loaded is held by the stock's reservation
    held_by : (p i : ℕ) (e : Entry) → CoversBy o.holds.by p i e → Covers w0 p i e
    held_by p i e c = inr (o.holds.by, o.holds.listed, c.0, c.1)

    held_l : IsInner s (left_of s q) → Covers w0 (left_of s q) t.left_index t.left × (t.left.number ≡ number_in_word r.1)
    held_l inn = (held_by (left_of s q) t.left_index t.left (o.holds.left_covers inn), sym (numbered (left_of s q) t.left_index r.1 t.left inn t.left_at l3.left_named))

    held_r : IsInner s (right_of s q) → Covers w0 (right_of s q) t.right_index t.right × (t.right.number ≡ number_in_word r.2)
    held_r inn = (held_by (right_of s q) t.right_index t.right (o.holds.right_covers inn), sym (numbered (right_of s q) t.right_index r.2 t.right inn t.right_at l3.right_named))

    -- the birth of a child's record, and 0 for a leaf
    birth_is : (p i word : ℕ) (e : Entry) (place : ℕ) → place < place_count s → p ≡ place → At w0.seen place i e → word ≡ e.word → (IsInner s place → CoversBy o.holds.by place i e) → ((if nat_lt p leaves then 0 else birth_in_word word) ≡ e.birth) × (e.birth ≤ k.era)
    birth_is p i word e place low is at named held = ⊎_elim
        (λ (below : place < 2 ^ s.bits). let none = (l3.book.serials place i e below at).unborn in let are = table0.are in
        (ap (λ (z : Bool). if z then 0 else birth_in_word word) (lt-ltb p leaves (omega arith)) ∙ sym none, omega (arith, none)))
        (λ (past : 2 ^ s.bits ≤ place). let inn : IsInner s place = record { past_leaves = past; inside = low } in let are = table0.are in let all = s0.numbers in let under = l3.book.below place i e inn at in
        let by = (held inn).0 in let era = o.holds.era_is in
        (ap (λ (z : Bool). if z then 0 else birth_in_word word) (le-ltb p leaves (omega arith)) ∙ born_at g s w0.seen place i word e s0.used l3.book inn at named (omega arith), omega arith))
        (cases_lt place (2 ^ s.bits))

    module _ {m n : ℕ} {x x' : A} {y y' : B} (left_part : IsPartOf parts_a parts_b w0 child r.1 (number_in_word r.1) m x y) (right_part : IsPartOf parts_a parts_b w1 (child + 1) r.2 (number_in_word r.2) n x' y') where
      part_l : IsPartOf parts_a parts_b w0 (left_of s q) r.1 (number_in_word r.1) m x y
      part_l = subst (λ (z : ℕ). IsPartOf parts_a parts_b w0 z r.1 (number_in_word r.1) m x y) left_is left_part

      part_r : IsPartOf parts_a parts_b w1 (right_of s q) r.2 (number_in_word r.2) n x' y'
      part_r = subst (λ (z : ℕ). IsPartOf parts_a parts_b w1 z r.2 (number_in_word r.2) n x' y') right_is right_part

      kn1 : KnowsBook g w1
      kn1 = book_as g w0 refl refl refl kn0

      few_both : m + n < 2 ^ 64
      few_both = let a = part_few parts_a parts_b s w0 (left_of s q) r.1 (number_in_word r.1) m x y refl few0 inside.0 kn0 (record { index = t.left_index; entry = t.left; at = t.left_at; named = sym l3.left_named }) held_l part_l in
          let b = part_few parts_a parts_b s w1 (right_of s q) r.2 (number_in_word r.2) n x' y' refl few0 inside.1 kn1 (record { index = t.right_index; entry = t.right; at = t.right_at; named = sym l3.right_named }) held_r part_r in omega arith

      abbrev rest : List ℕ
      rest = parts_a.to_word (parts_a.join x x') ∷ parts_b.to_word (parts_b.join y y') ∷ []

      abbrev words : List ℕ
      words = r.1 ∷ r.2 ∷ (m + n) ∷ rest

      abbrev says : SaysLoaded g s w0.seen q r.0 words
      says = record {
        is_loaded = t;
        left_named = sym l3.left_named;
        right_named = sym l3.right_named;
        five_are = five_over parts_a parts_b laws_a laws_b s w0 w1 q t.left_index t.right_index r.1 r.2 (number_in_word r.1) (number_in_word r.2) m n t.left t.right x x' y y' _ _ inner0 few0 refl refl kn0 kn1 t.left_at t.right_at (sym l3.left_named) (sym l3.right_named) held_l held_r part_l part_r refl refl;
      }

      abbrev birth : ℕ
      birth = birth_from k.era (nat_lt child leaves) r.1 r.2

      -- both children are leaves, or both are nodes
      same_kind : nat_lt (child + 1) leaves ≡ nat_lt child leaves
      same_kind = let are = table0.are in ⊎_elim
          (λ (low : child < leaves). lt-ltb (child + 1) leaves (both_low s.bits leaves (q - leaves) are low (let i = inside.1 in let d = double_pow s.bits in omega arith)) ∙ sym (lt-ltb child leaves low))
          (λ (high : leaves ≤ child). le-ltb (child + 1) leaves (omega arith) ∙ sym (le-ltb child leaves high)) (cases_lt child leaves)
        where
          both_low : (b l p : ℕ) → l ≡ 2 ^ b → 2 * p < l → p + 1 < l → 2 * p + 1 < l
          both_low b l p is low few = let e = even b p (omega arith) (omega arith) in omega arith

      born_l : ((if nat_lt child leaves then 0 else birth_in_word r.1) ≡ t.left.birth) × (t.left.birth ≤ k.era)
      born_l = birth_is child t.left_index r.1 t.left (left_of s q) inside.0 left_is t.left_at l3.left_named o.holds.left_covers

      born_r : ((if nat_lt child leaves then 0 else birth_in_word r.2) ≡ t.right.birth) × (t.right.birth ≤ k.era)
      born_r = let b = birth_is (child + 1) t.right_index r.2 t.right (right_of s q) inside.1 right_is t.right_at l3.right_named o.holds.right_covers in (ap (λ (z : Bool). if z then 0 else birth_in_word r.2) (sym same_kind) ∙ b.0, b.1)

      births : (t.left.birth ≤ birth) × (t.right.birth ≤ birth) × (birth ≤ o.holds.by.era)
      births = let l = born_l.0 in let l' = born_l.1 in let r = born_r.0 in let r' = born_r.1 in let era = o.holds.era_is in
          let b = birth_within k.era _ _ k.era (omega arith) (subst (λ (z : ℕ). z ≤ k.era) (sym l) l') (subst (λ (z : ℕ). z ≤ k.era) (sym r) r') in let b0 = b.0 in let b1 = b.1 in let b2 = b.2 in (omega arith, omega arith, omega arith)

      pub filled : (number : ℕ) (five : List ℕ) → MayStore w2 number → five ≡ words → IsFilled g (filled_view w2 number five) q r.0 birth number
      filled number five may is = subst (λ (z : List ℕ). IsFilled g (filled_view w2 number z) q r.0 birth number) (sym is) (is_filled w2 number words may g q r.0 birth says (inr (o.holds.by, o.holds.listed, o.holds.covers.0, o.holds.covers.1, births.2)) (inr births.0) (inr births.1))

      module _ (took1 : Took w0 w1 (part_steps s child)) (took2 : Took w1 w2 (part_steps s (child + 1))) (number : ℕ) (five : List ℕ) (w : SeatView) (done : Bool) (some : 0 < k.free) (next : number ≡ number_in_word (get_or k.words (k.free - 1) 0)) (is : five ≡ words)
          (tried : TriedNode g (filled_view w2 number five) q r.0 (naming birth number) done w) where
        abbrev u : SeatView
        u = filled_view w2 number five

        s2 : Stocks w2 k
        s2 = stocks_same w0 w2 k s0 refl refl refl

        may : MayStore w2 number
        may = let few = s0.numbers in subst (MayStore w2) (sym next) (s2.free (k.free - 1) (omega arith))

        tries : TriesNode g u q r.0 number (naming birth number) tried.found w
        tries = told g u w k q r.0 birth number done (stocks_stored w2 k number five record_words s2) some next tried

        loads : Goes g 0 [] w0 w2
        loads = goes_on g 0 0 0 [] w0 w1 w2 (omega arith) (omega arith) (goes_looking g (length m1) w0 w1 (record { more = m1; is = refl; few = omega arith }) kn0) (goes_looking g (length m2) w1 w2 (record { more = m2; is = refl; few = omega arith }) kn1)

        stores : Goes g 0 [] w2 u
        stores = goes_stored g w2 number five record_words loads.knows_table

        goes : Goes g all_records [] v w
        goes = let low = may.exists in let is = may.numbered in let all = s0.numbers in
            goes_on g all_records (number + 1) all_records [] v u w (omega arith) (omega arith)
            (goes_on g all_records 0 all_records [] v w2 u (omega arith) (omega arith) (goes_on g all_records 0 all_records [] v w0 w2 (omega arith) (omega arith) g0 loads) stores)
            (goes_tried g u w q r.0 number (naming birth number) tried.found done tried.decided tries stores.knows_table)

        -- the loads of the three words, those of both parts, the stores and the try
        took : TookBetween v w 0 (most_try_steps (part_steps v.shape (left_of v.shape q)))
        took = let p1 : part_steps s child ≡ part_steps v.shape (left_of v.shape q) = ap (part_steps s) left_is ∙ ap (λ (z : Shape). part_steps z (left_of z q)) sh in
            let p2 : part_steps s (child + 1) ≡ part_steps v.shape (left_of v.shape q) = ap (part_steps s) right_is ∙ same_steps s q inner0 ∙ ap (λ (z : Shape). part_steps z (left_of z q)) sh in
            let a = took_by 14 v w0 o.goes in
            let b = between_on v w0 w1 0 14 (part_steps s child) (part_steps s child) 0 (14 + part_steps s child) (omega arith) (omega arith) a (took_between w0 w1 (part_steps s child) took1) in
            let c = between_on v w1 w2 0 (14 + part_steps s child) (part_steps s (child + 1)) (part_steps s (child + 1)) 0 (14 + part_steps s child + part_steps s (child + 1)) (omega arith) (omega arith) b (took_between w1 w2 (part_steps s (child + 1)) took2) in
            let d = between_on v w2 u 0 (14 + part_steps s child + part_steps s (child + 1)) record_words record_words 0 (19 + part_steps s child + part_steps s (child + 1)) (omega arith) (omega arith) c (took_between w2 u record_words (took_stored w2 number five record_words)) in
            between_on v u w 0 (19 + part_steps s child + part_steps s (child + 1)) 1 1 0 _ (omega arith) (omega arith) d (took_between u w 1 (took_one u w _ refl tries.stepped))

        later : ArePrefixes w0.seen w.seen
        later = book_trans loads.later (book_trans stores.later tries.sees.later)

        is_published : Published s q r.0 (get_or five 0 0) (get_or five 1 0) done w.seen
        is_published = published g w2 number five may w q r.0 (naming birth number) tried.found done inner0 (left_in parts_a parts_b) (right_in parts_a parts_b) tried.decided tries

        refreshed : Refreshed s v.seen q done w.seen
        refreshed = record {
          covers = λ yes. let p = is_published in
              let l = (p.last yes).0.last t.left_index t.left (entry_stays later (left_of s q) t.left_index t.left t.left_at) t.left_shown (sym l3.left_named ∙ sym (p.left_is yes ∙ ap (λ (z : List ℕ). get_or z 0 0) is)) in
              let r = (p.last yes).1.last t.right_index t.right (entry_stays later (right_of s q) t.right_index t.right t.right_at) t.right_shown (sym l3.right_named ∙ sym (p.right_is yes ∙ ap (λ (z : List ℕ). get_or z 1 0) is)) in
              let lo = l3.left_no_older in let ro = l3.right_no_older in record { index = p.index; entry = p.entry; newest = p.newest; left = omega arith; right = omega arith };
          longer = λ no. let p = is_published in let at : At w.seen q t.index t.from = entry_stays later q t.index t.from t.loaded in let le = newest_is_last w.seen q p.index t.index p.entry t.from p.newest at in
              let other : p.index ≢ t.index = λ same. p.missed no (t.named ∙ ap (λ (z : Entry). z.word) (one_entry w.seen q p.index t.from p.entry (subst (λ (z : ℕ). At w.seen q z t.from) (sym same) at) p.newest.at)) in
              let long = p.newest.last in let old = l3.no_older in omega arith;
        }

        keeps : (h : Held) → HoldsOnly v h → (h' : Held) × HoldsOnly u h' × (h'.replaced ≡ h.replaced)
        keeps h only = stored_keeps w2 number five record_words h (ap (λ (z : SeatView). z.held) o.goes.same ∙ only)

        pub tried_by : TriedBy g v q done w
        tried_by = record {
          goes = goes;
          took = took;
          refreshed = subst (λ (z : Shape). Refreshed z v.seen q done w.seen) sh refreshed;
          hit = λ yes h only. let c : Replaced = last_replaced w.seen q in let st = keeps h only in let found = tried.decided.0 yes in let before = tries.followed found in let long = tries.newest.last in
              (publishing_from number c st.0, ap (λ (z : SeatView). z.held) (tries.hit found).0 ∙ ap (on_first (publishing_from number c)) st.1, inr (c, ap (λ (z : List Replaced). z ++ c ∷ []) st.2, refl, omega arith));
          miss = λ no h only. let st = keeps h only in (st.0, ap (λ (z : SeatView). z.held) (tries.miss (λ hit. false≢true (sym no ∙ tried.decided.1 hit))).0 ∙ st.1, st.2);
        }

  -- what was loaded, by what the calls say
  pub stock_loaded : {v w0 w1 w2 : SeatView} {k : StockFacts} {leaves q m n : ℕ} {r : ℕ × ℕ × ℕ} {x x' : A} {y y' : B} → HasLeaves v.shape leaves → IsInner v.shape q → KnowsBook g v → Stocks w0 k → LoadsOver g 14 k.era v q r w0
      → Looks part_words w0 w1 → Took w0 w1 (part_steps w0.shape (2 * (q - leaves))) → IsPartOf parts_a parts_b w0 (2 * (q - leaves)) r.1 (number_in_word r.1) m x y
      → Looks part_words w1 w2 → Took w1 w2 (part_steps w1.shape (2 * (q - leaves) + 1)) → IsPartOf parts_a parts_b w1 (2 * (q - leaves) + 1) r.2 (number_in_word r.2) n x' y'
      → StockLoaded v w2 k q r.0 r.1 r.2 (birth_from k.era (nat_lt (2 * (q - leaves)) leaves) r.1 r.2) m n (parts_a.to_word (parts_a.join x x') ∷ parts_b.to_word (parts_b.join y y') ∷ [])
  stock_loaded {v} {w0} {w1} {w2} {k} {leaves} {q} {m} {n} {r} {x} {x'} {y} {y'} table inner kn s0 o looks1 took1 part_l looks2 took2 part_r =
      let e1 = looks1.is in let m1 : List StepTaken = looks1.more in let m2 : List StepTaken = looks2.more in
      let e2 = looks2.is ∙ ap (λ (z : SeatView). record z { steps = z.steps ++ m2 }) e1 in
      let s : Shape = w0.shape in let u1 : SeatView = record w0 { steps = w0.steps ++ m1 } in let u2 : SeatView = record w0 { steps = (w0.steps ++ m1) ++ m2 } in
      let t1 = subst (λ (z : SeatView). Took w0 z (part_steps s (2 * (q - leaves)))) e1 took1 in let t2 = subst (λ (z : SeatView × SeatView). Took z.0 z.1 (part_steps z.0.shape (2 * (q - leaves) + 1))) (λ i. (e1 i, e2 i)) took2 in
      let pr = subst (λ (z : SeatView). IsPartOf parts_a parts_b z (2 * (q - leaves) + 1) r.2 (number_in_word r.2) n x' y') e1 part_r in
      subst (λ (z : SeatView). StockLoaded v z k q r.0 r.1 r.2 (birth_from k.era (nat_lt (2 * (q - leaves)) leaves) r.1 r.2) m n (parts_a.to_word (parts_a.join x x') ∷ parts_b.to_word (parts_b.join y y') ∷ [])) (sym e2) record {
        stocks = stocks_same w0 u2 k s0 refl refl refl;
        knows_table = book_as g w0 refl refl refl (kn0 m1 m2 table inner kn s0 o);
        few = few_both m1 m2 table inner kn s0 o part_l pr;
        filled = λ number five some next is. let few = s0.numbers in
            filled m1 m2 table inner kn s0 o part_l pr number five (subst (MayStore u2) (sym next) ((stocks_same w0 u2 k s0 refl refl refl).free (k.free - 1) (omega arith))) is;
        over = λ number five w done some next is tried. tried_by m1 m2 table inner kn s0 o part_l pr t1 t2 number five w done some next is tried;
      }

  -- both parts may be loaded
  pub knows_leaves : {v w0 : SeatView} {k : StockFacts} {leaves q : ℕ} {r : ℕ × ℕ × ℕ} → HasLeaves v.shape leaves → KnowsBook g v → Stocks w0 k → LoadsOver g 14 k.era v q r w0 → KnowsLeaves g w0 leaves
  knows_leaves {v} {w0} {k} {leaves} table kn s0 o = record { leaves = subst (λ (z : Shape). HasLeaves z leaves) (sym (ap (λ (z : SeatView). z.shape) o.goes.same)) table; knows = (goes_by g 14 s0 kn o.holds.loads.book o.goes).knows_table }

  pub left_guarded : {v w0 : SeatView} {k : StockFacts} {leaves q : ℕ} {r : ℕ × ℕ × ℕ} → HasLeaves v.shape leaves → IsInner v.shape q → Stocks w0 k → LoadsOver g 14 k.era v q r w0 → IsInner w0.shape (2 * (q - leaves)) → GuardsRecord w0 (number_in_word r.1)
  left_guarded {v} {w0} {k} {leaves} {q} {r} table inner s0 o inn = let l = o.holds.loads in let t = l.is_loaded in let inn' = subst (IsInner w0.shape) (ap (λ (z : ℕ). 2 * (q - z)) (table.are ∙ ap (λ (z : Shape). 2 ^ z.bits) (sym (ap (λ (z : SeatView). z.shape) o.goes.same)))) inn in
      guards_held g w0.shape w0 (left_of w0.shape q) t.left_index r.1 t.left refl s0.used s0.numbers l.book inn' t.left_at l.left_named (let c = o.holds.left_covers inn' in inr (o.holds.by, o.holds.listed, c.0, c.1))

  pub right_guarded : {v w0 w1 : SeatView} {k : StockFacts} {leaves q : ℕ} {r : ℕ × ℕ × ℕ} → HasLeaves v.shape leaves → IsInner v.shape q → Stocks w0 k → LoadsOver g 14 k.era v q r w0 → Looks part_words w0 w1 → IsInner w1.shape (2 * (q - leaves) + 1) → GuardsRecord w1 (number_in_word r.2)
  right_guarded {v} {w0} {w1} {k} {leaves} {q} {r} table inner s0 o looks inn = let l = o.holds.loads in let t = l.is_loaded in
      let inn' = subst (λ (z : Shape × ℕ). IsInner z.0 z.1) (λ i. (ap (λ (z : SeatView). z.shape) looks.is i, 2 * (q - (table.are ∙ ap (λ (z : Shape). 2 ^ z.bits) (sym (ap (λ (z : SeatView). z.shape) o.goes.same))) i) + 1)) inn in
      guards_looking part_words w0 w1 (number_in_word r.2) looks (guards_held g w0.shape w0 (right_of w0.shape q) t.right_index r.2 t.right refl s0.used s0.numbers l.book inn' t.right_at l.right_named (let c = o.holds.right_covers inn' in inr (o.holds.by, o.holds.listed, c.0, c.1)))

-- it keeps its stock
pub keeps_on : {f : ℕ → ℕ → List (ℕ × ℕ) → List ℕ} {store : Store} {used : ℕ} {gained : List Change} {p p' : Known} {k k' : StockFacts} → KeepsStock f store p k → p'.table ≡ p.table → Goes f used gained p.view p'.view → Stocks p'.view k' → KeepsStock f store p' k'
keeps_on {f} {store} {used} {gained} {p} {p'} keeps table goes stocks = record {
  together = record { one_table = table ∙ keeps.together.one_table; one_shape = goes.shaped ∙ keeps.together.one_shape };
  slots = subst (λ (z : Shape). z.workers ≤ z.reservations) (sym goes.shaped) keeps.slots;
  knows_table = goes.knows_table;
  stocks = stocks;
}

-- ---- steps that learnt nothing

module _ (f : ℕ → ℕ → List (ℕ × ℕ) → List ℕ) where
  pub goes_rested : {v w : SeatView} {k : StockFacts} → Stocks v k → KnowsBook f v → w ≡ record v { held = w.held; reserved = w.reserved; reached = w.reached; steps = w.steps } → ((h : Held) → HoldsOnly v h → (h' : Held) × HoldsOnly w h' × (h'.lane ≡ h.lane) × (h'.changes ≡ h.changes)) → Goes f all_records [] v w
  goes_rested {v} {w} {k} s kn is lane = let seen : v.seen ≡ w.seen = ap (λ (z : SeatView). z.seen) (sym is) in let shaped : w.shape ≡ v.shape = ap (λ (z : SeatView). z.shape) is in let x = lane s.lane s.only in
      goes_quiet f s.numbers (subst (ArePrefixes v.seen) seen (book_refl v.seen)) (subst (λ (z : Book). IsFresh v.shape z v.seen) seen (fresh_now v.shape v.seen)) (book_as f v shaped (ap (λ (z : SeatView). z.members) is) (sym seen) kn)
      shaped (ap (λ (z : SeatView). z.members) is) (ap eras_of is) (ap own_lane x.1 ∙ x.2 ∙ ap own_lane (sym s.only)) (ap changes_of x.1 ∙ (λ i. x.3 i ++ []) ∙ ap changes_of (sym s.only) ∙ sym (append-nil (changes_of v.held))) (λ one. let y = lane one.0 one.1 in (y.0, y.1))

  -- one after another
  pub works_on : {u v w : SeatView} (m n k : ℕ) {gained more all : List Change} → m + n ≤ k → gained ++ more ≡ all → WorksBy f m gained u v → WorksBy f n more v w → WorksBy f k all u w
  works_on {u} {v} {w} m n k {gained} {more} {all} fits total x y = let xf = x.few in let yf = y.few in record {
    goes = goes_after f all_records all_records all_records gained more all u v w (omega arith) (omega arith) total x.goes y.goes;
    more = x.more ++ y.more;
    steps = y.steps ∙ ap (λ (z : List StepTaken). z ++ y.more) x.steps ∙ append_assoc u.steps x.more y.more;
    few = let long = length-append x.more y.more in omega arith;
  }

  pub works_one : {v w : SeatView} (taken : StepTaken) → Goes f all_records [] v w → w.steps ≡ v.steps ++ taken ∷ [] → WorksBy f 1 [] v w
  works_one {v} {w} taken g is = record { goes = g; more = taken ∷ []; steps = is; few = omega arith }

-- none
pub works_none : (f : ℕ → ℕ → List (ℕ × ℕ) → List ℕ) (most : ℕ) (v : SeatView) → KnowsBook f v → WorksBy f most [] v v
works_none f most v kn = record { goes = goes_more f 0 all_records [] v v (omega arith) (goes_self f v kn); more = []; steps = sym (append-nil v.steps); few = omega arith }

-- the lane is the same
pub same_held : (v w : SeatView) → w.held ≡ v.held → (h : Held) → HoldsOnly v h → (h' : Held) × HoldsOnly w h' × (h'.lane ≡ h.lane) × (h'.changes ≡ h.changes)
same_held v w held h only = (h, held ∙ only, refl, refl)

-- but for what is reserved, the era that was reached, and the steps
pub rested_by : (v w : SeatView) {x : List Reserved} {y : ℕ} {z : List StepTaken} → w ≡ record v { reserved = x; reached = y; steps = z } → w ≡ record v { held = w.held; reserved = w.reserved; reached = w.reached; steps = w.steps }
rested_by v w e =
    e ∙ (λ i. record v { held = ap (λ (u : SeatView). u.held) (sym e) i; reserved = ap (λ (u : SeatView). u.reserved) (sym e) i; reached = ap (λ (u : SeatView). u.reached) (sym e) i; steps = ap (λ (u : SeatView). u.steps) (sym e) i })

module _ (f : ℕ → ℕ → List (ℕ × ℕ) → List ℕ) where
  pub works_anew : {v w : SeatView} {k : StockFacts} {word : ℕ → ℕ} {most era : ℕ} → Stocks v k → KnowsBook f v → ReservesAnew word most v w era → WorksBy f most [] v w
  works_anew {v} {w} s kn r = let few = r.few in record { goes = goes_rested f s kn (rested_by v w r.same) (same_held v w (ap (λ (z : SeatView). z.held) r.same)); more = _; steps = r.steps; few = omega arith }

  pub works_late : {v w : SeatView} {k : StockFacts} → Stocks v k → KnowsBook f v → IsLate v w → WorksBy f 1 [] v w
  works_late {v} {w} s kn l = let is = l.loaded.stepped in works_one f _ (goes_rested f s kn (rested_by v w is) (same_held v w (ap (λ (z : SeatView). z.held) is))) (ap (λ (z : SeatView). z.steps) is)

  pub works_released : {v w : SeatView} {k : StockFacts} → Stocks v k → KnowsBook f v → w ≡ releasing v (own_lane v.held) → WorksBy f 1 [] v w
  works_released {v} {w} s kn is = works_one f _ (goes_rested f s kn (rested_by v w is) (same_held v w (ap (λ (z : SeatView). z.held) is))) (ap (λ (z : SeatView). z.steps) is)

  pub works_retired : {v w : SeatView} {k : StockFacts} {era : ℕ} → Stocks v k → KnowsBook f v → Retires v era w → WorksBy f 1 [] v w
  works_retired {v} {w} {k} {era} s kn r = let is = r.stepped in
      works_one f _ (goes_rested f s kn (is ∙ (λ i. record v { held = ap (λ (u : SeatView). u.held) (sym is) i; reached = ap (λ (u : SeatView). u.reached) (sym is) i; steps = ap (λ (u : SeatView). u.steps) (sym is) i }
      ) ∙ (λ i. record v { held = w.held; reserved = ap (λ (u : SeatView). u.reserved) (sym is) i; reached = w.reached; steps = w.steps }))
      (λ h only. (retiring_in era h, ap (λ (z : SeatView). z.held) is ∙ ap (on_first (retiring_in era)) only, refl, refl))) (ap (λ (z : SeatView). z.steps) is)

  -- the whole update
  pub updated_over : {v w1 w2 w3 : SeatView} {k : StockFacts} {key bits era : ℕ} {request : Request} {made : LeafUpdate} → bits ≡ v.shape.bits → key < 2 ^ v.shape.bits → LeftFrom f v key request w1 made.found made.outcome → made.left ≡ word_left request key made.found made.outcome → LiftedTo f key w1 bits w2 → Stocks w2 k → Retires w2 era w3 → UpdatedOver f v key request made w3
  updated_over {v} {w1} {w2} {w3} {k} {key} {bits} {era} {request} {made} is low from left r s2 t = let l = from.0 in let last = works_retired s2 r.goes.knows_table t in let shaped = l.goes.shaped in let lowest = r.took.most_steps in let all = r.took.took.count in let one = l.few_steps in
      let leaf : WorksBy f 2 l.gained v w1 = record { goes = goes_more f 0 all_records l.gained v w1 (omega arith) l.goes; more = _; steps = l.steps; few = omega arith } in
      let way : WorksBy f (bits * (2 * most_try_steps part_words)) [] w1 w2 = record { goes = r.goes; more = r.took.took.more; steps = r.took.took.steps; few = omega arith } in
      let works : WorksBy f (v.shape.bits * (2 * most_try_steps part_words) + 3) l.gained v w3 =
      works_on f (bits * (2 * most_try_steps part_words) + 2) 1 _ (omega arith) (append-nil l.gained) (works_on f 2 (bits * (2 * most_try_steps part_words)) (bits * (2 * most_try_steps part_words) + 2) (omega arith) (append-nil l.gained) leaf way) last in record {
        gained = l.gained;
        works = works;
        at_leaf = record {
          stops = λ stopped. (l.refusing (ap (goes_from request) from.1 ∙ stopped)).0;
          tries = λ lets. let e = l.tried (ap (goes_from request) from.1 ∙ lets) in elim (cases_Bool (e.found == l.word)) [
            | inl hit ↦ inl (e.says ∙ ap (λ (b : Bool). if b then outcome_by request l.word else Refused) hit ∙ ap (outcome_by request) from.1)
            | inr miss ↦ inr (e.says ∙ ap (λ (b : Bool). if b then outcome_by request l.word else Refused) miss)
          ];
          left = left;
        };
        came = λ u z same before after goes. let later = book_trans r.goes.later (book_trans last.goes.later after) in let at : z.shape ≡ v.shape = goes.shaped ∙ same in
            let lifts : Lifts v.shape w1.seen w2.seen key v.shape.bits = subst (λ (x : Shape × ℕ). Lifts x.0 w1.seen w2.seen key x.1) (λ i. (shaped i, is i)) r.lifts in
            subst (λ (x : ℕ). CameBy f all_records u key request z x made.outcome) from.1 (l.came all_records u z same before later (lifts_later f v.shape w1.seen w2.seen z.seen key v.shape.bits low (omega arith) (subst (λ (x : Shape). IsBook f x z.seen) at goes.knows_table.book) (book_trans last.goes.later after) lifts) goes);
      }

  -- what it reserved and let go of with it
  pub updated_held : {v u w x : SeatView} {key : ℕ} {request : Request} {made : LeafUpdate} → WorksBy f 3 [] v u → UpdatedOver f u key request made w → WorksBy f 1 [] w x → UpdatedHeld f v key request made x
  updated_held {v} {u} {w} {x} {key} {request} {made} first o last = let shaped = first.goes.shaped in let bits : u.shape.bits ≡ v.shape.bits = ap (λ (z : Shape). z.bits) shaped in
      let works : WorksBy f (v.shape.bits * (2 * most_try_steps part_words) + 7) o.gained v x =
      works_on f (u.shape.bits * (2 * most_try_steps part_words) + 6) 1 _ (omega arith) (append-nil o.gained) (works_on f 3 (u.shape.bits * (2 * most_try_steps part_words) + 3) (u.shape.bits * (2 * most_try_steps part_words) + 6) (omega arith) refl first o.works) last in record {
        gained = o.gained;
        works = works;
        at_leaf = o.at_leaf;
        came = λ a z same before after. o.came a z (same ∙ sym shaped) (book_trans before first.goes.later) (book_trans last.goes.later after);
      }

  -- ---- the era moves on, and all reservations are loaded

  works_era : (v w : SeatView) {k : StockFacts} (taken : StepTaken) (era : ℕ) → Stocks v k → KnowsBook f v → w ≡ reaching v era taken → WorksBy f 1 [] v w
  works_era v w taken era s kn is = works_one f taken (goes_rested f s kn (rested_by v w is) (same_held v w (ap (λ (z : SeatView). z.held) is))) (ap (λ (z : SeatView). z.steps) is)

  reached_by : (v w : SeatView) (taken : StepTaken) (era : ℕ) → w ≡ reaching v era taken → w ≡ record v { reached = w.reached; steps = w.steps }
  reached_by v w taken era is = is ∙ (λ i. record v { reached = ap (λ (z : SeatView). z.reached) (sym is) i; steps = ap (λ (z : SeatView). z.steps) (sym is) i })

  pub moved_one : {v w : SeatView} {k : StockFacts} {era : ℕ} → Stocks v k → KnowsBook f v → LoadsEra v era w → MovesOn f v w
  moved_one {v} {w} s kn l = let x = works_era v w _ _ s kn l.stepped in record { works = record { goes = x.goes; more = x.more; steps = x.steps; few = let few = x.few in omega arith }; same = reached_by v w _ _ l.stepped }

  pub moved_two : {v u w : SeatView} {k : StockFacts} {era old : ℕ} {done : Bool} → Stocks v k → KnowsBook f v → LoadsEra v era u → TurnsEra u old done w → MovesOn f v w
  moved_two {v} {u} {w} {k} s kn l t = let s' : Stocks u k = stocks_same v u k s (ap (λ (z : SeatView). z.shape) l.stepped) (ap (λ (z : SeatView). z.held) l.stepped) (ap (λ (z : SeatView). z.reserved) l.stepped) in let x = works_era v u _ _ s kn l.stepped in let one = reached_by v u _ _ l.stepped in let two = reached_by u w _ _ t.stepped in record {
    works = works_on f 1 1 2 (omega arith) refl x (works_era u w _ _ s' x.goes.knows_table t.stepped);
    same = two ∙ (λ i. record (one i) { reached = w.reached; steps = w.steps });
  }

  scan_long : (s : Shape) (eras : ℕ → ℕ) (n : ℕ) → length (scan_steps s eras n) ≡ n
  scan_long s eras zero = refl
  scan_long s eras (suc n) = length-append (scan_steps s eras n) _ ∙ (let e = scan_long s eras n in let goal : length (scan_steps s eras n) + 1 ≡ suc n = omega arith in goal)

  pub is_scanned : {v u w : SeatView} {k after : StockFacts} → Stocks u k → MovesOn f v u → Scans u k w after → IsScanned f v k w after
  is_scanned {v} {u} {w} {k} {after} s m z = let shaped : u.shape ≡ v.shape = m.works.goes.shaped in let n : ℕ = u.shape.reservations in let long = scan_long u.shape z.eras n in
      let scan : WorksBy f n [] u w = record {
        goes = goes_rested f s m.works.goes.knows_table (z.same ∙ (λ i. record u { held = w.held; reserved = ap (λ (y : SeatView). y.reserved) (sym z.same) i; reached = ap (λ (y : SeatView). y.reached) (sym z.same) i; steps = w.steps })) (λ h only. let x = z.lane h only in (x.0, x.1, x.2, x.3));
        more = _;
        steps = z.steps;
        few = omega arith;
      } in
      let works : WorksBy f (v.shape.reservations + 2) [] v w = works_on f 2 n (v.shape.reservations + 2) (let e = ap (λ (y : Shape). y.reservations) shaped in omega arith) refl m.works scan in record {
        works = works;
        before = m.works.more;
        eras = z.eras;
        scans = z.steps ∙ (λ i. m.works.steps i ++ scan_steps (shaped i) z.eras (shaped i).reservations);
        same = (ap (λ (y : SeatView). y.seen) z.same ∙ ap (λ (y : SeatView). y.seen) m.same, works.goes.changes ∙ append-nil (changes_of v.held));
        size = z.keeps.0;
        held = λ i past low. let x = z.held i past low in (x.0, subst (λ (y : Shape). x.0 < y.reservations) shaped x.1, x.2);
      }
