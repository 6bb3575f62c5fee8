-- The words of a node and of its children, loaded so that what is reserved holds the records that they name.
use Rattle.std.proofs.Common.{◌≡◌, ◌⊎◌, inl, inr, ◌&&◌, ◌||◌, Bool, nat_le, nat_lt, true, false, ℕ, zero, suc, ◌+◌, ◌-◌, ◌*◌, ◌^◌, ◌<◌, ◌≤◌, List, [], ◌∷◌, ◌++◌, length-append, append_assoc, refl, sym, ap, ◌∙◌, subst, arith}
use Rattle.std.proofs.lemmas.Bool.{true≢false, leb-true, leb-false, ltb-true, ltb-false, and_cases, and_parts, or_parts, false_from_ne_true}
use Rattle.std.proofs.lemmas.List.{append-nil}
use Rattle.std.proofs.lemmas.List.Elements.{All-append}
use Rattle.aug_core.specs.Places.{Shape, era_place}
use Rattle.aug_core.specs.Addresses.{IsInner, left_of, right_of}
use Rattle.aug_core.specs.Book.{Book, ArePrefixes, IsFresh, IsBook, At}
use Rattle.aug_core.specs.Kinds.{load_leaf, load_node, load_era}
use Rattle.aug_core.specs.Records.{Lists, IsClosed, floor_of}
use Rattle.aug_core.specs.Effects.{LoadsLeaf, LoadsNode, Sees, seeing}
use Rattle.aug_core.specs.declared.step.StepTaken.{StepTaken}
use Rattle.aug_core.specs.declared.view.Entry.{Entry}
use Rattle.aug_core.specs.declared.view.Reserved.{Reserved}
use Rattle.aug_core.specs.declared.view.SeatView.{SeatView}
use Rattle.aug_core.proofs.PlaceLemmas.{double_pow}
use Rattle.aug_core.proofs.Books.{no_shorter, fresh_now, fresh_on}
use Rattle.aug_core.proofs.PrefixLemmas.{book_refl, book_trans, entry_stays}
use Rattle.aug_core.proofs.Refreshing.{is_loaded}
use Rattle.aug_words.specs.Stocks.{StockFacts, CoversBy, Stocks, number_in_word, birth_in_word, ReservesAnew, IsLate, GoesBy, HasSeenLater, HasSeenLaterOver, HoldsThree, LoadsOver, LoadsHeld}
use Rattle.aug_words.specs.inside.Stocking.{covers_three, GoesStill, LoadsWord, LoadsWords}
use Rattle.aug_words.proofs.Stocking.{tries_leaf, quiet, no_try_none, no_try_one, number_named, birth_named, named_used, stocks_same}

-- ---- steps, one after another

pub goes_by_none : (most : ℕ) (v : SeatView) → GoesBy most v v
goes_by_none most v = record { same = refl; later = book_refl v.seen; fresh = fresh_now v.shape v.seen; more = []; steps = sym (append-nil v.steps); few = omega arith; no_try = no_try_none }

pub goes_by_on : (m n k : ℕ) (u v w : SeatView) → m + n ≤ k → GoesBy m u v → GoesBy n v w → GoesBy k u w
goes_by_on m n k u v w fits x y = let xf = x.few in let yf = y.few in record {
  same = y.same ∙ (λ i. record (x.same i) { seen = w.seen; reserved = w.reserved; reached = w.reached; steps = w.steps });
  later = book_trans x.later y.later;
  fresh = fresh_on u.shape u.seen v.seen w.seen x.later y.later x.fresh (subst (λ (z : Shape). IsFresh z w.seen v.seen) (ap (λ (z : SeatView). z.shape) x.same) y.fresh);
  more = x.more ++ y.more;
  steps = y.steps ∙ ap (λ (z : List StepTaken). z ++ y.more) x.steps ∙ append_assoc u.steps x.more y.more;
  few = let long = length-append x.more y.more in omega arith;
  no_try = All-append quiet x.more y.more x.no_try y.no_try;
}

-- the era was loaded, and perhaps what it makes was reserved
pub goes_by_anew : (word : ℕ → ℕ) (most : ℕ) (v w : SeatView) (era : ℕ) → ReservesAnew word most v w era → GoesBy most v w
goes_by_anew word most v w era r = let few = r.few in let load : StepTaken = load_era (era_place v.shape) r.found in let seen : v.seen ≡ w.seen = ap (λ (z : SeatView). z.seen) (sym r.same) in record {
  same = r.same ∙ (λ i. record v { seen = seen i; reserved = ap (λ (z : SeatView). z.reserved) (sym r.same) i; reached = w.reached; steps = w.steps });
  later = subst (ArePrefixes v.seen) seen (book_refl v.seen);
  fresh = subst (λ (z : Book). IsFresh v.shape z v.seen) seen (fresh_now v.shape v.seen);
  more = load ∷ r.more;
  steps = r.steps;
  few = omega arith;
  no_try = All-append quiet (load ∷ []) r.more (no_try_one load refl) r.no_try;
}

pub goes_by_late : (v w : SeatView) → IsLate v w → GoesBy 1 v w
goes_by_late v w l = let is = l.loaded.stepped in let load : StepTaken = load_era (era_place v.shape) l.found in subst (GoesBy 1 v) (sym is) record {
  same = refl;
  later = book_refl v.seen;
  fresh = fresh_now v.shape v.seen;
  more = load ∷ [];
  steps = refl;
  few = omega arith;
  no_try = no_try_one load refl;
}

still_on : (m n k : ℕ) (u v w : SeatView) → m + n ≤ k → GoesStill m u v → GoesStill n v w → GoesStill k u w
still_on m n k u v w fits x y = record { goes = goes_by_on m n k u v w fits x.goes y.goes; reserves = y.reserves ∙ x.reserves }

even : (bits q : ℕ) → 2 ^ bits ≤ q → q < 2 ^ (bits + 1) - 1 → 2 ^ bits ≤ 2 * (q - 2 ^ bits) + 1 → 2 ^ bits ≤ 2 * (q - 2 ^ bits)
even zero q past inside within = absurd (omega arith)
even (suc b) q past inside within = omega arith

-- both children of an inner node lie before the end
inside_right : (bits q : ℕ) → 2 ^ bits ≤ q → q < 2 ^ (bits + 1) - 1 → 2 * (q - 2 ^ bits) + 1 < 2 ^ (bits + 1) - 1
inside_right bits q past inside = omega (arith, double_pow bits)

far_on : (a b q : ℕ) → a ≡ b → a ≤ 2 * (q - a) → b ≤ 2 * (q - b)
far_on a b q e x = subst (λ z. z ≤ 2 * (q - z)) e x

-- the stock stays
pub stocks_still : (most : ℕ) (v w : SeatView) (k : StockFacts) → Stocks v k → GoesStill most v w → Stocks w k
stocks_still most v w k s c = let is = c.goes.same in stocks_same v w k s (ap (λ (z : SeatView). z.shape) is) (ap (λ (z : SeatView). z.held) is) c.reserves

-- what tests that were passed say
second_true : (x y : Bool) → x ≡ false → (x || y) ≡ true → y ≡ true
second_true true y off any = absurd (true≢false off)
second_true false y off any = any

pub all_early : (era leaves child : ℕ) (r : ℕ × ℕ × ℕ) → covers_three era (nat_lt child leaves) r ≡ true → (birth_in_word r.0 ≤ era) × (leaves ≤ child → (birth_in_word r.1 ≤ era) × (birth_in_word r.2 ≤ era))
all_early era leaves child r test = let both = and_parts _ _ test in (
  leb-true _ _ both.0,
  λ past. let no : nat_lt child leaves ≡ false = false_from_ne_true (nat_lt child leaves) (λ below. let near : child < leaves = ltb-true _ _ below in absurd (omega arith)) in
      let two = and_parts _ _ (second_true (nat_lt child leaves) _ no both.1) in (leb-true _ _ two.0, leb-true _ _ two.1),
)

-- what was seen is seen from then on
pub seen_later_on : (most : ℕ) (v w : SeatView) (q era : ℕ) → GoesBy most v w → HasSeenLater v q era → HasSeenLater w q era
seen_later_on most v w q era c s = record { inner = subst (λ (z : Shape). IsInner z q) (sym (ap (λ (z : SeatView). z.shape) c.same)) s.inner; index = s.index; entry = s.entry; at = entry_stays c.later q s.index s.entry s.at; later = s.later }

pub seen_over_on : (most : ℕ) (v w : SeatView) (q era : ℕ) → GoesBy most v w → HasSeenLaterOver v q era → HasSeenLaterOver w q era
seen_over_on most v w q era c s = subst (λ (z : Shape). HasSeenLater w q era ⊎ (HasSeenLater w (left_of z q) era ⊎ HasSeenLater w (right_of z q) era)) (sym (ap (λ (z : SeatView). z.shape) c.same))
    (elim s [ inl node ↦ inl (seen_later_on most v w q era c node) | inr (inl left) ↦ inr (inl (seen_later_on most v w (left_of v.shape q) era c left)) | inr (inr right) ↦ inr (inr (seen_later_on most v w (right_of v.shape q) era c right)) ])

module _ (face : ℕ → ℕ → List (ℕ × ℕ) → List ℕ) where
  still_seeing : (v w : SeatView) (taken : StepTaken) → tries_leaf taken.kind ≡ false → w ≡ seeing v w.seen taken → Sees face v w → GoesStill 1 v w
  still_seeing v w taken other is sees = record {
    goes = record {
      same = is ∙ (λ i. record v { seen = w.seen; reserved = ap (λ (z : SeatView). z.reserved) (sym is) i; reached = ap (λ (z : SeatView). z.reached) (sym is) i; steps = ap (λ (z : SeatView). z.steps) (sym is) i });
      later = sees.later;
      fresh = sees.fresh;
      more = taken ∷ [];
      steps = ap (λ (z : SeatView). z.steps) is;
      few = omega arith;
      no_try = no_try_one taken other;
    };
    reserves = ap (λ (z : SeatView). z.reserved) is;
  }

  pub word_of_leaf_loaded : (v w : SeatView) (q r : ℕ) → q < 2 ^ v.shape.bits → LoadsLeaf face v q r w → LoadsWord face v q r w
  word_of_leaf_loaded v w q r low l = record {
    still = still_seeing v w (load_leaf q r) refl l.stepped l.sees;
    book = l.sees.book;
    newest = record { index = l.index; entry = l.entry; newest = l.newest; named = sym l.found; shown = l.shown };
    holds = λ inner. let past = inner.past_leaves in absurd (omega arith);
  }

  pub word_of_node_loaded : (v w : SeatView) (q r : ℕ) → LoadsNode face v q r w → LoadsWord face v q r w
  word_of_node_loaded v w q r l = record {
    still = still_seeing v w (load_node q r) refl l.stepped l.sees;
    book = l.sees.book;
    newest = record { index = l.index; entry = l.entry; newest = l.newest; named = sym l.found; shown = l.shown };
    holds = λ inner x is. (l.held x is).0;
  }

  -- the node's word, then the left child's, then the right child's
  pub three_loaded : (v a b w : SeatView) (q left right r0 r1 r2 : ℕ) → IsInner v.shape q → left ≡ left_of v.shape q → right ≡ right_of v.shape q → LoadsWord face v q r0 a → LoadsWord face a left r1 b → LoadsWord face b right r2 w → LoadsWords face v q (r0, r1, r2) w
  three_loaded v a b w q left right r0 r1 r2 inner left_is right_is first second third =
      let l : LoadsWord face a (left_of v.shape q) r1 b = subst (λ (z : ℕ). LoadsWord face a z r1 b) left_is second in let r : LoadsWord face b (right_of v.shape q) r2 w = subst (λ (z : ℕ). LoadsWord face b z r2 w) right_is third in
      let fc = first.still.goes in let lc = l.still.goes in let rc = r.still.goes in
      let sa : a.shape ≡ v.shape = ap (λ (z : SeatView). z.shape) fc.same in let sb : b.shape ≡ v.shape = ap (λ (z : SeatView). z.shape) lc.same ∙ sa in
      let later = goes_by_on 1 1 2 v a b (omega arith) fc lc in record {
        still = still_on 2 1 3 v b w (omega arith) (still_on 1 1 2 v a b (omega arith) first.still l.still) r.still;
        loads = record {
          book = subst (λ (z : Shape). IsBook face z w.seen) sb r.book;
          is_loaded = is_loaded face v.shape a.seen b.seen w.seen w.seen q r0 r1 r2 inner lc.later rc.later (book_refl w.seen) first.newest l.newest r.newest first.book;
          left_named = sym l.newest.named;
          right_named = sym r.newest.named;
          no_older = let long = first.newest.newest.last in let n = no_shorter a.seen v.seen fc.later q in omega arith;
          left_no_older = let long = l.newest.newest.last in let n = no_shorter b.seen v.seen later.later (left_of v.shape q) in omega arith;
          right_no_older = let long = r.newest.newest.last in let n = no_shorter w.seen v.seen (book_trans later.later rc.later) (right_of v.shape q) in omega arith;
        };
        holds = first.holds inner;
        left_holds = λ below x is. l.holds (subst (λ (z : Shape). IsInner z (left_of v.shape q)) (sym sa) below) x (subst (λ (z : List Reserved). Lists z x) (sym first.still.reserves) is);
        right_holds = λ below x is. r.holds (subst (λ (z : Shape). IsInner z (right_of v.shape q)) (sym sb) below) x (subst (λ (z : List Reserved). Lists z x) (sym (l.still.reserves ∙ first.still.reserves)) is);
      }

  -- ---- what is reserved holds them

  -- the number of the record that a word names, and its birth
  pub numbered_at : (s : Shape) (book : Book) (q i word : ℕ) (e : Entry) → 0 < s.reservations → IsBook face s book → IsInner s q → At book q i e → word ≡ e.word → e.number < 2 ^ 24 → number_in_word word ≡ e.number
  numbered_at s book q i word e used b inner at is low = ap number_in_word (is ∙ b.named q i e inner at ∙ named_used s e.birth e.number used) ∙ number_named e.birth e.number low

  pub born_at : (s : Shape) (book : Book) (q i word : ℕ) (e : Entry) → 0 < s.reservations → IsBook face s book → IsInner s q → At book q i e → word ≡ e.word → e.number < 2 ^ 24 → birth_in_word word ≡ e.birth
  born_at s book q i word e used b inner at is low = ap birth_in_word (is ∙ b.named q i e inner at ∙ named_used s e.birth e.number used) ∙ birth_named e.birth e.number low

  -- the right child is a node only if the left one is
  even_past : (s : Shape) (q : ℕ) → IsInner s q → IsInner s (right_of s q) → 2 ^ s.bits ≤ left_of s q
  even_past s q inner within = even s.bits q inner.past_leaves inner.inside within.past_leaves

  -- what is reserved holds the record of an entry that it is late enough for
  pub covered : (v w : SeatView) (k : StockFacts) (q i word : ℕ) (e : Entry) (x : Reserved) → x.era ≡ k.era → Stocks v k → IsBook face v.shape w.seen → IsInner v.shape q → At w.seen q i e → word ≡ e.word → birth_in_word word ≤ k.era → floor_of x q ≤ i → CoversBy x q i e
  covered v w k q i word e x is s book inner at named early past = let below = book.below q i e inner at in let few = s.numbers in let birth = born_at v.shape w.seen q i word e s.used book inner at named (omega arith) in
      (omega arith, past)

  -- the record of an entry that it is too early for was born later
  seen_later : (v w : SeatView) (k : StockFacts) (q i word : ℕ) (e : Entry) → w.shape ≡ v.shape → Stocks v k → IsBook face v.shape w.seen → IsInner v.shape q → At w.seen q i e → word ≡ e.word → nat_le (birth_in_word word) k.era ≡ false → HasSeenLater w q k.era
  seen_later v w k q i word e same s book inner at named past = let below = book.below q i e inner at in let few = s.numbers in let birth = born_at v.shape w.seen q i word e s.used book inner at named (omega arith) in
      let late : k.era < birth_in_word word = leb-false _ _ past in record { inner = subst (λ (z : Shape). IsInner z q) (sym same) inner; index = i; entry = e; at = at; later = omega arith }

  pub word_late : (v w : SeatView) (k : StockFacts) (q r : ℕ) → Stocks v k → IsInner v.shape q → nat_le (birth_in_word r) k.era ≡ false → LoadsNode face v q r w → HasSeenLater w q k.era
  word_late v w k q r s inner past n = seen_later v w k q n.index r n.entry (ap (λ (z : SeatView). z.shape) n.stepped) s n.sees.book inner n.newest.at n.found past

  pub three_late : (v w : SeatView) (k : StockFacts) (q leaves : ℕ) (r : ℕ × ℕ × ℕ) → leaves ≡ 2 ^ v.shape.bits → Stocks v k → IsInner v.shape q → covers_three k.era (nat_lt (2 * (q - leaves)) leaves) r ≡ false → LoadsWords face v q r w → HasSeenLaterOver w q k.era
  three_late v w k q leaves r are s inner past l = let shaped : w.shape ≡ v.shape = ap (λ (z : SeatView). z.shape) l.still.goes.same in let o = l.loads in let t = o.is_loaded in let inside = inner.inside in let from = inner.past_leaves in
      let child : (2 ^ v.shape.bits ≤ left_of v.shape q) → IsInner v.shape (left_of v.shape q) × IsInner v.shape (right_of v.shape q) = λ far. (record { past_leaves = far; inside = let n = inside_right v.shape.bits q from inside in omega arith }, record { past_leaves = omega arith; inside = inside_right v.shape.bits q from inside }) in
      let left : 2 ^ v.shape.bits ≤ left_of v.shape q → nat_le (birth_in_word r.1) k.era ≡ false → HasSeenLater w (left_of v.shape q) k.era =
      λ far no. seen_later v w k (left_of v.shape q) t.left_index r.1 t.left shaped s o.book (child far).0 t.left_at o.left_named no in
      let right : 2 ^ v.shape.bits ≤ left_of v.shape q → nat_le (birth_in_word r.2) k.era ≡ false → HasSeenLater w (right_of v.shape q) k.era =
      λ far no. seen_later v w k (right_of v.shape q) t.right_index r.2 t.right shaped s o.book (child far).1 t.right_at o.right_named no in
      let below : 2 ^ v.shape.bits ≤ left_of v.shape q → (nat_le (birth_in_word r.1) k.era && nat_le (birth_in_word r.2) k.era) ≡ false → HasSeenLater w (left_of v.shape q) k.era ⊎ HasSeenLater w (right_of v.shape q) k.era =
      λ far no. elim (and_cases _ _ no) [ inl l ↦ inl (left far l) | inr r ↦ inr (right far r) ] in
      subst (λ (z : Shape). HasSeenLater w q k.era ⊎ (HasSeenLater w (left_of z q) k.era ⊎ HasSeenLater w (right_of z q) k.era)) (sym shaped)
      (elim (and_cases _ _ past) [
        | inl node ↦ inl (seen_later v w k q t.index r.0 t.from shaped s o.book inner t.loaded t.named node)
        | inr children ↦ (let parts = or_parts (nat_lt (2 * (q - leaves)) leaves) _ children in let far : leaves ≤ 2 * (q - leaves) = ltb-false _ _ parts.0 in inr (below (far_on leaves (2 ^ v.shape.bits) q are far) parts.1))
      ])

  pub word_held : (v w : SeatView) (k : StockFacts) (q r : ℕ) → 0 < k.era → Stocks v k → IsInner v.shape q → birth_in_word r ≤ k.era → LoadsNode face v q r w → LoadsHeld face 1 v q r w
  word_held v w k q r some s inner low n = let l = word_of_node_loaded v w q r n in let y = s.era.held some in let same : (x : Reserved) → Lists w.reserved x → Lists v.reserved x = λ x. subst (λ (z : List Reserved). Lists z x) l.still.reserves in record {
    goes = l.still.goes;
    before = [];
    last = ap (λ (z : SeatView). z.steps) n.stepped;
    book = subst (λ (z : Shape). IsBook face z w.seen) (sym (ap (λ (z : SeatView). z.shape) n.stepped)) l.book;
    index = n.index;
    entry = n.entry;
    newest = n.newest;
    found = n.found;
    shown = n.shown;
    covers = let c = covered v w k q n.index r n.entry y.0 y.3 s l.book inner n.newest.at n.found low (n.held y.0 y.1).0 in inr (y.0, subst (λ (z : List Reserved). Lists z y.0) (sym l.still.reserves) y.1, c.0, c.1);
    closed = λ x found. subst (λ (z : Shape). IsClosed z w.seen (floor_of x)) (sym (ap (λ (z : SeatView). z.shape) n.stepped)) (n.held x (same x found)).1;
  }

  pub held_before : (m n k : ℕ) (u v w : SeatView) (q r : ℕ) → m + n ≤ k → GoesBy m u v → LoadsHeld face n v q r w → LoadsHeld face k u q r w
  held_before m n k u v w q r fits c l = let load : List StepTaken = load_node q r ∷ [] in record {
    goes = goes_by_on m n k u v w fits c l.goes;
    before = c.more ++ l.before;
    last = l.last ∙ ap (λ (z : List StepTaken). z ++ (l.before ++ load)) c.steps ∙ append_assoc u.steps c.more (l.before ++ load) ∙ ap (λ (z : List StepTaken). u.steps ++ z) (sym (append_assoc c.more l.before load));
    book = l.book;
    index = l.index;
    entry = l.entry;
    newest = l.newest;
    found = l.found;
    shown = l.shown;
    covers = l.covers;
    closed = l.closed;
  }

  pub three_held : (v w : SeatView) (k : StockFacts) (q : ℕ) (r : ℕ × ℕ × ℕ) → 0 < k.era → Stocks v k → IsInner v.shape q → birth_in_word r.0 ≤ k.era → (2 ^ v.shape.bits ≤ left_of v.shape q → (birth_in_word r.1 ≤ k.era) × (birth_in_word r.2 ≤ k.era))
      → LoadsWords face v q r w → LoadsOver face 3 k.era v q r w
  three_held v w k q r some s inner low lows l = let c = l.still.goes in let shaped : w.shape ≡ v.shape = ap (λ (z : SeatView). z.shape) c.same in let o = l.loads in let t = o.is_loaded in let y = s.era.held some in record {
    goes = c;
    holds = subst (λ (z : Shape). HoldsThree face z k.era v q r w) (sym shaped) record {
      loads = o;
      by = y.0;
      listed = subst (λ (z : List Reserved). Lists z y.0) (sym l.still.reserves) y.1;
      era_is = y.3;
      covers = covered v w k q t.index r.0 t.from y.0 y.3 s o.book inner t.loaded t.named low (l.holds y.0 y.1);
      left_covers = λ below. covered v w k (left_of v.shape q) t.left_index r.1 t.left y.0 y.3 s o.book below t.left_at o.left_named (lows below.past_leaves).0 (l.left_holds below y.0 y.1);
      right_covers = λ below. covered v w k (right_of v.shape q) t.right_index r.2 t.right y.0 y.3 s o.book below t.right_at o.right_named (lows (even_past v.shape q inner below)).1 (l.right_holds below y.0 y.1);
    };
  }

  -- what is loaded later is no older either
  pub over_before : (m n k era : ℕ) (u v w : SeatView) (q : ℕ) (r : ℕ × ℕ × ℕ) → m + n ≤ k → GoesBy m u v → LoadsOver face n era v q r w → LoadsOver face k era u q r w
  over_before m n k era u v w q r fits c l = let h = l.holds in let o = h.loads in record {
    goes = goes_by_on m n k u v w fits c l.goes;
    holds = record {
      loads = record {
        book = o.book;
        is_loaded = o.is_loaded;
        left_named = o.left_named;
        right_named = o.right_named;
        no_older = let a = o.no_older in let b = no_shorter v.seen u.seen c.later q in omega arith;
        left_no_older = let a = o.left_no_older in let b = no_shorter v.seen u.seen c.later (left_of w.shape q) in omega arith;
        right_no_older = let a = o.right_no_older in let b = no_shorter v.seen u.seen c.later (right_of w.shape q) in omega arith;
      };
      by = h.by;
      listed = h.listed;
      era_is = h.era_is;
      covers = h.covers;
      left_covers = h.left_covers;
      right_covers = h.right_covers;
    };
  }
