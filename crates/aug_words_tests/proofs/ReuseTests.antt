-- What the tests of records that are used again need: one node over two leaves, in a table with reservations.
use Rattle.std.proofs.Common.{◌*◌, inr, ◌≡◌, ℕ, zero, suc, true, Bool, ◌+◌, ◌-◌, ◌^◌, ◌<◌, ◌≤◌, eq-eqb, ne_eqb, if◌then◌else◌, List, [], ◌∷◌, ◌++◌, length, get_or, refl, sym, ap, ◌∙◌, subst, ⊎_elim, arith}
use Rattle.std.specs.Prelude.{◌==◌}
use Rattle.std.proofs.lemmas.Bool.{cases_eq}
use mathlib.Core.Option.{some-injective, some-ne-none}
use Rattle.aug_core.specs.Places.{Shape}
use Rattle.aug_core.specs.Addresses.{place_count, IsInner, left_of, right_of}
use Rattle.aug_core.specs.Book.{history_of, At, IsSerial, IsLoaded}
use Rattle.aug_core.specs.Records.{Lists, first_era}
use Rattle.aug_core.specs.Effects.{CoversUntil, IsFilled, MayStore, LoadsNode, GuardsRecord, on_first, last_replaced, publishing_from, TriesNode}
use Rattle.aug_core.specs.declared.view.Entry.{Entry}
use Rattle.aug_core.specs.declared.view.Replaced.{Replaced}
use Rattle.aug_core.specs.declared.view.Reserved.{Reserved}
use Rattle.aug_core.specs.declared.view.SeatView.{SeatView}
use Rattle.aug_core.specs.inside.Refreshes.{SaysLoaded}
use Rattle.aug_core.proofs.Books.{at_below}
use Rattle.aug_core.proofs.Filling.{filled_view, is_filled}
use Rattle.aug_words.specs.Reservations.{MayRetire}
use Rattle.aug_words.specs.Seats.{TriedNode}
use Rattle.aug_words.specs.Stocks.{StockFacts, Stocks, LoadsThree, LoadsOver, LoadsHeld, naming, number_in_word, birth_in_word}
use Rattle.aug_words.proofs.Held.{covered, word_held}
use Rattle.aug_words.proofs.Stocking.{number_named, named_used, stocks_same, told}
use Rattle.aug_words_tests.specs.Reuse.{IsSmall}
use Rattle.aug_words_tests.proofs.StepTests.{node_inner, there, there_is}

-- ---- a node's record that what is reserved holds

pub guards_held : (face : ℕ → ℕ → List (ℕ × ℕ) → List ℕ) (most : ℕ) (v w : SeatView) (k : StockFacts) (from : ℕ) → w.shape.bits ≡ 1 → Stocks w k → LoadsHeld face most v 2 from w → GuardsRecord w (number_in_word from)
guards_held face most v w k from one s l = let inner = node_inner w.shape one in let below = l.book.below 2 l.index l.entry inner l.newest.at in let few = s.numbers in record {
  place = 2;
  index = l.index;
  entry = l.entry;
  guards = record { inner = inner; at = l.newest.at; covers = l.covers };
  numbered = sym (ap number_in_word (l.found ∙ l.book.named 2 l.index l.entry inner l.newest.at ∙ named_used w.shape l.entry.birth l.entry.number s.used) ∙ number_named l.entry.birth l.entry.number (omega arith));
}

-- a word that was loaded alone names one, if that was made by the era that was reserved
module _ (face : ℕ → ℕ → List (ℕ × ℕ) → List ℕ) (v w : SeatView) (k : StockFacts) (from : ℕ) (small : IsSmall v.shape) (s : Stocks v k) (node : LoadsNode face v 2 from w) (some : 0 < k.era) (low : birth_in_word from ≤ k.era) where
  shaped : w.shape ≡ v.shape
  shaped = ap (λ (z : SeatView). z.shape) node.stepped

  same : w.reserved ≡ v.reserved
  same = ap (λ (z : SeatView). z.reserved) node.stepped

  -- and what is made in place of it, by that era too
  pub covers_until : (u : SeatView) → u.reserved ≡ v.reserved → CoversUntil u 2 node.index node.entry (first_era k.era)
  covers_until u reserved = let y = s.era.held some in let is = y.3 in
      let c = covered face v w k 2 node.index from node.entry y.0 is s node.sees.book (node_inner v.shape small.bits) node.newest.at node.found low (node.held y.0 y.1).0 in
      inr (y.0, subst (λ (z : List Reserved). Lists z y.0) (sym reserved) y.1, c.0, c.1, (omega arith))

  pub guards : GuardsRecord w (number_in_word from)
  guards = guards_held face 1 v w k from (ap (λ (z : Shape). z.bits) shaped ∙ small.bits) (stocks_same v w k s shaped (ap (λ (z : SeatView). z.held) node.stepped) same) (word_held face v w k 2 from some s (node_inner v.shape small.bits) low node)

-- ---- the next record, filled from the words that were loaded over the two leaves

module _ (face : ℕ → ℕ → List (ℕ × ℕ) → List ℕ) (most era : ℕ) (v w : SeatView) (r : ℕ × ℕ × ℕ) (one : w.shape.bits ≡ 1) (l : LoadsOver face most era v 2 r w) (five : List ℕ) (are : five ≡ face r.1 r.2 (there 0 r.1 ++ there 1 r.2)) (first : get_or five 0 0 ≡ r.1) (second : get_or five 1 0 ≡ r.2) where
  abbrev loads : LoadsThree face w.shape v 2 r w
  loads = l.holds.loads

  abbrev o : IsLoaded w.shape w.seen 2 r.0
  o = loads.is_loaded

  left_leaf : IsSerial 0 o.left_index o.left
  left_leaf = let e : 2 ^ w.shape.bits ≡ 2 = ap (λ (b : ℕ). 2 ^ b) one in loads.book.serials 0 o.left_index o.left (omega arith) (subst (λ (q : ℕ). At w.seen q o.left_index o.left) (λ i. 2 * (2 - 2 ^ one i)) o.left_at)

  right_leaf : IsSerial 1 o.right_index o.right
  right_leaf = let e : 2 ^ w.shape.bits ≡ 2 = ap (λ (b : ℕ). 2 ^ b) one in loads.book.serials 1 o.right_index o.right (omega arith) (subst (λ (q : ℕ). At w.seen q o.right_index o.right) (λ i. 2 * (2 - 2 ^ one i) + 1) o.right_at)

  abbrev says : SaysLoaded face w.shape w.seen 2 r.0 five
  says = record {
    is_loaded = o;
    left_named = sym loads.left_named ∙ sym first;
    right_named = sym loads.right_named ∙ sym second;
    five_are = are ∙ (λ i. face (sym first i) (sym second i) (sym (there_is 0 o.left_index r.1 o.left left_leaf (sym loads.left_named)) i ++ sym (there_is 1 o.right_index r.2 o.right right_leaf (sym loads.right_named)) i));
  }

  pub may_publish_over : (number : ℕ) (may : MayStore w number) → IsFilled face (filled_view w number five) 2 r.0 (first_era era) number
  may_publish_over number may = let h = l.holds in let is = h.era_is in let a = left_leaf.unborn in let b = right_leaf.unborn in
      is_filled w number five may face 2 r.0 (first_era era) says (inr (h.by, h.listed, h.covers.0, h.covers.1, (omega arith))) (inr (omega arith)) (inr (omega arith))

-- ---- what was replaced, once the node names the next

last_one : {A : Type 0} (l : List A) (y x : A) → length l ≡ 0 → Lists (l ++ y ∷ []) x → x ≡ y
last_one [] y x _ (zero, e) = sym (some-injective y x e)
last_one [] y x _ (suc i, e) = absurd (some-ne-none x (sym e))
last_one (z ∷ zs) y x empty t = absurd (omega arith)

module _ (face : ℕ → ℕ → List (ℕ × ℕ) → List ℕ) (v w : SeatView) (k : StockFacts) (old birth : ℕ) (done : Bool) (some : 0 < k.free) (small : IsSmall v.shape) (s : Stocks v k) (none : k.replaced ≡ 0)
    (tried : TriedNode face v 2 old (naming birth (number_in_word (get_or k.words (k.free - 1) 0))) done w) (hits : done ≡ true) where
  abbrev number : ℕ
  number = number_in_word (get_or k.words (k.free - 1) 0)

  t : TriesNode face v 2 old number (naming birth number) tried.found w
  t = told face v w k 2 old birth number done s some refl tried

  hit : tried.found ≡ old
  hit = tried.decided.0 hits

  abbrev mark : Replaced
  mark = last_replaced w.seen 2

  held : w.held ≡ publishing_from number mark s.lane ∷ []
  held = ap (λ (z : SeatView). z.held) (t.hit hit).0 ∙ ap (on_first (publishing_from number mark)) s.only

  -- the place of each node and leaf, and the entries of the leaves under the node's newest
  abbrev from : ℕ → ℕ
  from q = if q == 2 then t.index else if q == 0 then t.entry.left else t.entry.right

  at_node : from 2 ≡ t.index
  at_node = ap (λ (b : Bool). if b then t.index else if 2 == 0 then t.entry.left else t.entry.right) (eq-eqb 2 2 refl)

  at_left : from 0 ≡ t.entry.left
  at_left = ap (λ (b : Bool). if b then t.index else if 0 == 0 then t.entry.left else t.entry.right) (ne_eqb 0 2 (λ is. absurd (omega arith))) ∙ ap (λ (b : Bool). if b then t.entry.left else t.entry.right) (eq-eqb 0 0 refl)

  at_right : from 1 ≡ t.entry.right
  at_right = ap (λ (b : Bool). if b then t.index else if 1 == 0 then t.entry.left else t.entry.right) (ne_eqb 1 2 (λ is. absurd (omega arith))) ∙ ap (λ (b : Bool). if b then t.entry.left else t.entry.right) (ne_eqb 1 0 (λ is. absurd (omega arith)))

  two : 2 ^ v.shape.bits ≡ 2
  two = ap (λ (b : ℕ). 2 ^ b) small.bits

  four : 2 ^ (v.shape.bits + 1) ≡ 4
  four = ap (λ (b : ℕ). 2 ^ (b + 1)) small.bits

  inner' : IsInner v.shape 2
  inner' = node_inner v.shape small.bits

  left_is : left_of v.shape 2 ≡ 0
  left_is = let e = two in omega arith

  right_is : right_of v.shape 2 ≡ 1
  right_is = let e = two in omega arith

  reached : (q : ℕ) → q < place_count v.shape → from q < length (history_of w.seen q)
  reached q inside = let o = t.sees.book.over 2 t.index t.entry inner' t.newest.at in ⊎_elim
      (λ (is : q ≡ 2). let last = t.newest.last in subst (λ (z : ℕ). from z < length (history_of w.seen z)) (sym is) (let low : t.index < length (history_of w.seen 2) = omega arith in subst (λ (z : ℕ). z < length (history_of w.seen 2)) (sym at_node) low))
      (λ a. ⊎_elim
      (λ (is : q ≡ 0). subst (λ (z : ℕ). from z < length (history_of w.seen z)) (sym is) (subst (λ (z : ℕ × ℕ). z.0 < length (history_of w.seen z.1)) (λ i. (sym at_left i, left_is i)) (at_below (history_of w.seen (left_of v.shape 2)) t.entry.left o.left_child o.left_at)))
      (λ b. let f = four in let one : q ≡ 1 = omega (arith, a, b) in subst (λ (z : ℕ). from z < length (history_of w.seen z)) (sym one) (subst (λ (z : ℕ × ℕ). z.0 < length (history_of w.seen z.1)) (λ i. (sym at_right i, right_is i)) (at_below (history_of w.seen (right_of v.shape 2)) t.entry.right o.right_child o.right_at)))
      (cases_eq q 0)) (cases_eq q 2)

  over : (q : ℕ) → IsInner v.shape q → (e : Entry) × At w.seen q (from q) e × (from (left_of v.shape q) ≤ e.left) × (from (right_of v.shape q) ≤ e.right)
  over q inner = let e = two in let f = four in let past = inner.past_leaves in let inside = inner.inside in let is : 2 ≡ q = omega arith in
      subst (λ (z : ℕ). (e : Entry) × At w.seen z (from z) e × (from (left_of v.shape z) ≤ e.left) × (from (right_of v.shape z) ≤ e.right)) is
      (t.entry, subst (λ (z : ℕ). At w.seen 2 z t.entry) (sym at_node) t.newest.at, (let l = ap from left_is ∙ at_left in omega arith), (let r = ap from right_is ∙ at_right in omega arith))

  past : (c : Replaced) → Lists (s.lane.replaced ++ mark ∷ []) c → c.index < from c.place
  past c l = let is : c ≡ mark = last_one s.lane.replaced mark c (s.counted ∙ none) l in let after = t.followed hit in
      subst (λ (z : Replaced). z.index < from z.place) (sym is) (let low : mark.index < t.index = omega arith in subst (λ (z : ℕ). mark.index < z) (sym at_node) low)

  pub may_retire_hit : MayRetire w
  may_retire_hit = record {
    lane = publishing_from number mark s.lane;
    only = held;
    later = record {
      from = from;
      reached = λ q inside. reached q (subst (λ (z : Shape). q < place_count z) t.shaped inside);
      over = λ q inner. subst (λ (z : Shape). (e : Entry) × At w.seen q (from q) e × (from (left_of z q) ≤ e.left) × (from (right_of z q) ≤ e.right)) (sym t.shaped) (over q (subst (λ (z : Shape). IsInner z q) t.shaped inner));
      past = past;
    };
  }
