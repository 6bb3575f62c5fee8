-- One history of a book grows at its end.
use Rattle.std.proofs.Common.{◌≡◌, ℕ, zero, suc, ◌+◌, ◌^◌, ◌<◌, ◌≤◌, ◌≢◌, ◌*◌, ◌⊎◌, inl, inr, Bool, if◌then◌else◌, eq-eqb, ne_eqb, List, [], ◌∷◌, ◌++◌, length, set, sym, refl, ap, ◌∙◌, subst, ⊎_elim, arith, length-set, length-append, get_or-set_other, get_or-set_same}
use Rattle.std.proofs.lemmas.Bool.{cases_eq, cases_lt}
use Rattle.std.proofs.lemmas.List.{append-nil}
use mathlib.Core.Option.{some, some-injective, some-ne-none}
use lib.ListN.{get_elem?}
use Rattle.atomic_table.proofs.Lists.{at_last}
use Rattle.aug_core.specs.Places.{Shape, record_count}
use Rattle.aug_core.specs.Addresses.{IsInner, left_of, right_of}
use Rattle.aug_core.specs.Book.{Book, history_of, At, IsNewest, ArePrefixes, GoesOnFromBoth, StandsOver, IsSerial, word_of_node, IsBook, IsFresh}
use Rattle.aug_core.specs.declared.view.Entry.{Entry}
use Rattle.aug_core.proofs.PrefixLemmas.{either_prefix, prefix_long, entry_stays}

module _ {A : Type 0} where
  pub snoc_at : (l : List A) (a b : A) (j : ℕ) → get_elem? (l ++ a ∷ []) j ≡ some b → (get_elem? l j ≡ some b) ⊎ ((j ≡ length l) × (a ≡ b))
  snoc_at [] a b zero e = inr (refl, some-injective a b e)
  snoc_at [] a b (suc j) e = absurd (some-ne-none b (sym e))
  snoc_at (x ∷ xs) a b zero e = inl e
  snoc_at (x ∷ xs) a b (suc j) e = ⊎_elim (λ t. inl t) (λ t. inr (ap suc t.0, t.1)) (snoc_at xs a b j e)

  pub at_below : (l : List A) (j : ℕ) (b : A) → get_elem? l j ≡ some b → j < length l
  at_below [] j b e = absurd (some-ne-none b (sym e))
  at_below (x ∷ xs) zero b e = omega arith
  at_below (x ∷ xs) (suc j) b e = let h = at_below xs j b e in omega arith

  pub there_is : (l : List A) (i : ℕ) → i < length l → (a : A) × (get_elem? l i ≡ some a)
  there_is [] i h = absurd (omega arith)
  there_is (x ∷ xs) zero h = (x, refl)
  there_is (x ∷ xs) (suc i) h = there_is xs i (omega arith)

-- a later book is no shorter
pub no_shorter : (book seen : Book) → ArePrefixes seen book → (q : ℕ) → length (history_of seen q) ≤ length (history_of book q)
no_shorter book seen h q = prefix_long (history_of seen q) (history_of book q) (h.each q)

pub goes_on_from_both : (book a b : Book) → ArePrefixes a book → ArePrefixes b book → GoesOnFromBoth a b book
goes_on_from_both book a b ca cb = record {
  from_first = ca;
  from_second = cb;
  one_piece = λ q. either_prefix (history_of a q) (history_of b q) (history_of book q) (ca.each q) (cb.each q);
}

-- nothing came after the whole book
pub fresh_now : (s : Shape) (book : Book) → IsFresh s book book
fresh_now s book = record { covers = λ q i e inner past p. let below = at_below (history_of book q) i e p in absurd (omega arith) }

-- one snapshot after another
pub fresh_on : (s : Shape) (a b c : Book) → ArePrefixes a b → ArePrefixes b c → IsFresh s b a → IsFresh s c b → IsFresh s c a
fresh_on s a b c ab bc f g = record {
  covers = λ q i e inner past p. ⊎_elim
      (λ (lt : i < length (history_of b q)). let x = there_is (history_of b q) i lt in let same : x.0 ≡ e = some-injective x.0 e (sym (entry_stays bc q i x.0 x.1) ∙ p) in f.covers q i e inner past (subst (λ (z : Entry). At b q i z) same x.1))
      (λ (ge : length (history_of b q) ≤ i). let k = g.covers q i e inner ge p in let k0 = k.left in let k1 = k.right in let l = no_shorter b a ab (left_of s q) in let r = no_shorter b a ab (right_of s q) in
      record { left = omega arith; right = omega arith }) (cases_lt i (length (history_of b q)));
}

-- of two entries that came to a node after a snapshot, the second stands over children no older than the snapshot's
pub record Covers (s : Shape) (seen : Book) (q : ℕ) (e : Entry) : Type 0 where
  pub left : length (history_of seen (left_of s q)) ≤ e.left + 1
  pub right : length (history_of seen (right_of s q)) ≤ e.right + 1

pub second_covers : (face : ℕ → ℕ → List (ℕ × ℕ) → List ℕ) (s : Shape) (book seen : Book) → IsBook face s book → IsFresh s book seen → (q i : ℕ) (e f : Entry) → IsInner s q → length (history_of seen q) ≤ i
    → At book q i e → At book q (i + 1) f → Covers s seen q f
second_covers face s book seen b h q i e f inner past p p' = let a = h.covers q i e inner past p in let c = b.floored q i e f inner p p' in let a0 = a.left in let a1 = a.right in let c0 = c.0 in let c1 = c.1 in
    record { left = omega arith; right = omega arith }

-- an index of a history has one entry
pub one_entry : (book : Book) (q i : ℕ) (e f : Entry) → At book q i e → At book q i f → e ≡ f
one_entry book q i e f p p' = some-injective e f (sym p ∙ p')

-- ---- the words of nodes

pub plain_word : (s : Shape) (birth number : ℕ) → s.reservations ≡ 0 → word_of_node s birth number ≡ number
plain_word s birth number off = ap (λ (b : Bool). if b then number else birth * 2 ^ 24 + number) (eq-eqb s.reservations 0 off)

pub unborn_word : (s : Shape) (number : ℕ) → word_of_node s 0 number ≡ number
unborn_word s number = ⊎_elim (plain_word s 0 number) (λ used. ap (λ (b : Bool). if b then number else 0 * 2 ^ 24 + number) (ne_eqb s.reservations 0 used) ∙ (let is : 0 * 2 ^ 24 + number ≡ number = omega arith in is)) (cases_eq s.reservations 0)

pub born_word : (s : Shape) (birth number : ℕ) → s.reservations ≢ 0 → word_of_node s birth number ≡ birth * 2 ^ 24 + number
born_word s birth number used = ap (λ (b : Bool). if b then number else birth * 2 ^ 24 + number) (ne_eqb s.reservations 0 used)

-- a word names one number, and one birth if there are births
pub names_one : (s : Shape) (b n c m : ℕ) → (0 < s.reservations → (n < 2 ^ 24) × (m < 2 ^ 24)) → word_of_node s b n ≡ word_of_node s c m → (n ≡ m) × (0 < s.reservations → b ≡ c)
names_one s b n c m few same = ⊎_elim
    (λ (off : s.reservations ≡ 0). (sym (plain_word s b n off) ∙ same ∙ plain_word s c m off, λ used. absurd (omega arith)))
    (λ used. let is : b * 2 ^ 24 + n ≡ c * 2 ^ 24 + m = sym (born_word s b n used) ∙ same ∙ born_word s c m used in let low = few (omega arith) in let l0 = low.0 in let l1 = low.1 in (omega arith, λ _. omega arith)) (cases_eq s.reservations 0)

module _ (face : ℕ → ℕ → List (ℕ × ℕ) → List ℕ) (s : Shape) (book : Book) (b : IsBook face s book) where
  -- so two entries of a node with one word are of one record, which was made once
  pub one_name : (q i j : ℕ) (e f : Entry) → IsInner s q → At book q i e → At book q j f → e.word ≡ f.word → (e.number ≡ f.number) × (0 < s.reservations → e.birth ≡ f.birth)
  one_name q i j e f inner p p' same = names_one s e.birth e.number f.birth f.number (λ used. let few = b.numbers used in let l = b.below q i e inner p in let m = b.below q j f inner p' in (omega arith, omega arith))
      (sym (b.named q i e inner p) ∙ same ∙ b.named q j f inner p')

  -- in a round the word is the number
  pub plainly_named : s.reservations ≡ 0 → (q i : ℕ) (e : Entry) → IsInner s q → At book q i e → e.word ≡ e.number
  plainly_named off q i e inner p = b.named q i e inner p ∙ plain_word s e.birth e.number off

-- no older than the newest
pub newest_is_last : (book : Book) (q i j : ℕ) (e f : Entry) → IsNewest book q i e → At book q j f → j ≤ i
newest_is_last book q i j e f new p = let below = at_below (history_of book q) j f p in let long = new.last in omega arith

module _ (book : Book) (q : ℕ) (in_book : q < length book) (e : Entry) where
  abbrev pub grow : Book
  grow = set book q (history_of book q ++ e ∷ [])

  here : history_of grow q ≡ history_of book q ++ e ∷ []
  here = get_or-set_same book q (history_of book q ++ e ∷ []) [] in_book

  pub there : (p : ℕ) → p ≢ q → history_of grow p ≡ history_of book p
  there p ne = get_or-set_other book q p (history_of book q ++ e ∷ []) [] ne

  pub longer : length (history_of grow q) ≡ length (history_of book q) + 1
  longer = ap length here ∙ length-append (history_of book q) (e ∷ [])

  pub grown : ArePrefixes book grow
  grown = record {
    each = λ p. ⊎_elim (λ is. (e ∷ [], ap (history_of grow) is ∙ here ∙ ap (λ (z : ℕ). history_of book z ++ e ∷ []) (sym is)))
        (λ ne. ([], there p ne ∙ sym (append-nil (history_of book p)))) (cases_eq p q);
  }

  pub grown_at : (p i : ℕ) (x : Entry) → At book p i x → At grow p i x
  grown_at = entry_stays grown

  -- what stands in the longer book: it stood there before, or it is the new one
  pub at_grown : (p i : ℕ) (x : Entry) → At grow p i x → (At book p i x) ⊎ ((p ≡ q) × (i ≡ length (history_of book q)) × (e ≡ x))
  at_grown p i x at = ⊎_elim
      (λ is. ⊎_elim (λ t. inl (subst (λ (z : ℕ). At book z i x) (sym is) t)) (λ t. inr (is, t.0, t.1))
      (snoc_at (history_of book q) e x i (subst (λ (z : List Entry). get_elem? z i ≡ some x) here (subst (λ (z : ℕ). At grow z i x) is at))))
      (λ ne. inl (subst (λ (z : List Entry). get_elem? z i ≡ some x) (there p ne) at)) (cases_eq p q)

  pub newest_here : IsNewest grow q (length (history_of book q)) e
  newest_here = record { at = subst (λ (z : List Entry). get_elem? z (length (history_of book q)) ≡ some e) (sym here) (at_last (history_of book q) e (length (history_of book q)) refl); last = longer }

  pub newest_there : (p i : ℕ) (x : Entry) → p ≢ q → IsNewest book p i x → IsNewest grow p i x
  newest_there p i x ne new = record { at = grown_at p i x new.at; last = ap length (there p ne) ∙ new.last }

  module _ (face : ℕ → ℕ → List (ℕ × ℕ) → List ℕ) (s : Shape) (b : IsBook face s book) where
    stands_over : (p : ℕ) (x : Entry) → StandsOver face s book p x → StandsOver face s grow p x
    stands_over p x o = record {
      left_child = o.left_child;
      right_child = o.right_child;
      left_at = grown_at (left_of s p) x.left o.left_child o.left_at;
      right_at = grown_at (right_of s p) x.right o.right_child o.right_at;
      left_shown = o.left_shown;
      right_shown = o.right_shown;
      pairs_of_both = o.pairs_of_both;
      words_say = o.words_say;
      left_born = o.left_born;
      right_born = o.right_born;
    }

    abbrev Floors : Book → ℕ → Entry → Type 0
    Floors z p x = ((f : Entry) × At z (left_of s p) x.left_floor f) × ((g : Entry) × At z (right_of s p) x.right_floor g)

    floors_on : (p : ℕ) (x : Entry) → Floors book p x → Floors grow p x
    floors_on p x o = ((o.0.0, grown_at (left_of s p) x.left_floor o.0.0 o.0.1), (o.1.0, grown_at (right_of s p) x.right_floor o.1.0 o.1.1))

    -- an inner node has a new entry
    module _ (inner : IsInner s q) (i0 : ℕ) (top : Entry) (newest : IsNewest book q i0 top) where
      pub grows : e.word ≡ word_of_node s e.birth e.number → e.number < record_count s → StandsOver face s book q e → top.left ≤ e.left → top.right ≤ e.right
          → top.left_floor ≤ e.left → top.right_floor ≤ e.right → Floors book q e → IsBook face s grow
      grows named under over up up' kn kn' fl = record {
        long = length-set book q (history_of book q ++ e ∷ []) ∙ b.long;
        named = λ p i x low at. ⊎_elim (λ t. b.named p i x low t) (λ t. subst (λ (z : Entry). z.word ≡ word_of_node s z.birth z.number) t.2 named) (at_grown p i x at);
        numbers = b.numbers;
        below = λ p i x low at. ⊎_elim (λ t. b.below p i x low t) (λ t. subst (λ (z : Entry). z.number < record_count s) t.2 under) (at_grown p i x at);
        over = λ p i x low at. stands_over p x (⊎_elim (λ t. b.over p i x low t) (λ t. subst (λ (z : ℕ × Entry). StandsOver face s book z.0 z.1) (λ k. (sym t.0 k, t.2 k)) over) (at_grown p i x at));
        rises = λ p i j x y low at at' le. ⊎_elim
            (λ t. ⊎_elim (λ t'. b.rises p i j x y low t t' le)
            (λ t'. let mine : At book q i x = subst (λ (z : ℕ). At book z i x) t'.0 t in let below = at_below (history_of book q) i x mine in let long = newest.last in
            let before = b.rises q i i0 x top inner mine newest.at (omega arith) in let l : e.left ≡ y.left = ap (λ (z : Entry). z.left) t'.2 in let r : e.right ≡ y.right = ap (λ (z : Entry). z.right) t'.2 in
            let b0 = before.0 in let b1 = before.1 in (omega arith, omega arith)) (at_grown p j y at'))
            (λ t. ⊎_elim
            (λ t'. let below = at_below (history_of book q) j y (subst (λ (z : ℕ). At book z j y) t.0 t') in let is = t.1 in absurd (omega arith))
            (λ t'. let same : x ≡ y = sym t.2 ∙ t'.2 in let l : x.left ≡ y.left = ap (λ (z : Entry). z.left) same in let r : x.right ≡ y.right = ap (λ (z : Entry). z.right) same in (omega arith, omega arith)) (at_grown p j y at'))
            (at_grown p i x at);
        floors = λ p i x low at. floors_on p x (⊎_elim (λ t. b.floors p i x low t) (λ t. subst (λ (z : ℕ × Entry). Floors book z.0 z.1) (λ k. (sym t.0 k, t.2 k)) fl) (at_grown p i x at));
        floored = λ p i x y low at at'. ⊎_elim
            (λ t. ⊎_elim (λ t'. b.floored p i x y low t t')
            (λ t'. let mine : At book q i x = subst (λ (z : ℕ). At book z i x) t'.0 t in let long = newest.last in let is = t'.1 in let at0 : i ≡ i0 = omega arith in
            let same : x ≡ top = one_entry book q i0 x top (subst (λ (z : ℕ). At book q z x) at0 mine) newest.at in let a : x.left_floor ≡ top.left_floor = ap (λ (z : Entry). z.left_floor) same in
            let c : x.right_floor ≡ top.right_floor = ap (λ (z : Entry). z.right_floor) same in let l : e.left ≡ y.left = ap (λ (z : Entry). z.left) t'.2 in let r : e.right ≡ y.right = ap (λ (z : Entry). z.right) t'.2 in
            (omega arith, omega arith)) (at_grown p (i + 1) y at'))
            (λ t. ⊎_elim (λ t'. let below = at_below (history_of book q) (i + 1) y (subst (λ (z : ℕ). At book z (i + 1) y) t.0 t') in let is = t.1 in absurd (omega arith)) (λ t'. let is = t.1 in let is' = t'.1 in absurd (omega arith)) (at_grown p (i + 1) y at'))
            (at_grown p i x at);
        serials = λ key i x low at. ⊎_elim (λ t. b.serials key i x low t) (λ t. let is = t.0 in let past = inner.past_leaves in absurd (omega arith)) (at_grown key i x at);
      }

    -- a leaf has a new serial
    module _ (leaf : q < 2 ^ s.bits) where
      pub old_inner : (p i : ℕ) (x : Entry) → IsInner s p → At grow p i x → At book p i x
      old_inner p i x low at = ⊎_elim (λ t. t) (λ t. let is = t.0 in let past = low.past_leaves in absurd (omega arith)) (at_grown p i x at)

      pub counts : IsSerial q (length (history_of book q)) e → IsBook face s grow
      counts serial = record {
        long = length-set book q (history_of book q ++ e ∷ []) ∙ b.long;
        named = λ p i x low at. b.named p i x low (old_inner p i x low at);
        numbers = b.numbers;
        below = λ p i x low at. b.below p i x low (old_inner p i x low at);
        over = λ p i x low at. stands_over p x (b.over p i x low (old_inner p i x low at));
        rises = λ p i j x y low at at' le. b.rises p i j x y low (old_inner p i x low at) (old_inner p j y low at') le;
        floors = λ p i x low at. floors_on p x (b.floors p i x low (old_inner p i x low at));
        floored = λ p i x y low at at'. b.floored p i x y low (old_inner p i x low at) (old_inner p (i + 1) y low at');
        serials = λ key i x low at. ⊎_elim (λ t. b.serials key i x low t)
            (λ t. subst (λ (z : ℕ × ℕ × Entry). IsSerial z.0 z.1 z.2) (λ k. (sym t.0 k, sym t.1 k, t.2 k)) serial) (at_grown key i x at);
      }
