-- What a tally says of the sizes of sets.
use Rattle.std.proofs.Common.{◌≡◌, ℕ, zero, suc, ◌+◌, ◌-◌, ◌%◌, ◌<◌, ◌≤◌, Bool, true, false, cond, ◌==◌, ◌&&◌, nat_lt, nat_le, List, [], ◌∷◌, ◌++◌, length, filter, refl, ap, ◌∙◌, inl, inr, arith, subst, All, if◌then◌else◌}
use Rattle.std.specs.Prelude.{flat_map}
use Rattle.std.proofs.lemmas.List.{append-nil}
use Rattle.std.proofs.lemmas.Bool.{eqb-true, eq-eqb, ne_eqb, cases_Bool, cases_lt, cases_eq, cases_order, le-leb, lt-leb, lt-ltb, le-ltb, ltb-true, leb-true, and_parts, and_right}
use Rattle.std.specs.List.{range_with_len}
use Rattle.aug_core.specs.Cuts.{Cut, serial_of, set_of_cut, IsAtMost}
use Rattle.aug_core.specs.declared.view.Change.{Change}
use Rattle.aug_trie.specs.Knowledge.{inserts_of, removals_of}
use Rattle.aug_trie.specs.Tallies.{times, Tallies, TalliesWithLost, Weighs}
use Rattle.aug_trie.proofs.CutLemmas.{serial_past, serial_rises}

abbrev one_if : Bool → ℕ
one_if b = if b then 1 else 0

-- how many changes pass a test on key and number
abbrev pub counted : (ℕ → ℕ → Bool) → List Change → ℕ
counted test changes = length (filter (λ change. test change.key change.serial) changes)

cons-length : {A : Type 0} (b : Bool) (x : A) (xs : List A) → length (cond b (x ∷ xs) xs) ≡ one_if b + length xs
cons-length true x xs = omega arith
cons-length false x xs = omega arith

pub counted-cons : (p : ℕ → ℕ → Bool) (c : Change) (changes : List Change) → counted p (c ∷ changes) ≡ one_if (p c.key c.serial) + counted p changes
counted-cons p c changes = cons-length (p c.key c.serial) c (filter (λ change. p change.key change.serial) changes)

pub counted-append : (p : ℕ → ℕ → Bool) (xs ys : List Change) → counted p (xs ++ ys) ≡ counted p xs + counted p ys
counted-append p [] ys = omega arith
counted-append p (c ∷ xs) ys = omega (arith, counted-cons p c xs, counted-cons p c (xs ++ ys), counted-append p xs ys)

and_true : (b : Bool) → (b && true) ≡ b
and_true true = refl
and_true false = refl

and_false : (b : Bool) → (b && false) ≡ false
and_false true = refl
and_false false = refl

-- a count in two parts
pub counted-parts : (p q r : ℕ → ℕ → Bool) → ((k n : ℕ) → one_if (p k n) ≡ one_if (q k n) + one_if (r k n)) → (changes : List Change) → counted p changes ≡ counted q changes + counted r changes
counted-parts p q r parts [] = refl
counted-parts p q r parts (c ∷ changes) = omega (arith, parts c.key c.serial, counted-parts p q r parts changes, counted-cons p c changes, counted-cons q c changes, counted-cons r c changes)

abbrev pub exactly : ℕ → ℕ → ℕ → ℕ → Bool
exactly key m k n = k == key && n == m

times_more : (c : Change) (changes : List Change) (k n : ℕ) → times k n changes ≤ times k n (c ∷ changes)
times_more c changes k n = omega (arith, counted-cons (exactly k n) c changes)

exactly-itself : (k n : ℕ) → exactly k n k n ≡ true
exactly-itself k n = rw (eq-eqb k k refl, eq-eqb n n refl)

pub times_first : (c : Change) (changes : List Change) → times c.key c.serial (c ∷ changes) ≡ 1 + times c.key c.serial changes
times_first c changes = omega (arith, counted-cons (exactly c.key c.serial) c changes, ap one_if (exactly-itself c.key c.serial))

-- nothing that passes the test is there
pub counted-none : (p : ℕ → ℕ → Bool) (changes : List Change) → ((k n : ℕ) → p k n ≡ true → times k n changes ≡ 0) → counted p changes ≡ 0
counted-none p [] none = refl
counted-none p (c ∷ changes) none =
    let rest = counted-none p changes (λ k n t. omega (arith, none k n t, times_more c changes k n)) in
    elim (cases_Bool (p c.key c.serial)) [
      | inl t ↦ absurd (omega (arith, none c.key c.serial t, times_first c changes))
      | inr f ↦ omega (arith, rest, ap one_if f, counted-cons p c changes)
    ]

-- the numbers of a key up to m that pass a test
abbrev upto : ℕ → ℕ → (ℕ → Bool) → ℕ → ℕ → Bool
upto key m p k n = k == key && (nat_le n m && p n)

abbrev if_suits : ℕ → ℕ → (ℕ → Bool) → ℕ → ℕ → Bool
if_suits key m p k n = exactly key m k n && p m

zero_left : (b : Bool) → one_if b ≡ 0 + one_if b
zero_left b = omega arith

zero_right : (b : Bool) → one_if b ≡ one_if b + 0
zero_right b = omega arith

-- one number more
upto_step : (key m : ℕ) (p : ℕ → Bool) (k n : ℕ) → one_if (upto key (suc m) p k n) ≡ one_if (upto key m p k n) + one_if (if_suits key (suc m) p k n)
upto_step key m p k n =
    elim (cases_eq k key) [
      | inl same ↦ rw (eq-eqb k key same) (elim (cases_order n (suc m)) [
        | inl e ↦ rw (le-leb n (suc m) (omega (arith, e)), lt-leb n m (omega (arith, e)), eq-eqb n (suc m) e, e) (zero_left (p (suc m)))
        | inr (inl lt) ↦ rw (le-leb n (suc m) (omega arith), le-leb n m (omega arith), ne_eqb n (suc m) (λ q. omega (arith, q))) (zero_right (p n))
        | inr (inr gt) ↦ rw (lt-leb n (suc m) (omega arith), lt-leb n m (omega arith), ne_eqb n (suc m) (λ q. omega (arith, q))) refl
      ])
      | inr other ↦ rw (ne_eqb k key other) refl
    ]

-- the numbers of a key that pass a test
abbrev of_key : ℕ → (ℕ → Bool) → ℕ → ℕ → Bool
of_key key p k n = k == key && p n

counted-if_suits : (key m : ℕ) (p : ℕ → Bool) (changes : List Change) → counted (if_suits key m p) changes ≡ (if p m then times key m changes else 0)
counted-if_suits key m p [] = by_test (p m)
  where
    by_test : (b : Bool) → ◌≡◌ {A = ℕ} 0 (if b then 0 else 0)
    by_test true = refl
    by_test false = refl
counted-if_suits key m p (c ∷ changes) = omega (arith, counted-cons (if_suits key m p) c changes, counted-if_suits key m p changes, more (p m))
  where
    more : (b : Bool) → one_if (exactly key m c.key c.serial && b) + (if b then times key m changes else 0) ≡ (if b then times key m (c ∷ changes) else 0)
    more true = omega (arith, counted-cons (exactly key m) c changes, ap one_if (and_true (exactly key m c.key c.serial)))
    more false = ap (λ b. one_if b + 0) (and_false (exactly key m c.key c.serial))

abbrev is_odd : ℕ → Bool
is_odd n = n % 2 == 1

abbrev is_even : ℕ → Bool
is_even n = n % 2 == 0

-- two numbers that follow one another are one odd and one even
data Parity : ℕ → Type 0 where
  odd_then_even : {m : ℕ} → is_odd m ≡ true → is_even m ≡ false → is_odd (suc m) ≡ false → is_even (suc m) ≡ true → Parity m
  even_then_odd : {m : ℕ} → is_odd m ≡ false → is_even m ≡ true → is_odd (suc m) ≡ true → is_even (suc m) ≡ false → Parity m

parity : (m : ℕ) → Parity m
parity m =
    elim (cases_eq (m % 2) 1) [
      | inl is ↦ odd_then_even (eq-eqb (m % 2) 1 is) (ne_eqb (m % 2) 0 (λ e. omega (arith, e, is))) (ne_eqb (suc m % 2) 1 (λ e. omega (arith, e, is))) (eq-eqb (suc m % 2) 0 (omega (arith, is)))
      | inr not_odd ↦
          let even : m % 2 ≡ 0 = elim (cases_eq (m % 2) 0) [ inl z ↦ z | inr nz ↦ absurd (omega (arith, not_odd, nz)) ] in
          even_then_odd (ne_eqb (m % 2) 1 not_odd) (eq-eqb (m % 2) 0 even) (eq-eqb (suc m % 2) 1 (omega (arith, even))) (ne_eqb (suc m % 2) 0 (λ e. omega (arith, e, even)))
    ]

add_up : (m t even odd even' odd' : ℕ) (b : Bool) → t ≡ 1
    → even' ≡ even + (if is_even (suc m) then t else 0) → odd' ≡ odd + (if is_odd (suc m) then t else 0)
    → one_if (is_odd m) + even ≡ one_if b + odd
    → one_if (is_odd (suc m)) + even' ≡ one_if b + odd'
add_up m t even odd even' odd' b once evens odds before = by_parity (parity m)
  where
    by_parity : Parity m → one_if (is_odd (suc m)) + even' ≡ one_if b + odd'
    by_parity (odd_then_even a c d e) = omega (arith, before, once, rw e at evens, rw d at odds, ap one_if a, ap one_if d)
    by_parity (even_then_odd a c d e) = omega (arith, before, once, rw e at evens, rw d at odds, ap one_if a, ap one_if d)

-- how many of the keys below n have an odd serial
abbrev odd_keys : Cut → ℕ → ℕ
odd_keys cut zero = 0
odd_keys cut (suc n) = odd_keys cut n + one_if (is_odd (serial_of cut n))

range_more : (p : ℕ → Bool) (a n : ℕ) → length (filter p (range_with_len a (suc n))) ≡ length (filter p (range_with_len a n)) + one_if (p (a + n))
range_more p a zero = let e : a + 0 ≡ a = omega arith in rw e (omega (arith, cons-length (p a) a []))
range_more p a (suc n) =
    let e : a + 1 + n ≡ a + suc n = omega arith in
    let rest = range_more p (a + 1) n in
    let moved = rw e at rest in
    omega (arith, moved, cons-length (p a) a (filter p (range_with_len (a + 1) (suc n))), cons-length (p a) a (filter p (range_with_len (a + 1) n)))

length-range : (cut : Cut) (n : ℕ) → length (filter (λ key. is_odd (serial_of cut key)) (range_with_len 0 n)) ≡ odd_keys cut n
length-range cut zero = refl
length-range cut (suc n) =
    let e : 0 + n ≡ n = omega arith in
    let more = range_more (λ key. is_odd (serial_of cut key)) 0 n in
    let here = rw e at more in
    omega (arith, here, length-range cut n)

length-set_of_cut : (cut : Cut) → length (set_of_cut cut) ≡ odd_keys cut (length cut)
length-set_of_cut cut = length-range cut (length cut)

-- the keys below n
abbrev below : ℕ → (ℕ → Bool) → ℕ → ℕ → Bool
below n p k m = nat_lt k n && p m

none_below : (p : ℕ → Bool) (changes : List Change) → counted (below 0 p) changes ≡ 0
none_below p changes = counted-none (below 0 p) changes (λ k n t. absurd (omega (arith, ltb-true k 0 (and_parts (nat_lt k 0) (p n) t).0)))

cut_at : (b : Bool) (n m : ℕ) (c : Bool) → one_if (b && c) ≡ one_if (b && (nat_le n m && c)) + one_if (b && (nat_lt m n && c))
cut_at false n m c = refl
cut_at true n m c =
    elim (cases_lt m n) [
      | inl high ↦ rw (lt-leb n m high, lt-ltb m n high) (zero_left c)
      | inr low ↦ rw (le-leb n m low, le-ltb m n low) (zero_right c)
    ]

one_key_more : (k n : ℕ) (b : Bool) → one_if (nat_lt k (suc n) && b) ≡ one_if (nat_lt k n && b) + one_if (k == n && b)
one_key_more k n b =
    elim (cases_order k n) [
      | inl e ↦ rw (lt-ltb k (suc n) (omega (arith, e)), le-ltb k n (omega (arith, e)), eq-eqb k n e) (zero_left b)
      | inr (inl lt) ↦ rw (lt-ltb k (suc n) (omega arith), lt-ltb k n lt, ne_eqb k n (λ q. omega (arith, q))) (zero_right b)
      | inr (inr gt) ↦ rw (le-ltb k (suc n) (omega arith), le-ltb k n (omega arith), ne_eqb k n (λ q. omega (arith, q))) refl
    ]

cut_key : (k n : ℕ) (b : Bool) → one_if b ≡ one_if (nat_lt k n && b) + one_if (nat_le n k && b)
cut_key k n b =
    elim (cases_lt k n) [
      | inl lt ↦ rw (lt-ltb k n lt, lt-leb n k lt) (zero_right b)
      | inr ge ↦ rw (le-ltb k n ge, le-leb n k ge) (zero_left b)
    ]

module _ (first last : Cut) (changes : List Change) (tallies : Tallies first last changes) where
  pub none_low : (k n : ℕ) → n ≤ serial_of first k → times k n changes ≡ 0
  none_low k n low = tallies k n ∙ rw (le-ltb (serial_of first k) n low)

  pub none_high : (k n : ℕ) → serial_of last k < n → times k n changes ≡ 0
  none_high k n high = tallies k n ∙ ap one_if (and_right (nat_lt (serial_of first k) n) (nat_le n (serial_of last k)) (lt-leb n (serial_of last k) high))

  pub once_between : (k n : ℕ) → serial_of first k < n → n ≤ serial_of last k → times k n changes ≡ 1
  once_between k n low high = tallies k n ∙ rw (lt-ltb (serial_of first k) n low, le-leb n (serial_of last k) high)

  low_none : (key : ℕ) (p : ℕ → Bool) → counted (upto key (serial_of first key) p) changes ≡ 0
  low_none key p =
      counted-none (upto key (serial_of first key) p) changes (λ k n t.
      let parts = and_parts (k == key) (nat_le n (serial_of first key) && p n) t in
      let same = eqb-true k key parts.0 in
      let low = leb-true n (serial_of first key) (and_parts (nat_le n (serial_of first key)) (p n) parts.1).0 in
      none_low k n (omega (arith, low, ap (serial_of first) same)))

  -- up to each number between, as many insertions came as removals, but for where the key began and where it stands
  balance_upto : (key d : ℕ) → serial_of first key + d ≤ serial_of last key
      → one_if (is_odd (serial_of first key + d)) + counted (upto key (serial_of first key + d) is_even) changes
      ≡ one_if (is_odd (serial_of first key)) + counted (upto key (serial_of first key + d) is_odd) changes
  balance_upto key zero le =
      let e : serial_of first key + zero ≡ serial_of first key = omega arith in
      rw e (omega (arith, low_none key is_even, low_none key is_odd))
  balance_upto key (suc d) le =
      let e : serial_of first key + suc d ≡ suc (serial_of first key + d) = omega arith in
      let before = balance_upto key d (omega arith) in
      let m = serial_of first key + d in
      let once = once_between key (suc m) (omega arith) (omega arith) in
      let evens = counted-parts (upto key (suc m) is_even) (upto key m is_even) (if_suits key (suc m) is_even) (upto_step key m is_even) changes in
      let odds = counted-parts (upto key (suc m) is_odd) (upto key m is_odd) (if_suits key (suc m) is_odd) (upto_step key m is_odd) changes in
      rw e (add_up m (times key (suc m) changes) _ _ _ _ (is_odd (serial_of first key)) once (evens ∙ ap (λ x. counted (upto key m is_even) changes + x) (counted-if_suits key (suc m) is_even changes)) (odds ∙ ap (λ x. counted (upto key m is_odd) changes + x) (counted-if_suits key (suc m) is_odd changes)) before)

  beyond_none : (key : ℕ) (p : ℕ → Bool) → counted (λ k n. k == key && (nat_lt (serial_of last key) n && p n)) changes ≡ 0
  beyond_none key p =
      counted-none (λ k n. k == key && (nat_lt (serial_of last key) n && p n)) changes (λ k n t.
      let parts = and_parts (k == key) (nat_lt (serial_of last key) n && p n) t in
      let same = eqb-true k key parts.0 in
      let high = ltb-true (serial_of last key) n (and_parts (nat_lt (serial_of last key) n) (p n) parts.1).0 in
      none_high k n (omega (arith, high, ap (serial_of last) same)))

  all_upto : (key : ℕ) (p : ℕ → Bool) → counted (of_key key p) changes ≡ counted (upto key (serial_of last key) p) changes
  all_upto key p =
      let parts = counted-parts (of_key key p) (upto key (serial_of last key) p) (λ k n. k == key && (nat_lt (serial_of last key) n && p n)) (λ k n. cut_at (k == key) n (serial_of last key) (p n)) changes in
      omega (arith, parts, beyond_none key p)

  -- of each key as many insertions came as removals, but for where it began and where it ends
  balance_of_key : (key : ℕ) → serial_of first key ≤ serial_of last key
      → one_if (is_odd (serial_of last key)) + counted (of_key key is_even) changes ≡ one_if (is_odd (serial_of first key)) + counted (of_key key is_odd) changes
  balance_of_key key le =
      let e : serial_of first key + (serial_of last key - serial_of first key) ≡ serial_of last key = omega arith in
      let balance = balance_upto key (serial_of last key - serial_of first key) (omega arith) in
      let here = rw e at balance in
      omega (arith, here, all_upto key is_even, all_upto key is_odd)

  balance_below : ((k : ℕ) → serial_of first k ≤ serial_of last k) → (n : ℕ)
      → odd_keys last n + counted (below n is_even) changes ≡ odd_keys first n + counted (below n is_odd) changes
  balance_below le zero = omega (arith, none_below is_even changes, none_below is_odd changes)
  balance_below le (suc n) =
      let evens = counted-parts (below (suc n) is_even) (below n is_even) (of_key n is_even) (λ k m. one_key_more k n (is_even m)) changes in
      let odds = counted-parts (below (suc n) is_odd) (below n is_odd) (of_key n is_odd) (λ k m. one_key_more k n (is_odd m)) changes in
      omega (arith, evens, odds, balance_below le n, balance_of_key n (le n))

  past_end : (k m : ℕ) → serial_of last k ≡ 0 → times k m changes ≡ 0
  past_end k m none = elim (cases_eq m 0) [
    | inl e ↦ none_low k m (omega (arith, e))
    | inr ne ↦ none_high k m (omega (arith, none, ne))
  ]

  all_below : (n : ℕ) (p : ℕ → Bool) → length last ≤ n → counted (λ k m. p m) changes ≡ counted (below n p) changes
  all_below n p wide =
      let parts = counted-parts (λ k m. p m) (below n p) (λ k m. nat_le n k && p m) (λ k m. cut_key k n (p m)) changes in
      let none = counted-none (λ k m. nat_le n k && p m) changes (λ k m t.
      let far = leb-true n k (and_parts (nat_le n k) (p m) t).0 in
      past_end k m (serial_past last k (omega (arith, wide, far)))) in
      omega (arith, parts, none)

-- the size of the set changed by the insertions and removals
pub sizes : (first last : Cut) (changes : List Change) → IsAtMost first last → Tallies first last changes
    → length (set_of_cut last) + removals_of changes ≡ length (set_of_cut first) + inserts_of changes
sizes first last changes le tallies =
    let balance = balance_below first last changes tallies (λ k. serial_rises first last k le) (length last) in
    let evens = all_below first last changes tallies (length last) is_even (omega arith) in
    let odds = all_below first last changes tallies (length last) is_odd (omega arith) in
    let after = length-set_of_cut last in
    let before = length-set_of_cut first ∙ ap (odd_keys first) le.same_keys in
    omega (arith, balance, evens, odds, after, before)

-- where nothing is lost, the weights come from the changes that are there
pub none_lost_weighs : (updates : ℕ) (first last : Cut) (history : List Cut) (changes : List Change) → TalliesWithLost updates 0 first last history changes → All (Weighs first changes) history
none_lost_weighs updates first last history changes t =
    subst (λ (z : List Change). All (Weighs first z) history) (ap (λ (z : List Change). changes ++ z) (gone t.all.lists t.all.one_each) ∙ append-nil changes) t.all.weigh
  where
    gone : (lost : List (List Change)) → length lost ≡ 0 → flat_map (λ list. list) lost ≡ []
    gone [] none = refl
    gone (x ∷ xs) none = absurd (omega (arith, none))
