-- What the weights that changes came from, and those that they led to, are together, if the changes tally.
use Rattle.std.proofs.Common.{◌≡◌, ◌≢◌, ℕ, zero, suc, ◌+◌, ◌-◌, ◌%◌, ◌<◌, ◌≤◌, Bool, true, false, cond, ◌==◌, ◌&&◌, nat_lt, nat_le, List, [], ◌∷◌, length, filter, All, refl, sym, ap, ◌∙◌, subst, inl, inr, arith, if◌then◌else◌}
use Rattle.std.proofs.lemmas.Bool.{eqb-true, eq-eqb, ne_eqb, cases_Bool, cases_lt, cases_eq, cases_order, le-leb, lt-leb, lt-ltb, le-ltb, ltb-true, leb-true, and_parts}
use Rattle.std.specs.List.{range_with_len, sum_by}
use Rattle.std.proofs.lemmas.List.Elements.{All-head, All-tail}
use Rattle.std.proofs.lemmas.List.Sums.{sum_by-cons}
use Rattle.aug_model.specs.Keys.{pairs_of}
use Rattle.aug_core.specs.Cuts.{Cut, serial_of, weight_at, pairs_of_cut, IsAtMost}
use Rattle.aug_core.specs.declared.view.Change.{Change}
use Rattle.aug_trie.specs.Tallies.{times, Tallies}
use Rattle.aug_trie.proofs.CutLemmas.{serial_past, serial_rises}
use Rattle.aug_trie.proofs.TallyLemmas.{exactly, counted-cons, times_first, none_low, none_high, once_between}

plus_zero : (x : ℕ) → x ≡ 0 + x
plus_zero x = omega arith

-- the numbers of the changes together, each by its key and its serial
abbrev pub summed : (ℕ → ℕ → ℕ) → List Change → ℕ
summed f changes = sum_by (λ (c : Change). f c.key c.serial) changes

summed-cons : (f : ℕ → ℕ → ℕ) (c : Change) (changes : List Change) → summed f (c ∷ changes) ≡ f c.key c.serial + summed f changes
summed-cons f c changes = sum_by-cons (λ (x : Change). f x.key x.serial) c changes

summed-parts : (f g h : ℕ → ℕ → ℕ) → ((k n : ℕ) → f k n ≡ g k n + h k n) → (changes : List Change) → summed f changes ≡ summed g changes + summed h changes
summed-parts f g h parts [] = refl
summed-parts f g h parts (c ∷ changes) = let here = parts c.key c.serial in let rest = summed-parts f g h parts changes in omega (arith, here, rest, summed-cons f c changes, summed-cons g c changes, summed-cons h c changes)

-- numbers that are 0 for each of the changes
summed-none : (f : ℕ → ℕ → ℕ) (changes : List Change) → ((k n : ℕ) → times k n changes ≢ 0 → f k n ≡ 0) → summed f changes ≡ 0
summed-none f [] none = refl
summed-none f (c ∷ changes) none =
    let first = times_first c changes in let here = none c.key c.serial (λ e. omega (arith, e, first)) in
    let rest = summed-none f changes (λ k n some. none k n (λ e. some (let more = counted-cons (exactly k n) c changes in omega (arith, more, e)))) in omega (arith, here, rest, summed-cons f c changes)

-- a number for one serial of one key
abbrev at_point : ℕ → ℕ → ℕ → ℕ → ℕ → ℕ
at_point key m x k n = if exactly key m k n then x else 0

not_exactly : (key m x k n : ℕ) → exactly key m k n ≡ false → at_point key m x k n ≡ 0
not_exactly key m x k n e = ap (λ (z : Bool). if z then x else 0) e

is_exactly : (key m k n : ℕ) → exactly key m k n ≡ true → (k ≡ key) × (n ≡ m)
is_exactly key m k n e = let parts = and_parts (k == key) (n == m) e in (eqb-true k key parts.0, eqb-true n m parts.1)

point_none : (key m x : ℕ) (changes : List Change) → times key m changes ≡ 0 → summed (at_point key m x) changes ≡ 0
point_none key m x changes none = summed-none (at_point key m x) changes (λ k n some. elim (cases_Bool (exactly key m k n)) [
  | inl t ↦ let is = is_exactly key m k n t in absurd (some (subst (λ (z : ℕ × ℕ). times z.0 z.1 changes ≡ 0) (λ i. (sym is.0 i, sym is.1 i)) none))
  | inr f ↦ not_exactly key m x k n f
])

point_one : (key m x : ℕ) (changes : List Change) → times key m changes ≡ 1 → summed (at_point key m x) changes ≡ x
point_one key m x [] one = absurd (omega (arith, one))
point_one key m x (c ∷ changes) one = let more = counted-cons (exactly key m) c changes in elim (cases_Bool (exactly key m c.key c.serial)) [
  | inl t ↦
      let here = ap {B = ℕ} (λ (z : Bool). if z then x else 0) t in let counted = ap {B = ℕ} (λ (z : Bool). if z then 1 else 0) t in
      let rest = point_none key m x changes (omega (arith, more, counted, one)) in omega (arith, here, rest, summed-cons (at_point key m x) c changes)
  | inr f ↦
      let here = not_exactly key m x c.key c.serial f in let counted = ap {B = ℕ} (λ (z : Bool). if z then 1 else 0) f in
      let rest = point_one key m x changes (omega (arith, more, counted, one)) in omega (arith, here, rest, summed-cons (at_point key m x) c changes)
]

-- the serials of a key up to m
abbrev upto : ℕ → ℕ → (ℕ → ℕ) → ℕ → ℕ → ℕ
upto key m p k n = if k == key && nat_le n m then p n else 0

-- and past it
abbrev beyond : ℕ → ℕ → (ℕ → ℕ) → ℕ → ℕ → ℕ
beyond key m p k n = if k == key && nat_lt m n then p n else 0

-- all of them
abbrev of_key : ℕ → (ℕ → ℕ) → ℕ → ℕ → ℕ
of_key key p k n = if k == key then p n else 0

-- those of the keys below a number, and of the others
abbrev below : ℕ → (ℕ → ℕ → ℕ) → ℕ → ℕ → ℕ
below n f k m = if nat_lt k n then f k m else 0

abbrev above : ℕ → (ℕ → ℕ → ℕ) → ℕ → ℕ → ℕ
above n f k m = if nat_le n k then f k m else 0

upto_step : (key m : ℕ) (p : ℕ → ℕ) (k n : ℕ) → upto key (suc m) p k n ≡ upto key m p k n + at_point key (suc m) (p (suc m)) k n
upto_step key m p k n =
    elim (cases_eq k key) [
      | inl same ↦ rw (eq-eqb k key same) (elim (cases_order n (suc m)) [
        | inl e ↦ rw (le-leb n (suc m) (omega (arith, e)), lt-leb n m (omega (arith, e)), eq-eqb n (suc m) e) (ap p e ∙ plus_zero (p (suc m)))
        | inr (inl lt) ↦ rw (le-leb n (suc m) (omega arith), le-leb n m (omega arith), ne_eqb n (suc m) (λ q. omega (arith, q))) (omega arith)
        | inr (inr gt) ↦ rw (lt-leb n (suc m) (omega arith), lt-leb n m (omega arith), ne_eqb n (suc m) (λ q. omega (arith, q))) refl
      ])
      | inr other ↦ rw (ne_eqb k key other) refl
    ]

cut_at : (key m : ℕ) (p : ℕ → ℕ) (k n : ℕ) → of_key key p k n ≡ upto key m p k n + beyond key m p k n
cut_at key m p k n =
    elim (cases_eq k key) [
      | inl same ↦ rw (eq-eqb k key same) (elim (cases_lt m n) [
        | inl high ↦ rw (lt-leb n m high, lt-ltb m n high) (plus_zero (p n))
        | inr low ↦ rw (le-leb n m low, le-ltb m n low) (omega arith)
      ])
      | inr other ↦ rw (ne_eqb k key other) refl
    ]

key_more : (n : ℕ) (f : ℕ → ℕ → ℕ) (k m : ℕ) → below (suc n) f k m ≡ below n f k m + of_key n (f n) k m
key_more n f k m =
    elim (cases_order k n) [
      | inl e ↦ rw (lt-ltb k (suc n) (omega (arith, e)), le-ltb k n (omega (arith, e)), eq-eqb k n e) (ap (λ (z : ℕ). f z m) e ∙ plus_zero (f n m))
      | inr (inl lt) ↦ rw (lt-ltb k (suc n) (omega arith), lt-ltb k n lt, ne_eqb k n (λ q. omega (arith, q))) (omega arith)
      | inr (inr gt) ↦ rw (le-ltb k (suc n) (omega arith), le-ltb k n (omega arith), ne_eqb k n (λ q. omega (arith, q))) refl
    ]

key_cut : (n : ℕ) (f : ℕ → ℕ → ℕ) (k m : ℕ) → f k m ≡ below n f k m + above n f k m
key_cut n f k m =
    elim (cases_lt k n) [
      | inl lt ↦ rw (lt-ltb k n lt, lt-leb n k lt) (omega arith)
      | inr ge ↦ rw (le-ltb k n ge, le-leb n k ge) (plus_zero (f k m))
    ]

-- what the keys below n weigh in a cut
abbrev pub total_below : (ℕ → ℕ → ℕ) → Cut → ℕ → ℕ
total_below weight_of cut zero = 0
total_below weight_of cut (suc n) = total_below weight_of cut n + weight_of n (serial_of cut n)

module _ (first last : Cut) (changes : List Change) (tallies : Tallies first last changes) (weight_of : ℕ → ℕ → ℕ) where
  -- the weight that a change came from
  abbrev before : ℕ → ℕ → ℕ
  before k n = weight_of k (n - 1)

  low_none : (key : ℕ) (p : ℕ → ℕ) → summed (upto key (serial_of first key) p) changes ≡ 0
  low_none key p = summed-none (upto key (serial_of first key) p) changes (λ k n some. elim (cases_Bool (k == key && nat_le n (serial_of first key))) [
    | inl t ↦
        let parts = and_parts (k == key) (nat_le n (serial_of first key)) t in let same = ap (serial_of first) (eqb-true k key parts.0) in let low = leb-true n (serial_of first key) parts.1 in
        absurd (some (none_low first last changes tallies k n (omega (arith, same, low))))
    | inr f ↦ ap (λ (z : Bool). if z then p n else 0) f
  ])

  high_none : (key : ℕ) (p : ℕ → ℕ) → summed (beyond key (serial_of last key) p) changes ≡ 0
  high_none key p = summed-none (beyond key (serial_of last key) p) changes (λ k n some. elim (cases_Bool (k == key && nat_lt (serial_of last key) n)) [
    | inl t ↦
        let parts = and_parts (k == key) (nat_lt (serial_of last key) n) t in let same = ap (serial_of last) (eqb-true k key parts.0) in let high = ltb-true (serial_of last key) n parts.1 in
        absurd (some (none_high first last changes tallies k n (omega (arith, same, high))))
    | inr f ↦ ap (λ (z : Bool). if z then p n else 0) f
  ])

  -- up to each serial between, each weight that a change led to is the one that the next came from
  balance_upto : (key d : ℕ) → serial_of first key + d ≤ serial_of last key
      → weight_of key (serial_of first key + d) + summed (upto key (serial_of first key + d) (before key)) changes ≡ weight_of key (serial_of first key) + summed (upto key (serial_of first key + d) (weight_of key)) changes
  balance_upto key zero le = let e : serial_of first key + zero ≡ serial_of first key = omega arith in rw e (omega (arith, low_none key (before key), low_none key (weight_of key)))
  balance_upto key (suc d) le =
      let e : serial_of first key + suc d ≡ suc (serial_of first key + d) = omega arith in
      let rest = balance_upto key d (omega arith) in
      let m = serial_of first key + d in
      let once = once_between first last changes tallies key (suc m) (omega arith) (omega arith) in
      let came = summed-parts (upto key (suc m) (before key)) (upto key m (before key)) (at_point key (suc m) (before key (suc m))) (upto_step key m (before key)) changes in
      let led = summed-parts (upto key (suc m) (weight_of key)) (upto key m (weight_of key)) (at_point key (suc m) (weight_of key (suc m))) (upto_step key m (weight_of key)) changes in
      let from = point_one key (suc m) (before key (suc m)) changes once in let to = point_one key (suc m) (weight_of key (suc m)) changes once in
      let same : before key (suc m) ≡ weight_of key m = ap (weight_of key) (let one : suc m - 1 ≡ m = omega arith in one) in
      rw e (omega (arith, rest, came, led, from, to, same))

  -- and so of each key
  balance_of_key : (key : ℕ) → serial_of first key ≤ serial_of last key
      → weight_of key (serial_of last key) + summed (of_key key (before key)) changes ≡ weight_of key (serial_of first key) + summed (of_key key (weight_of key)) changes
  balance_of_key key le =
      let e : serial_of first key + (serial_of last key - serial_of first key) ≡ serial_of last key = omega arith in
      let balance = balance_upto key (serial_of last key - serial_of first key) (omega arith) in
      let here = rw e at balance in
      let came = summed-parts (of_key key (before key)) (upto key (serial_of last key) (before key)) (beyond key (serial_of last key) (before key)) (cut_at key (serial_of last key) (before key)) changes in
      let led = summed-parts (of_key key (weight_of key)) (upto key (serial_of last key) (weight_of key)) (beyond key (serial_of last key) (weight_of key)) (cut_at key (serial_of last key) (weight_of key)) changes in
      omega (arith, here, came, led, high_none key (before key), high_none key (weight_of key))

  balance_below : ((k : ℕ) → serial_of first k ≤ serial_of last k) → (n : ℕ)
      → total_below weight_of last n + summed (below n before) changes ≡ total_below weight_of first n + summed (below n weight_of) changes
  balance_below le zero = let none : (f : ℕ → ℕ → ℕ) → summed (below 0 f) changes ≡ 0 = (λ f. summed-none (below 0 f) changes (λ k n some. ap (λ (z : Bool). if z then f k n else 0) (le-ltb k 0 (omega arith)))) in
      omega (arith, none before, none weight_of)
  balance_below le (suc n) =
      let came = summed-parts (below (suc n) before) (below n before) (of_key n (before n)) (key_more n before) changes in
      let led = summed-parts (below (suc n) weight_of) (below n weight_of) (of_key n (weight_of n)) (key_more n weight_of) changes in
      omega (arith, came, led, balance_below le n, balance_of_key n (le n))

  past_end : (k m : ℕ) → serial_of last k ≡ 0 → times k m changes ≡ 0
  past_end k m none = elim (cases_eq m 0) [
    | inl e ↦ none_low first last changes tallies k m (omega (arith, e))
    | inr ne ↦ none_high first last changes tallies k m (omega (arith, none, ne))
  ]

  all_below : (f : ℕ → ℕ → ℕ) → summed f changes ≡ summed (below (length last) f) changes
  all_below f =
      let parts = summed-parts f (below (length last) f) (above (length last) f) (key_cut (length last) f) changes in
      let none = summed-none (above (length last) f) changes (λ k m some. elim (cases_lt k (length last)) [
        | inl lt ↦ ap (λ (z : Bool). if z then f k m else 0) (lt-leb (length last) k lt)
        | inr ge ↦ absurd (some (past_end k m (serial_past last k ge)))
      ]) in omega (arith, parts, none)

  -- the keys weigh in the end what they weighed at first, more by the weights that the changes led to, and less by those that they came from
  pub balance : IsAtMost first last → total_below weight_of last (length last) + summed before changes ≡ total_below weight_of first (length first) + summed weight_of changes
  balance le = let came = all_below before in let led = all_below weight_of in let below = balance_below (λ k. serial_rises first last k le) (length last) in
      let long : total_below weight_of first (length first) ≡ total_below weight_of first (length last) = ap (total_below weight_of first) le.same_keys in omega (arith, came, led, below, long)

-- numbers that are the same of each item are the same together
pub sum_same : {A : Type 0} (f g : A → ℕ) (xs : List A) → All (λ x. f x ≡ g x) xs → sum_by f xs ≡ sum_by g xs
sum_same f g [] all = refl
sum_same f g (x ∷ xs) all = let here = All-head (λ x. f x ≡ g x) x xs all in let rest = sum_same f g xs (All-tail (λ x. f x ≡ g x) x xs all) in let a = sum_by-cons f x xs in let b = sum_by-cons g x xs in omega (arith, here, rest, a, b)

-- ---- the members of a cut

abbrev heavy : ℕ × ℕ → ℕ
heavy pair = pair.1

one_pair : (b : Bool) (f : ℕ → ℕ) (k : ℕ) (keys : List ℕ) → sum_by heavy (pairs_of f (cond b (k ∷ keys) keys)) ≡ (if b then f k else 0) + sum_by heavy (pairs_of f keys)
one_pair true f k keys = sum_by-cons heavy (k, f k) (pairs_of f keys)
one_pair false f k keys = plus_zero (sum_by heavy (pairs_of f keys))

range_more : (p : ℕ → Bool) (f : ℕ → ℕ) (a n : ℕ) → sum_by heavy (pairs_of f (filter p (range_with_len a (suc n)))) ≡ sum_by heavy (pairs_of f (filter p (range_with_len a n))) + (if p (a + n) then f (a + n) else 0)
range_more p f a zero = let e : a + 0 ≡ a = omega arith in rw e (omega (arith, one_pair (p a) f a []))
range_more p f a (suc n) =
    let e : a + 1 + n ≡ a + suc n = omega arith in
    let rest = range_more p f (a + 1) n in
    let moved = rw e at rest in
    omega (arith, moved, one_pair (p a) f a (filter p (range_with_len (a + 1) (suc n))), one_pair (p a) f a (filter p (range_with_len (a + 1) n)))

-- the members of a cut weigh what the keys do, where a key that is no member weighs nothing
pub members_weigh : (weight_of : ℕ → ℕ → ℕ) (cut : Cut) → ((k : ℕ) → k < length cut → weight_of k (serial_of cut k) ≡ (if serial_of cut k % 2 == 1 then weight_at cut k else 0)) → sum_by heavy (pairs_of_cut cut) ≡ total_below weight_of cut (length cut)
members_weigh weight_of cut weighs = up_to (length cut) (omega arith)
  where
    up_to : (n : ℕ) → n ≤ length cut → sum_by heavy (pairs_of (weight_at cut) (filter (λ key. serial_of cut key % 2 == 1) (range_with_len 0 n))) ≡ total_below weight_of cut n
    up_to zero le = refl
    up_to (suc n) le = let e : 0 + n ≡ n = omega arith in let more = range_more (λ key. serial_of cut key % 2 == 1) (weight_at cut) 0 n in let here = rw e at more in
        let rest = up_to n (omega arith) in let one = weighs n (omega arith) in omega (arith, here, rest, one)
