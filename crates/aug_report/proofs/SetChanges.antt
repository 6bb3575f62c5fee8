-- What the changes of one key do to the set of a cut.
use Rattle.std.proofs.Common.{◌≡◌, ℕ, ◌+◌, ◌≤◌, Bool, true, false, not, ◌==◌, ◌&&◌, ◌||◌, nat_lt, List, [], ◌∷◌, ◌++◌, filter, refl, ap, sym, ◌∙◌, inl, inr, arith}
use Rattle.std.proofs.lemmas.Bool.{eq-eqb, ne_eqb, cases_Bool, cases_lt, cases_eq, cases_order, lt-ltb, le-ltb, ltb-true, false≢true}
use Rattle.aug_model.specs.Keys.{is_member, pairs_of, with_pair, without_pair}
use Rattle.aug_model.proofs.Pairs.{pairs_of-append}
use Rattle.aug_core.specs.Cuts.{Cut, shown_of, serial_of, weight_at, set_of_cut, pairs_of_cut}
use Rattle.aug_trie.proofs.Rising.{RisesFrom, same_list, is_member-filter, rises-filter}
use Rattle.aug_trie.proofs.CutLemmas.{odd, rises-set_of_cut, is_member-set_of_cut}

-- a list of keys with a key in it
abbrev pub with_key : List ℕ → ℕ → List ℕ
with_key keys k = filter (λ x. nat_lt x k) keys ++ k ∷ filter (λ x. nat_lt k x) keys

-- and without it
abbrev pub without_key : List ℕ → ℕ → List ℕ
without_key keys k = filter (λ x. not (x == k)) keys

is_member-append : (xs ys : List ℕ) (k : ℕ) → is_member (xs ++ ys) k ≡ (is_member xs k || is_member ys k)
is_member-append [] ys k = refl
is_member-append (x ∷ xs) ys k = ap (λ b. x == k || b) (is_member-append xs ys k) ∙ or_assoc (x == k) (is_member xs k) (is_member ys k)
  where
    or_assoc : (a b c : Bool) → (a || (b || c)) ≡ ((a || b) || c)
    or_assoc true b c = refl
    or_assoc false b c = refl

and_true : (b : Bool) → (b && true) ≡ b
and_true true = refl
and_true false = refl

and_false : (b : Bool) → (b && false) ≡ false
and_false true = refl
and_false false = refl

or_false : (b : Bool) → (b || false) ≡ b
or_false true = refl
or_false false = refl

or_true : (b : Bool) → (b || true) ≡ true
or_true true = refl
or_true false = refl

-- the members of a set with a key put in
pub is_member-with_key : (keys : List ℕ) (k x : ℕ) → is_member (with_key keys k) x ≡ (k == x || is_member keys x)
is_member-with_key keys k x =
    is_member-append (filter (λ y. nat_lt y k) keys) (k ∷ filter (λ y. nat_lt k y) keys) x
    ∙ rw (is_member-filter (λ y. nat_lt y k) keys x, is_member-filter (λ y. nat_lt k y) keys x) (elim (cases_order x k) [
      | inl e ↦ rw (eq-eqb k x (sym e)) (or_true (is_member keys x && nat_lt x k))
      | inr (inl lt) ↦ rw (lt-ltb x k lt, le-ltb k x (omega arith), ne_eqb k x (λ e. omega (arith, e)), and_true (is_member keys x), and_false (is_member keys x)) (or_false (is_member keys x))
      | inr (inr gt) ↦ rw (le-ltb x k (omega arith), lt-ltb k x gt, ne_eqb k x (λ e. omega (arith, e)), and_true (is_member keys x), and_false (is_member keys x)) refl
    ])

rises_past : (b k : ℕ) (xs : List ℕ) → RisesFrom b xs → RisesFrom (k + 1) (filter (λ x. nat_lt k x) xs)
rises_past b k [] rises = tt
rises_past b k (x ∷ xs) rises =
    elim (cases_lt k x) [
      | inl lt ↦ rw (lt-ltb k x lt) (omega arith, rises-filter (λ y. nat_lt k y) (x + 1) xs rises.1)
      | inr ge ↦ rw (le-ltb k x ge) (rises_past (x + 1) k xs rises.1)
    ]

none_before : (b k : ℕ) (xs : List ℕ) → RisesFrom b xs → k ≤ b → filter (λ x. nat_lt x k) xs ≡ []
none_before b k [] rises le = refl
none_before b k (x ∷ xs) rises le = rw (le-ltb x k (omega (arith, rises.0))) (none_before (x + 1) k xs rises.1 (omega (arith, rises.0)))

pub rises-with_key : (b k : ℕ) (xs : List ℕ) → RisesFrom b xs → b ≤ k → RisesFrom b (with_key xs k)
rises-with_key b k [] rises le = (le, tt)
rises-with_key b k (x ∷ xs) rises le =
    elim (cases_lt x k) [
      | inl lt ↦ rw (lt-ltb x k lt, le-ltb k x (omega arith)) (rises.0, rises-with_key (x + 1) k xs rises.1 (omega arith))
      | inr ge ↦ rw (le-ltb x k ge, none_before (x + 1) k xs rises.1 (omega arith)) (le, rises_past b k (x ∷ xs) rises)
    ]

-- the cut d differs from c only at the key, whose serial is now odd
pub set-with_key : (c d : Cut) (k : ℕ) → ((j : ℕ) → (j ≡ k → ⊥) → serial_of d j ≡ serial_of c j) → odd (serial_of d k) ≡ true → set_of_cut d ≡ with_key (set_of_cut c) k
set-with_key c d k others is_odd =
    same_list 0 (set_of_cut d) (with_key (set_of_cut c) k) (rises-set_of_cut d) (rises-with_key 0 k (set_of_cut c) (rises-set_of_cut c) (omega arith))
    (λ x. is_member-set_of_cut d x ∙ elim (cases_eq k x) [
      | inl e ↦ ap (λ y. odd (serial_of d y)) (sym e) ∙ is_odd ∙ sym (is_member-with_key (set_of_cut c) k x ∙ rw (eq-eqb k x e))
      | inr ne ↦ ap odd (others x (λ e. ne (sym e))) ∙ sym (is_member-with_key (set_of_cut c) k x ∙ rw (ne_eqb k x ne) (is_member-set_of_cut c x))
    ])

-- or even
pub set-without_key : (c d : Cut) (k : ℕ) → ((j : ℕ) → (j ≡ k → ⊥) → serial_of d j ≡ serial_of c j) → odd (serial_of d k) ≡ false → set_of_cut d ≡ without_key (set_of_cut c) k
set-without_key c d k others is_even =
    same_list 0 (set_of_cut d) (without_key (set_of_cut c) k) (rises-set_of_cut d) (rises-filter (λ x. not (x == k)) 0 (set_of_cut c) (rises-set_of_cut c))
    (λ x. is_member-set_of_cut d x ∙ elim (cases_eq x k) [
      | inl e ↦ ap (λ y. odd (serial_of d y)) e ∙ is_even ∙ sym (is_member-filter (λ y. not (y == k)) (set_of_cut c) x ∙ rw (eq-eqb x k e) (and_false (is_member (set_of_cut c) x)))
      | inr ne ↦ ap odd (others x ne) ∙ sym (is_member-filter (λ y. not (y == k)) (set_of_cut c) x ∙ rw (ne_eqb x k ne) (and_true (is_member (set_of_cut c) x) ∙ is_member-set_of_cut c x))
    ])

-- the keys that pass a test, with weights that differ only where it fails, are the pairs whose keys pass it
kept_pairs : (p : ℕ → Bool) (f g : ℕ → ℕ) (keys : List ℕ) → ((k : ℕ) → p k ≡ true → f k ≡ g k) → pairs_of f (filter p keys) ≡ filter (λ x. p x.0) (pairs_of g keys)
kept_pairs p f g [] same = refl
kept_pairs p f g (k ∷ keys) same =
    let rest = kept_pairs p f g keys same in
    elim (cases_Bool (p k)) [
      | inl t ↦ (let here = same k t in rw t (λ i. (k, here i) ∷ rest i))
      | inr f ↦ rw f rest
    ]

module _ (c d : Cut) (k : ℕ) (others : (j : ℕ) → (j ≡ k → ⊥) → shown_of d j ≡ shown_of c j) where
  serials : (j : ℕ) → (j ≡ k → ⊥) → serial_of d j ≡ serial_of c j
  serials j other = ap (λ (z : ℕ × ℕ). z.0) (others j other)

  weights : (j : ℕ) → (j ≡ k → ⊥) → weight_at d j ≡ weight_at c j
  weights j other = ap (λ (z : ℕ × ℕ). z.1) (others j other)

  -- the cut d differs from c only at the key, which is in it now: it has its weight
  pub pairs-with_key : odd (serial_of d k) ≡ true → pairs_of_cut d ≡ with_pair (pairs_of_cut c) k (weight_at d k)
  pairs-with_key is_odd =
      let below = kept_pairs (λ x. nat_lt x k) (weight_at d) (weight_at c) (set_of_cut c) (λ j t. weights j (λ e. omega (arith, e, ltb-true j k t))) in
      let above = kept_pairs (λ x. nat_lt k x) (weight_at d) (weight_at c) (set_of_cut c) (λ j t. weights j (λ e. omega (arith, e, ltb-true k j t))) in
      ap (pairs_of (weight_at d)) (set-with_key c d k serials is_odd) ∙ pairs_of-append (weight_at d) (filter (λ x. nat_lt x k) (set_of_cut c)) (k ∷ filter (λ x. nat_lt k x) (set_of_cut c))
      ∙ (λ i. below i ++ (k, weight_at d k) ∷ above i)

  -- or is not
  pub pairs-without_key : odd (serial_of d k) ≡ false → pairs_of_cut d ≡ without_pair (pairs_of_cut c) k
  pairs-without_key is_even =
      ap (pairs_of (weight_at d)) (set-without_key c d k serials is_even)
      ∙ kept_pairs (λ x. not (x == k)) (weight_at d) (weight_at c) (set_of_cut c) (λ j t. weights j (λ e. false≢true (sym (ap not (eq-eqb j k e)) ∙ t)))
