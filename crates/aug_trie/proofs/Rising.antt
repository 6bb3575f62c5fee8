-- Rising lists with the same members are the same, and the members of a cut rise.
use Rattle.std.proofs.Common.{◌≡◌, ℕ, zero, suc, ◌+◌, ◌<◌, ◌≤◌, Bool, true, false, cond, ◌==◌, ◌&&◌, ◌||◌, nat_lt, nat_le, List, [], ◌∷◌, length, slice_index, refl, ap, sym, ◌∙◌, inl, inr, arith, filter}
use Rattle.std.proofs.lemmas.Bool.{eq-eqb, ne_eqb, cases_Bool, cases_order, cases_eq, false≢true, le-leb, lt-leb, lt-ltb, le-ltb, cases_lt}
use Rattle.std.specs.List.{range_with_len}
use Rattle.std.specs.List.Sorted.{IsStrictlyIncreasing}
use Rattle.aug_model.specs.Keys.{is_member, keys_of}
use Rattle.aug_core.specs.Cuts.{Cut, pairs_of_cut}
use Rattle.aug_words.proofs.CutSets.{members_rise as cut_rises}

-- the list rises, and begins with at least b
abbrev pub RisesFrom : ℕ → List ℕ → Type 0
RisesFrom b [] = Unit {0}
RisesFrom b (x ∷ xs) = (b ≤ x) × RisesFrom (x + 1) xs

tail_up : (x : ℕ) (xs : List ℕ) → IsStrictlyIncreasing (x ∷ xs) → IsStrictlyIncreasing xs
tail_up x xs up k below =
    let e : suc k + 1 ≡ suc (k + 1) = omega arith in
    let step = up (suc k) (omega arith) in
    omega (arith, step, ap (slice_index (x ∷ xs)) e)

pub rises_of : (b : ℕ) (xs : List ℕ) → IsStrictlyIncreasing xs → (0 < length xs → b ≤ slice_index xs 0) → RisesFrom b xs
rises_of b [] up low = tt
rises_of b (x ∷ xs) up low = (low (omega arith), rises_of (x + 1) xs (tail_up x xs up) (λ some. first some))
  where
    first : 0 < length xs → x + 1 ≤ slice_index xs 0
    first some = let e : 0 + 1 ≡ suc 0 = omega arith in omega (arith, up 0 (omega arith), ap (slice_index (x ∷ xs)) e)

pub low_absent : (b : ℕ) (xs : List ℕ) (k : ℕ) → RisesFrom b xs → k < b → is_member xs k ≡ false
low_absent b [] k rises low = refl
low_absent b (x ∷ xs) k rises low = rw (ne_eqb x k (λ e. omega (arith, rises.0))) (low_absent (x + 1) xs k rises.1 (omega (arith, rises.0)))

pub head_there : (x : ℕ) (xs : List ℕ) → is_member (x ∷ xs) x ≡ true
head_there x xs = rw (eq-eqb x x refl)

abbrev SameMembers : List ℕ → List ℕ → Type 0
SameMembers xs ys = (k : ℕ) → is_member xs k ≡ is_member ys k

-- a first member that is below the other list's is not in it
too_low : (x y : ℕ) (xs ys : List ℕ) → RisesFrom (y + 1) ys → SameMembers (x ∷ xs) (y ∷ ys) → x < y → ⊥
too_low x y xs ys rises same low =
    let absent : is_member (y ∷ ys) x ≡ false = rw (ne_eqb y x (λ e. omega (arith, e))) (low_absent (y + 1) ys x rises (omega arith)) in
    false≢true (sym absent ∙ sym (same x) ∙ head_there x xs)

tails : (x : ℕ) (xs ys : List ℕ) → RisesFrom (x + 1) xs → RisesFrom (x + 1) ys → SameMembers (x ∷ xs) (x ∷ ys) → SameMembers xs ys
tails x xs ys up_x up_y same k =
    elim (cases_eq x k) [
      | inl e ↦ low_absent (x + 1) xs k up_x (omega (arith, e)) ∙ sym (low_absent (x + 1) ys k up_y (omega (arith, e)))
      | inr ne ↦ (let off = ne_eqb x k ne in rw off at (same k))
    ]

pub same_list : (b : ℕ) (xs ys : List ℕ) → RisesFrom b xs → RisesFrom b ys → SameMembers xs ys → xs ≡ ys
same_list b [] [] up_x up_y same = refl
same_list b [] (y ∷ ys) up_x up_y same = absurd (false≢true (same y ∙ head_there y ys))
same_list b (x ∷ xs) [] up_x up_y same = absurd (false≢true (sym (same x) ∙ head_there x xs))
same_list b (x ∷ xs) (y ∷ ys) up_x up_y same =
    elim (cases_order x y) [
      | inl e ↦ equal e (λ up_y' same'. same_list (x + 1) xs ys up_x.1 up_y' same')
      | inr (inl lt) ↦ absurd (too_low x y xs ys up_y.1 same lt)
      | inr (inr gt) ↦ absurd (too_low y x ys xs up_x.1 (λ k. sym (same k)) gt)
    ]
  where
    equal : x ≡ y → (RisesFrom (x + 1) ys → SameMembers xs ys → xs ≡ ys) → x ∷ xs ≡ y ∷ ys
    equal e recurse =
        let up = rw (← e) at up_y.1 in
        let both = rw (← e) at same in
        ap (λ z. z ∷ xs) e ∙ ap (λ l. y ∷ l) (recurse up (tails x xs ys up_x.1 up both))

fades : (b : Bool) → (b && false) ≡ false
fades true = refl
fades false = refl

pub is_member-filter : (p : ℕ → Bool) (xs : List ℕ) (k : ℕ) → is_member (filter p xs) k ≡ (is_member xs k && p k)
is_member-filter p [] k = refl
is_member-filter p (x ∷ xs) k =
    elim (cases_eq x k) [
      | inl e ↦ here e (is_member-filter p xs k)
      | inr ne ↦ elim (cases_Bool (p x)) [
        | inl t ↦ rw (t, ne_eqb x k ne) (is_member-filter p xs k)
        | inr f ↦ rw (f, ne_eqb x k ne) (is_member-filter p xs k)
      ]
    ]
  where
    here : x ≡ k → is_member (filter p xs) k ≡ (is_member xs k && p k) → is_member (cond (p x) (x ∷ filter p xs) (filter p xs)) k ≡ ((x == k || is_member xs k) && p k)
    here e ih = elim (cases_Bool (p x)) [
      | inl t ↦ (let pk = rw e at t in rw (t, eq-eqb x k e, pk))
      | inr f ↦ (let pk = rw e at f in rw (f, eq-eqb x k e, pk) (ih ∙ rw pk (fades (is_member xs k))))
    ]

pub rises-range : (a n : ℕ) → RisesFrom a (range_with_len a n)
rises-range a zero = tt
rises-range a (suc n) = (omega arith, rises-range (a + 1) n)

-- a filter of a rising list rises
pub rises-filter : (p : ℕ → Bool) (b : ℕ) (xs : List ℕ) → RisesFrom b xs → RisesFrom b (filter p xs)
rises-filter p b [] rises = tt
rises-filter p b (x ∷ xs) rises =
    elim (cases_Bool (p x)) [
      | inl t ↦ rw t (rises.0, rises-filter p (x + 1) xs rises.1)
      | inr f ↦ rw f (lower (x + 1) b (filter p xs) (omega (arith, rises.0)) (rises-filter p (x + 1) xs rises.1))
    ]
  where
    lower : (c a : ℕ) (ys : List ℕ) → a ≤ c → RisesFrom c ys → RisesFrom a ys
    lower c a [] le rises = tt
    lower c a (y ∷ ys) le rises = (omega (arith, rises.0), rises.1)

pub is_member-range : (a n k : ℕ) → is_member (range_with_len a n) k ≡ (nat_le a k && nat_lt k (a + n))
is_member-range a zero k =
    elim (cases_lt k a) [
      | inl lt ↦ rw (lt-leb a k lt)
      | inr ge ↦ rw (le-leb a k ge, le-ltb k (a + 0) (omega arith))
    ]
is_member-range a (suc n) k =
    let e : a + 1 + n ≡ a + suc n = omega arith in
    elim (cases_order a k) [
      | inl same ↦ rw (eq-eqb a k same, le-leb a k (omega (arith, same)), lt-ltb k (a + suc n) (omega (arith, same)))
      | inr (inl lt) ↦ rw (ne_eqb a k (λ q. omega (arith, q)), is_member-range (a + 1) n k, le-leb (a + 1) k (omega arith), le-leb a k (omega arith), e)
      | inr (inr gt) ↦ rw (ne_eqb a k (λ q. omega (arith, q)), is_member-range (a + 1) n k, lt-leb (a + 1) k (omega arith), lt-leb a k gt)
    ]

-- the members of a cut rise
pub members_rise : (cut : Cut) → IsStrictlyIncreasing (keys_of (pairs_of_cut cut))
members_rise cut = cut_rises cut
