-- What a filter keeps of a list, where the places at which its test passes are known.
use Rattle.std.proofs.Common.{◌≡◌, ℕ, zero, suc, ◌+◌, ◌-◌, ◌<◌, ◌≤◌, Bool, true, false, List, [], ◌∷◌, ◌++◌, length, get_or, take, drop, filter, find, slice_get, if◌then◌else◌, refl, ap, ◌∙◌, arith}
use Rattle.std.proofs.lemmas.List.{take_rest}
use Rattle.aug_model.specs.Keys.{keys_of}

take-nil : (n : ℕ) → take {A = ℕ} n [] ≡ []
take-nil zero = refl
take-nil (suc n) = refl

drop-nil : (n : ℕ) → drop {A = ℕ} n [] ≡ []
drop-nil zero = refl
drop-nil (suc n) = refl

take-nil_of : (n : ℕ) → take {A = ℕ × ℕ} n [] ≡ []
take-nil_of zero = refl
take-nil_of (suc n) = refl

drop-nil_of : (n : ℕ) → drop {A = ℕ × ℕ} n [] ≡ []
drop-nil_of zero = refl
drop-nil_of (suc n) = refl

-- the test p passes at the n places from a on, and at no other
pub record PassesBetween (p : ℕ → Bool) (xs : List ℕ) (a n : ℕ) : Type 0 where
  pub before : (j : ℕ) → j < length xs → j < a → p (get_or xs j 0) ≡ false
  pub between : (j : ℕ) → j < length xs → a ≤ j → j < a + n → p (get_or xs j 0) ≡ true
  pub behind : (j : ℕ) → j < length xs → a + n ≤ j → p (get_or xs j 0) ≡ false

pub filter-between : (p : ℕ → Bool) (xs : List ℕ) (a n : ℕ) → PassesBetween p xs a n → filter p xs ≡ take n (drop a xs)
filter-between p [] a n h = rw (drop-nil a, take-nil n)
filter-between p (x ∷ xs) zero zero h =
    rw (h.behind 0 (omega arith) (omega arith)) (filter-between p xs zero zero (record {
      before = λ j l q. absurd (omega arith);
      between = λ j l q r. absurd (omega arith);
      behind = λ j l q. h.behind (suc j) (omega arith) (omega arith);
    }))
filter-between p (x ∷ xs) zero (suc n) h =
    rw (h.between 0 (omega arith) (omega arith) (omega arith)) (ap (λ l. x ∷ l) (filter-between p xs zero n (record {
      before = λ j l q. absurd (omega arith);
      between = λ j l q r. h.between (suc j) (omega arith) (omega arith) (omega arith);
      behind = λ j l q. h.behind (suc j) (omega arith) (omega arith);
    })))
filter-between p (x ∷ xs) (suc a) n h =
    rw (h.before 0 (omega arith) (omega arith)) (filter-between p xs a n (record {
      before = λ j l q. h.before (suc j) (omega arith) (omega arith);
      between = λ j l q r. h.between (suc j) (omega arith) (omega arith) (omega arith);
      behind = λ j l q. h.behind (suc j) (omega arith) (omega arith);
    }))

pub filter-front : (p : ℕ → Bool) (xs : List ℕ) (n : ℕ) → PassesBetween p xs 0 n → filter p xs ≡ take n xs
filter-front p xs n h = filter-between p xs 0 n h

pub filter-back : (p : ℕ → Bool) (xs : List ℕ) (a : ℕ) → PassesBetween p xs a (length xs - a) → filter p xs ≡ drop a xs
filter-back p xs a h = filter-between p xs a (length xs - a) h ∙ take_rest xs a

-- the test p passes at the place i alone, if the list has one
pub find-at : (p : ℕ → Bool) (xs : List ℕ) (i : ℕ) → (i < length xs → p (get_or xs i 0) ≡ true)
    → ((j : ℕ) → j < length xs → (j ≡ i → ⊥) → p (get_or xs j 0) ≡ false) → find p xs ≡ slice_get xs i
find-at p [] i at other = refl
find-at p (x ∷ xs) zero at other = rw (at (omega arith))
find-at p (x ∷ xs) (suc i) at other =
    rw (other 0 (omega arith) (λ e. omega arith)) (find-at p xs i (λ l. at (omega arith)) (λ j l ne. other (suc j) (omega arith) (λ e. ne (omega arith))))

-- the same of pairs, where the test is of their keys
pub filter-between_pairs : (p : ℕ → Bool) (xs : List (ℕ × ℕ)) (a n : ℕ) → PassesBetween p (keys_of xs) a n → filter (λ x. p x.0) xs ≡ take n (drop a xs)
filter-between_pairs p [] a n h = rw (drop-nil_of a, take-nil_of n)
filter-between_pairs p (x ∷ xs) zero zero h =
    rw (h.behind 0 (omega arith) (omega arith)) (filter-between_pairs p xs zero zero (record {
      before = λ j l q. absurd (omega arith);
      between = λ j l q r. absurd (omega arith);
      behind = λ j l q. h.behind (suc j) (omega arith) (omega arith);
    }))
filter-between_pairs p (x ∷ xs) zero (suc n) h =
    rw (h.between 0 (omega arith) (omega arith) (omega arith)) (ap (λ l. x ∷ l) (filter-between_pairs p xs zero n (record {
      before = λ j l q. absurd (omega arith);
      between = λ j l q r. h.between (suc j) (omega arith) (omega arith) (omega arith);
      behind = λ j l q. h.behind (suc j) (omega arith) (omega arith);
    })))
filter-between_pairs p (x ∷ xs) (suc a) n h =
    rw (h.before 0 (omega arith) (omega arith)) (filter-between_pairs p xs a n (record {
      before = λ j l q. h.before (suc j) (omega arith) (omega arith);
      between = λ j l q r. h.between (suc j) (omega arith) (omega arith) (omega arith);
      behind = λ j l q. h.behind (suc j) (omega arith) (omega arith);
    }))

-- the test of keys passes at every place
pub filter-all_pairs : (p : ℕ → Bool) (xs : List (ℕ × ℕ)) → ((j : ℕ) → j < length (keys_of xs) → p (get_or (keys_of xs) j 0) ≡ true) → filter (λ x. p x.0) xs ≡ xs
filter-all_pairs p [] h = refl
filter-all_pairs p (x ∷ xs) h = rw (h 0 (omega arith)) (ap (λ l. x ∷ l) (filter-all_pairs p xs (λ j l. h (suc j) (omega arith))))

-- and at every place but i
pub filter-but_pairs : (p : ℕ → Bool) (xs : List (ℕ × ℕ)) (i : ℕ) → i < length (keys_of xs) → p (get_or (keys_of xs) i 0) ≡ false
    → ((j : ℕ) → j < length (keys_of xs) → (j ≡ i → ⊥) → p (get_or (keys_of xs) j 0) ≡ true) → filter (λ x. p x.0) xs ≡ take i xs ++ drop (suc i) xs
filter-but_pairs p [] i within at other = absurd (omega arith)
filter-but_pairs p (x ∷ xs) zero within at other = rw at (filter-all_pairs p xs (λ j l. other (suc j) (omega arith) (λ e. omega arith)))
filter-but_pairs p (x ∷ xs) (suc i) within at other =
    rw (other 0 (omega arith) (λ e. omega arith)) (ap (λ l. x ∷ l) (filter-but_pairs p xs i (omega arith) at (λ j l ne. other (suc j) (omega arith) (λ e. ne (omega arith)))))

-- the keys of what a test of keys keeps
pub keys_of-filter : (p : ℕ → Bool) (xs : List (ℕ × ℕ)) → keys_of (filter (λ x. p x.0) xs) ≡ filter p (keys_of xs)
keys_of-filter p [] = refl
keys_of-filter p (x ∷ xs) = kept (p x.0) (keys_of-filter p xs)
  where
    kept : (b : Bool) → keys_of (filter (λ x'. p x'.0) xs) ≡ filter p (keys_of xs) → keys_of (if b then x ∷ filter (λ x'. p x'.0) xs else filter (λ x'. p x'.0) xs) ≡ (if b then x.0 ∷ filter p (keys_of xs) else filter p (keys_of xs))
    kept true e = ap (λ l. x.0 ∷ l) e
    kept false e = e
