-- Cuts put together, and the keys of odd serials.
use Rattle.std.proofs.Common.{◌≡◌, ◌⊎◌, ℕ, zero, suc, ◌+◌, ◌-◌, ◌%◌, ◌<◌, ◌≤◌, Bool, true, false, eqb, leb, ltb, ◌&&◌, if◌then◌else◌, List, [], ◌∷◌, ◌++◌, length, get_or, filter, append_assoc, sym, refl, ap, ◌∙◌, arith}
use Rattle.std.specs.List.{range_with_len}
use Rattle.std.proofs.lemmas.List.{append-nil, get_or_append_left, get_or-append_right}
use Rattle.std.proofs.lemmas.Bool.{le-leb, lt-ltb, le-ltb}
use Rattle.std.proofs.lemmas.List.Elements.{filter-append}
use mathlib.Core.Option.{some, some-injective, some-ne-none}
use lib.ListN.{get_elem?}
use Rattle.aug_core.specs.Cuts.{Cut, weight_at, set_of_cut, pairs_of_cut}
use Rattle.aug_model.specs.Keys.{pairs_of}
use Rattle.aug_model.specs.Queries.{range_of, weighted_range_of}
use Rattle.aug_model.proofs.Pairs.{pairs_of-append, range-pairs_of}

-- ---- places of lists

pub read : {A : Type 0} (l : List A) (i : ℕ) (d a : A) → get_elem? l i ≡ some a → get_or l i d ≡ a
read [] i d a e = absurd (some-ne-none a (sym e))
read (x ∷ xs) zero d a e = some-injective x a e
read (x ∷ xs) (suc i) d a e = read xs i d a e

pub at_or : {A : Type 0} (l : List A) (i : ℕ) (d : A) → i < length l → get_elem? l i ≡ some (get_or l i d)
at_or [] i d h = absurd (omega arith)
at_or (x ∷ xs) zero d h = refl
at_or (x ∷ xs) (suc i) d h = at_or xs i d (omega arith)

pub range_split : (m n a b : ℕ) → a + m ≡ b → range_with_len a (m + n) ≡ range_with_len a m ++ range_with_len b n
range_split zero n a b is = let e : a ≡ b = omega arith in let z : zero + n ≡ n = omega arith in ap (range_with_len a) z ∙ ap (λ (k : ℕ). range_with_len k n) e
range_split (suc m) n a b is = let z : suc m + n ≡ suc (m + n) = omega arith in ap (range_with_len a) z ∙ ap (λ (k : List ℕ). a ∷ k) (range_split m n (a + 1) b (omega arith))

-- ---- cuts put together

-- each key's serial is less in the first, or serial and weight are the same
abbrev pub Below : Cut → Cut → Type 0
Below c d = (key : ℕ) → ((get_or c key (0, 0)).0 < (get_or d key (0, 0)).0) ⊎ (get_or c key (0, 0) ≡ get_or d key (0, 0))

pub below_append : (a b c d : Cut) → length a ≡ length c → Below a c → Below b d → Below (a ++ b) (c ++ d)
below_append [] b [] d long h k key = k key
below_append [] b (y ∷ ys) d long h k key = absurd (omega arith)
below_append (x ∷ xs) b [] d long h k key = absurd (omega arith)
below_append (x ∷ xs) b (y ∷ ys) d long h k zero = h 0
below_append (x ∷ xs) b (y ∷ ys) d long h k (suc key) = below_append xs b ys d (omega arith) (λ i. h (suc i)) k key

-- ---- the keys of odd serials

abbrev pub key_if_odd : ℕ → ℕ → List ℕ
key_if_odd key serial = if eqb (serial % 2) 1 then key ∷ [] else []

-- the keys whose serial is odd, where the first serial is this key's
abbrev pub odd_keys : ℕ → Cut → List ℕ
odd_keys start [] = []
odd_keys start (n ∷ cut) = key_if_odd start n.0 ++ odd_keys (start + 1) cut

pub odd_keys-append : (c d : Cut) (start next : ℕ) → start + length c ≡ next → odd_keys start (c ++ d) ≡ odd_keys start c ++ odd_keys next d
odd_keys-append [] d start next is = let e : start ≡ next = omega arith in ap (λ (z : ℕ). odd_keys z d) e
odd_keys-append (n ∷ c) d start next is = ap (λ (z : List ℕ). key_if_odd start n.0 ++ z) (odd_keys-append c d (start + 1) next (omega arith)) ∙ sym (append_assoc (key_if_odd start n.0) (odd_keys (start + 1) c) (odd_keys next d))

either : (b : Bool) (x : ℕ) (r : List ℕ) → (if b then x ∷ r else r) ≡ (if b then x ∷ [] else []) ++ r
either true x r = refl
either false x r = refl

pub filter_odd : (f : ℕ → ℕ) (cut : Cut) (start : ℕ) → ((k : ℕ) → k < length cut → f (start + k) ≡ (get_or cut k (0, 0)).0) → filter (λ key. eqb (f key % 2) 1) (range_with_len start (length cut)) ≡ odd_keys start cut
filter_odd f [] start h = refl
filter_odd f (n ∷ cut) start h =
    let e : start + 0 ≡ start = omega arith in let head : f start ≡ n.0 = ap f (sym e) ∙ h 0 (omega arith) in
    let tail = filter_odd f cut (start + 1) (λ k low. let e : start + 1 + k ≡ start + suc k = omega arith in ap f e ∙ h (suc k) (omega arith)) in
    let rest : List ℕ = filter (λ key. eqb (f key % 2) 1) (range_with_len (start + 1) (length cut)) in
    either (eqb (f start % 2) 1) start rest ∙ (λ j. key_if_odd start (head j) ++ tail j)

pub set_is : (cut : Cut) → set_of_cut cut ≡ odd_keys 0 cut
set_is cut = filter_odd (λ key. (get_or cut key (0, 0)).0) cut 0 (λ k low. let e : 0 + k ≡ k = omega arith in ap (λ (z : ℕ). (get_or cut z (0, 0)).0) e)

keep_one : (p : ℕ → Bool) (b : Bool) (x : ℕ) → p x ≡ true → filter p (if b then x ∷ [] else []) ≡ (if b then x ∷ [] else [])
keep_one p true x is = ap (λ (z : Bool). if z then x ∷ [] else []) is
keep_one p false x is = refl

drop_one : (p : ℕ → Bool) (b : Bool) (x : ℕ) → p x ≡ false → filter p (if b then x ∷ [] else []) ≡ []
drop_one p true x is = ap (λ (z : Bool). if z then x ∷ [] else []) is
drop_one p false x is = refl

keep_all : (p : ℕ → Bool) (c : Cut) (start : ℕ) → ((k : ℕ) → start ≤ k → k < start + length c → p k ≡ true) → filter p (odd_keys start c) ≡ odd_keys start c
keep_all p [] start h = refl
keep_all p (n ∷ c) start h = let one = keep_one p (eqb (n.0 % 2) 1) start (h start (omega arith) (omega arith)) in let rest = keep_all p c (start + 1) (λ k le lt. h k (omega arith) (omega arith)) in
    filter-append p (key_if_odd start n.0) (odd_keys (start + 1) c) ∙ (λ j. one j ++ rest j)

drop_all : (p : ℕ → Bool) (c : Cut) (start : ℕ) → ((k : ℕ) → start ≤ k → k < start + length c → p k ≡ false) → filter p (odd_keys start c) ≡ []
drop_all p [] start h = refl
drop_all p (n ∷ c) start h = let one = drop_one p (eqb (n.0 % 2) 1) start (h start (omega arith) (omega arith)) in let rest = drop_all p c (start + 1) (λ k le lt. h k (omega arith) (omega arith)) in
    filter-append p (key_if_odd start n.0) (odd_keys (start + 1) c) ∙ (λ j. one j ++ rest j)

abbrev Test : ℕ → ℕ → ℕ → Bool
Test a b x = leb a x && ltb x b

inside : (a b k : ℕ) → a ≤ k → k < b → Test a b k ≡ true
inside a b k le lt = λ j. le-leb a k le j && lt-ltb k b lt j

before_it : (a b k : ℕ) → k < a → Test a b k ≡ false
before_it a b k lt = ap (λ (z : Bool). z && ltb k b) (lt-leb a k lt)
  where
    lt-leb : (a k : ℕ) → k < a → leb a k ≡ false
    lt-leb a k lt = grind arith

past_it : (a b k : ℕ) → a ≤ k → b ≤ k → Test a b k ≡ false
past_it a b k le past = λ j. le-leb a k le j && le-ltb k b past j

-- the keys of a cut in the range of one of its parts are those of the part
pub set_of_part : (cut before mid after : Cut) (a b : ℕ) → cut ≡ before ++ (mid ++ after) → length before ≡ a → a + length mid ≡ b → range_of (set_of_cut cut) a b ≡ odd_keys a mid
set_of_part cut before mid after a b is from to =
    let whole : set_of_cut cut ≡ odd_keys 0 before ++ (odd_keys a mid ++ odd_keys b after) = set_is cut ∙ ap (odd_keys 0) is ∙ odd_keys-append before (mid ++ after) 0 a (omega arith)
    ∙ ap (λ (z : List ℕ). odd_keys 0 before ++ z) (odd_keys-append mid after a b to) in
    let first = drop_all (Test a b) before 0 (λ k le lt. before_it a b k (omega arith)) in
    let second = keep_all (Test a b) mid a (λ k le lt. inside a b k le (omega arith)) in
    let third = drop_all (Test a b) after b (λ k le lt. past_it a b k (omega arith) le) in
    ap (filter (Test a b)) whole ∙ filter-append (Test a b) (odd_keys 0 before) (odd_keys a mid ++ odd_keys b after) ∙ (λ j. first j ++ filter-append (Test a b) (odd_keys a mid) (odd_keys b after) j)
    ∙ (λ j. second j ++ third j) ∙ append-nil (odd_keys a mid)

-- ---- and with their weights

abbrev pub pair_if_odd : ℕ → ℕ × ℕ → List (ℕ × ℕ)
pair_if_odd key n = if eqb (n.0 % 2) 1 then (key, n.1) ∷ [] else []

abbrev pub odd_pairs : ℕ → Cut → List (ℕ × ℕ)
odd_pairs start [] = []
odd_pairs start (n ∷ cut) = pair_if_odd start n ++ odd_pairs (start + 1) cut

pub odd_pairs-append : (c d : Cut) (start next : ℕ) → start + length c ≡ next → odd_pairs start (c ++ d) ≡ odd_pairs start c ++ odd_pairs next d
odd_pairs-append [] d start next is = let e : start ≡ next = omega arith in ap (λ (z : ℕ). odd_pairs z d) e
odd_pairs-append (n ∷ c) d start next is = ap (λ (z : List (ℕ × ℕ)). pair_if_odd start n ++ z) (odd_pairs-append c d (start + 1) next (omega arith)) ∙ sym (append_assoc (pair_if_odd start n) (odd_pairs (start + 1) c) (odd_pairs next d))

one_weighed : (b : Bool) (weight : ℕ → ℕ) (key w : ℕ) → weight key ≡ w → (if b then (key, w) ∷ [] else []) ≡ pairs_of weight (if b then key ∷ [] else [])
one_weighed true weight key w is = λ i. (key, sym is i) ∷ []
one_weighed false weight key w is = refl

-- they are the keys with the weights that a function gives, where it gives those of the cut
pub odd_weighed : (weight : ℕ → ℕ) (cut : Cut) (start : ℕ) → ((k : ℕ) → k < length cut → weight (start + k) ≡ (get_or cut k (0, 0)).1) → odd_pairs start cut ≡ pairs_of weight (odd_keys start cut)
odd_weighed weight [] start h = refl
odd_weighed weight (n ∷ cut) start h =
    let e : start + 0 ≡ start = omega arith in
    let head : weight start ≡ n.1 = ap weight (sym e) ∙ h 0 (omega arith) in
    let tail = odd_weighed weight cut (start + 1) (λ k low. let e : start + 1 + k ≡ start + suc k = omega arith in ap weight e ∙ h (suc k) (omega arith)) in
    (λ j. one_weighed (eqb (n.0 % 2) 1) weight start n.1 head j ++ tail j) ∙ sym (pairs_of-append weight (key_if_odd start n.0) (odd_keys (start + 1) cut))

-- what a part of a cut shows of a key
pub part_of_cut : (before mid after : Cut) (a k : ℕ) → length before ≡ a → k < length mid → get_or (before ++ (mid ++ after)) (a + k) (0, 0) ≡ get_or mid k (0, 0)
part_of_cut before mid after a k from low =
    let back : a + k - a ≡ k = omega arith in
    get_or-append_right before (mid ++ after) a (a + k) (0, 0) from (omega arith) ∙ ap (λ (z : ℕ). get_or (mid ++ after) z (0, 0)) back ∙ get_or_append_left mid after (0, 0) k low

-- the pairs of a part of a cut are those of the cut that lie in its range
pub pairs_of_part : (cut before mid after : Cut) (a b : ℕ) → cut ≡ before ++ (mid ++ after) → length before ≡ a → a + length mid ≡ b → weighted_range_of (pairs_of_cut cut) a b ≡ odd_pairs a mid
pairs_of_part cut before mid after a b is from to =
    let weighs : (k : ℕ) → k < length mid → weight_at cut (a + k) ≡ (get_or mid k (0, 0)).1 = λ k low. ap (λ (z : Cut). (get_or z (a + k) (0, 0)).1) is ∙ ap (λ (z : ℕ × ℕ). z.1) (part_of_cut before mid after a k from low) in
    range-pairs_of (weight_at cut) (set_of_cut cut) a b ∙ ap (pairs_of (weight_at cut)) (set_of_part cut before mid after a b is from to) ∙ sym (odd_weighed (weight_at cut) mid a weighs)
