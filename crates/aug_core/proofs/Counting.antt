-- How many elements of a list pass a test.
use Rattle.std.proofs.Common.{◌≡◌, ◌≢◌, ℕ, zero, suc, ◌+◌, ◌≤◌, Bool, true, false, cond, ◌&&◌, List, [], ◌∷◌, ◌++◌, length, filter, flat_map, map, All, length-append, sym, refl, ap, ◌∙◌, subst, ⊎_elim, arith}
use Rattle.std.proofs.lemmas.Bool.{cases_Bool, false≢true}
use Rattle.std.proofs.lemmas.List.Elements.{filter-append, All-get_or, All-cons, All-nil}
use mathlib.Core.Option.{some, some-injective, some-ne-none}
use lib.ListN.{get_elem?}
use Rattle.aug_core.proofs.Books.{at_below}
use Rattle.aug_core.proofs.CutLists.{read}

pub and_left : (a b : Bool) → (a && b) ≡ true → a ≡ true
and_left true b e = refl
and_left false b e = e

pub and_right : (a b : Bool) → (a && b) ≡ true → b ≡ true
and_right true b e = e
and_right false b e = absurd (false≢true e)

module _ {X : Type 0} (p : X → Bool) where
  abbrev pub hits : List X → ℕ
  hits xs = length (filter p xs)

  pub hits-append : (xs ys : List X) → hits (xs ++ ys) ≡ hits xs + hits ys
  hits-append xs ys = ap length (filter-append p xs ys) ∙ length-append (filter p xs) (filter p ys)

  pub hits_yes : (x : X) (xs : List X) → p x ≡ true → hits (x ∷ xs) ≡ suc (hits xs)
  hits_yes x xs e = ap (λ (b : Bool). length (cond b (x ∷ filter p xs) (filter p xs))) e

  pub hits_no : (x : X) (xs : List X) → p x ≡ false → hits (x ∷ xs) ≡ hits xs
  hits_no x xs e = ap (λ (b : Bool). length (cond b (x ∷ filter p xs) (filter p xs))) e

  pub hits_none : (xs : List X) → ((k : ℕ) (x : X) → get_elem? xs k ≡ some x → p x ≡ true → ⊥) → hits xs ≡ 0
  hits_none [] h = refl
  hits_none (x ∷ xs) h = ⊎_elim (λ good. absurd (h 0 x refl good)) (λ bad. hits_no x xs bad ∙ hits_none xs (λ k y at. h (suc k) y at)) (cases_Bool (p x))

  pub hits_one : (xs : List X) (a : ℕ) (x : X) → get_elem? xs a ≡ some x → p x ≡ true → ((k : ℕ) (y : X) → get_elem? xs k ≡ some y → p y ≡ true → k ≡ a) → hits xs ≡ 1
  hits_one [] a x at good only = absurd (some-ne-none x (sym at))
  hits_one (y ∷ ys) zero x at good only = let py : p y ≡ true = ap p (some-injective y x at) ∙ good in
      hits_yes y ys py ∙ ap suc (hits_none ys (λ k z at' pz. let e : suc k ≡ 0 = only (suc k) z at' pz in absurd (omega arith)))
  hits_one (y ∷ ys) (suc a) x at good only = ⊎_elim
      (λ py. let e : 0 ≡ suc a = only 0 y refl py in absurd (omega arith))
      (λ bad. hits_no y ys bad ∙ hits_one ys a x at good (λ k z at' pz. let e : suc k ≡ suc a = only (suc k) z at' pz in omega arith)) (cases_Bool (p y))

  pub hits_all : (xs : List X) → ((k : ℕ) (x : X) → get_elem? xs k ≡ some x → p x ≡ true) → hits xs ≡ length xs
  hits_all [] h = refl
  hits_all (x ∷ xs) h = hits_yes x xs (h 0 x refl) ∙ ap suc (hits_all xs (λ k y at. h (suc k) y at))

  pub filter_shorter : (xs : List X) → hits xs ≤ length xs
  filter_shorter [] = omega arith
  filter_shorter (x ∷ xs) = let rest = filter_shorter xs in ⊎_elim
      (λ good. let e = hits_yes x xs good in omega arith) (λ bad. let e = hits_no x xs bad in omega arith) (cases_Bool (p x))

  module _ {Y : Type 0} (f : Y → List X) where
    pub flat_none : (ys : List Y) → ((k : ℕ) (y : Y) → get_elem? ys k ≡ some y → hits (f y) ≡ 0) → hits (flat_map f ys) ≡ 0
    flat_none [] h = refl
    flat_none (y ∷ ys) h = let one = h 0 y refl in let rest = flat_none ys (λ k z at. h (suc k) z at) in hits-append (f y) (flat_map f ys) ∙ (let e : hits (f y) + hits (flat_map f ys) ≡ 0 = omega arith in e)

    pub flat_one : (ys : List Y) (a : ℕ) (y : Y) → get_elem? ys a ≡ some y → hits (f y) ≡ 1 → ((k : ℕ) (z : Y) → get_elem? ys k ≡ some z → k ≢ a → hits (f z) ≡ 0) → hits (flat_map f ys) ≡ 1
    flat_one [] a y at one other = absurd (some-ne-none y (sym at))
    flat_one (z ∷ zs) zero y at one other = let here : hits (f z) ≡ 1 = ap (λ (x : Y). hits (f x)) (some-injective z y at) ∙ one in
        let rest = flat_none zs (λ k x at'. other (suc k) x at' (λ e. absurd (omega arith))) in hits-append (f z) (flat_map f zs) ∙ (let e : hits (f z) + hits (flat_map f zs) ≡ 1 = omega arith in e)
    flat_one (z ∷ zs) (suc a) y at one other = let here = other 0 z refl (λ e. absurd (omega arith)) in
        let rest = flat_one zs a y at one (λ k x at' ne. other (suc k) x at' (λ e. ne (omega arith))) in hits-append (f z) (flat_map f zs) ∙ (let e : hits (f z) + hits (flat_map f zs) ≡ 1 = omega arith in e)

-- a test after another
module _ {X : Type 0} (p q : X → Bool) where
  pub twice_same : ((x : X) → p x ≡ true → q x ≡ true) → (xs : List X) → hits p (filter q xs) ≡ hits p xs
  twice_same h [] = refl
  twice_same h (x ∷ xs) = ⊎_elim
      (λ good. ap (λ (b : Bool). hits p (cond b (x ∷ filter q xs) (filter q xs))) (h x good) ∙ hits_yes p x (filter q xs) good ∙ ap suc (twice_same h xs) ∙ sym (hits_yes p x xs good))
      (λ bad. ⊎_elim
      (λ qy. ap (λ (b : Bool). hits p (cond b (x ∷ filter q xs) (filter q xs))) qy ∙ hits_no p x (filter q xs) bad ∙ twice_same h xs ∙ sym (hits_no p x xs bad))
      (λ qn. ap (λ (b : Bool). hits p (cond b (x ∷ filter q xs) (filter q xs))) qn ∙ twice_same h xs ∙ sym (hits_no p x xs bad)) (cases_Bool (q x))) (cases_Bool (p x))

  pub twice_none : ((x : X) → p x ≡ true → q x ≡ false) → (xs : List X) → hits p (filter q xs) ≡ 0
  twice_none h [] = refl
  twice_none h (x ∷ xs) = ⊎_elim
      (λ good. ap (λ (b : Bool). hits p (cond b (x ∷ filter q xs) (filter q xs))) (h x good) ∙ twice_none h xs)
      (λ bad. ⊎_elim
      (λ qy. ap (λ (b : Bool). hits p (cond b (x ∷ filter q xs) (filter q xs))) qy ∙ hits_no p x (filter q xs) bad ∙ twice_none h xs)
      (λ qn. ap (λ (b : Bool). hits p (cond b (x ∷ filter q xs) (filter q xs))) qn ∙ twice_none h xs) (cases_Bool (q x))) (cases_Bool (p x))

  pub twice_less : (xs : List X) → hits p (filter q xs) ≤ hits p xs
  twice_less [] = omega arith
  twice_less (x ∷ xs) = let rest = twice_less xs in ⊎_elim
      (λ qy. let e : hits p (filter q (x ∷ xs)) ≡ hits p (x ∷ filter q xs) = ap (λ (b : Bool). hits p (cond b (x ∷ filter q xs) (filter q xs))) qy in ⊎_elim
      (λ good. let a = hits_yes p x (filter q xs) good in let b = hits_yes p x xs good in omega arith)
      (λ bad. let a = hits_no p x (filter q xs) bad in let b = hits_no p x xs bad in omega arith) (cases_Bool (p x)))
      (λ qn. let e : hits p (filter q (x ∷ xs)) ≡ hits p (filter q xs) = ap (λ (b : Bool). hits p (cond b (x ∷ filter q xs) (filter q xs))) qn in ⊎_elim
      (λ good. let b = hits_yes p x xs good in omega arith)
      (λ bad. let b = hits_no p x xs bad in omega arith) (cases_Bool (p x))) (cases_Bool (q x))

-- ---- places of lists

-- the element stands somewhere in the list
abbrev pub IsIn : {X : Type 0} → List X → X → Type 0
IsIn xs x = (j : ℕ) × (get_elem? xs j ≡ some x)

-- what passes the test is in the filtered list
pub filter_place : {X : Type 0} (q : X → Bool) (xs : List X) (k : ℕ) (x : X) → get_elem? xs k ≡ some x → q x ≡ true → IsIn (filter q xs) x
filter_place q [] k x at good = absurd (some-ne-none x (sym at))
filter_place q (y ∷ ys) zero x at good = let e : q y ≡ true = ap q (some-injective y x at) ∙ good in (0, ap (λ (b : Bool). get_elem? (cond b (y ∷ filter q ys) (filter q ys)) 0) e ∙ at)
filter_place q (y ∷ ys) (suc k) x at good = behind (q y) (filter_place q ys k x at good)
  where
    behind : (b : Bool) → IsIn (filter q ys) x → IsIn (cond b (y ∷ filter q ys) (filter q ys)) x
    behind true t = (suc t.0, t.1)
    behind false t = t

pub at_longer : {X : Type 0} (xs ys : List X) (i : ℕ) (x : X) → get_elem? xs i ≡ some x → get_elem? (xs ++ ys) i ≡ some x
at_longer [] ys i x at = absurd (some-ne-none x (sym at))
at_longer (y ∷ xs) ys zero x at = at
at_longer (y ∷ xs) ys (suc i) x at = at_longer xs ys i x at

pub at_after : {X : Type 0} (xs ys : List X) (j : ℕ) (x : X) → get_elem? ys j ≡ some x → get_elem? (xs ++ ys) (length xs + j) ≡ some x
at_after [] ys j x at = let e : 0 + j ≡ j = omega arith in subst (λ (z : ℕ). get_elem? ys z ≡ some x) (sym e) at
at_after (y ∷ xs) ys j x at = let e : suc (length xs) + j ≡ suc (length xs + j) = omega arith in subst (λ (z : ℕ). get_elem? (y ∷ (xs ++ ys)) z ≡ some x) (sym e) (at_after xs ys j x at)

pub flat_place : {X Y : Type 0} (f : Y → List X) (ys : List Y) (a k : ℕ) (y : Y) (x : X) → get_elem? ys a ≡ some y → get_elem? (f y) k ≡ some x → IsIn (flat_map f ys) x
flat_place f [] a k y x at there = absurd (some-ne-none y (sym at))
flat_place {X} {Y} f (z ∷ zs) zero k y x at there = (k, at_longer (f z) (flat_map f zs) k x (subst (λ (w : Y). get_elem? (f w) k ≡ some x) (sym (some-injective z y at)) there))
flat_place f (z ∷ zs) (suc a) k y x at there = let t = flat_place f zs a k y x at there in (length (f z) + t.0, at_after (f z) (flat_map f zs) t.0 x t.1)

pub all_at : {X : Type 0} (P : X → Type 0) (xs : List X) (i : ℕ) (x : X) → All P xs → get_elem? xs i ≡ some x → P x
all_at P xs i x all at = subst P (read xs i x x at) (All-get_or P xs i x (at_below xs i x at) all)

pub all_map : {X Y : Type 0} (P : X → Type 0) (f : Y → X) (ys : List Y) → ((k : ℕ) (y : Y) → get_elem? ys k ≡ some y → P (f y)) → All P (map f ys)
all_map P f [] h = All-nil P
all_map P f (y ∷ ys) h = All-cons P (f y) (map f ys) (h 0 y refl) (all_map P f ys (λ k z at. h (suc k) z at))

pub map_at : {X Y : Type 0} (f : Y → X) (ys : List Y) (k : ℕ) (x : X) → get_elem? (map f ys) k ≡ some x → (y : Y) × (get_elem? ys k ≡ some y) × (f y ≡ x)
map_at f [] k x at = absurd (some-ne-none x (sym at))
map_at f (y ∷ ys) zero x at = (y, refl, some-injective (f y) x at)
map_at f (y ∷ ys) (suc k) x at = map_at f ys k x at

pub at_map : {X Y : Type 0} (f : Y → X) (ys : List Y) (k : ℕ) (y : Y) → get_elem? ys k ≡ some y → get_elem? (map f ys) k ≡ some (f y)
at_map f [] k y at = absurd (some-ne-none y (sym at))
at_map f (z ∷ zs) zero y at = ap (λ w. some (f w)) (some-injective z y at)
at_map f (z ∷ zs) (suc k) y at = at_map f zs k y at
