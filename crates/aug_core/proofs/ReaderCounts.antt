-- How many readers there are and how many are answered for, after one view changes, comes, or is taken in.
use Rattle.std.proofs.Common.{true, false, ◌≡◌, ◌≢◌, inl, inr, ℕ, zero, suc, ◌+◌, ◌≤◌, Bool, if◌then◌else◌, eqb, eq-eqb, ne_eqb, List, [], ◌∷◌, ◌++◌, set, refl, sym, ap, ◌∙◌, subst, ⊎_elim, arith}
use Rattle.std.proofs.lemmas.Bool.{cases_eq}
use mathlib.Core.Option.{some, some-injective, some-ne-none}
use lib.ListN.{get_elem?}
use Rattle.atomic_table.proofs.Lists.{set_else}
use Rattle.aug_core.specs.Records.{Lists}
use Rattle.aug_core.specs.Effects.{on_first, spent}
use Rattle.aug_core.specs.Eras.{IsAtWork}
use Rattle.aug_core.specs.Readers.{total, times_in, reads_at, AreLent, lending, reader_of, without}
use Rattle.aug_core.specs.declared.view.Held.{Held}
use Rattle.aug_core.specs.declared.view.SeatView.{SeatView}

-- ---- sums over lists

module _ {A : Type 0} (f : A → ℕ) where
  pub total_set : (xs : List A) (i : ℕ) (x y : A) → get_elem? xs i ≡ some x → total f (set xs i y) + f x ≡ total f xs + f y
  total_set [] i x y at = absurd (some-ne-none x (sym at))
  total_set (z ∷ zs) zero x y at = let same : f z ≡ f x = ap f (some-injective z x at) in omega arith
  total_set (z ∷ zs) (suc i) x y at = let rest = total_set zs i x y at in omega arith

  pub total_both : (xs ys : List A) → total f (xs ++ ys) ≡ total f xs + total f ys
  total_both [] ys = omega arith
  total_both (x ∷ xs) ys = let rest = total_both xs ys in omega arith

  pub total_has : (xs : List A) (i : ℕ) (x : A) → get_elem? xs i ≡ some x → f x ≤ total f xs
  total_has [] i x at = absurd (some-ne-none x (sym at))
  total_has (z ∷ zs) zero x at = let same : f z ≡ f x = ap f (some-injective z x at) in omega arith
  total_has (z ∷ zs) (suc i) x at = let rest = total_has zs i x at in omega arith

  pub total_some : (xs : List A) → 1 ≤ total f xs → (i : ℕ) × (x : A) × (get_elem? xs i ≡ some x) × (1 ≤ f x)
  total_some [] has = absurd (omega arith)
  total_some (x ∷ xs) has = ⊎_elim
      (λ (is : f x ≡ 0). let t = total_some xs (omega arith) in (suc t.0, t.1, t.2, t.3))
      (λ ne. (0, x, refl, omega (arith, ne))) (cases_eq (f x) 0)

-- ---- how often a number stands in a list

abbrev one : Bool → ℕ
one b = if b then 1 else 0

one_yes : (x b : ℕ) → x ≡ b → one (eqb x b) ≡ 1
one_yes x b is = ap one (eq-eqb x b is)

one_no : (x b : ℕ) → x ≢ b → one (eqb x b) ≡ 0
one_no x b ne = ap one (ne_eqb x b ne)

pub times_some : (b : ℕ) (xs : List ℕ) → 1 ≤ times_in b xs → Lists xs b
times_some b xs has = let t = total_some (λ x. if eqb x b then 1 else 0) xs has in ⊎_elim
    (λ (is : t.1 ≡ b). (t.0, t.2 ∙ ap (λ (z : ℕ). some z) is))
    (λ ne. let none = one_no t.1 b ne in let some_one = t.3 in absurd (omega arith)) (cases_eq t.1 b)

pub times_without : (c b : ℕ) (xs : List ℕ) → times_in c xs ≤ times_in c (without b xs) + one (eqb b c)
times_without c b [] = omega arith
times_without c b (x ∷ xs) = ⊎_elim
    (λ (is : x ≡ b). let e : without b (x ∷ xs) ≡ xs = ap (λ (z : Bool). if z then xs else x ∷ without b xs) (eq-eqb x b is) in
    let f : times_in c (without b (x ∷ xs)) ≡ times_in c xs = ap (times_in c) e in let g : one (eqb x c) ≡ one (eqb b c) = ap (λ (z : ℕ). one (eqb z c)) is in omega arith)
    (λ ne. let e : without b (x ∷ xs) ≡ x ∷ without b xs = ap (λ (z : Bool). if z then xs else x ∷ without b xs) (ne_eqb x b ne) in
    let f : times_in c (without b (x ∷ xs)) ≡ times_in c (x ∷ without b xs) = ap (times_in c) e in let rest = times_without c b xs in omega arith) (cases_eq x b)

lists_next : (c x : ℕ) (xs ys : List ℕ) → (Lists ys c → Lists xs c) → (i : ℕ) → get_elem? (x ∷ ys) i ≡ some c → Lists (x ∷ xs) c
lists_next c x xs ys rest zero at = (0, at)
lists_next c x xs ys rest (suc i) at = let t = rest (i, at) in (suc t.0, t.1)

pub lists_without : (c b : ℕ) (xs : List ℕ) → Lists (without b xs) c → Lists xs c
lists_without c b [] t = absurd (some-ne-none c (sym t.1))
lists_without c b (x ∷ xs) t = ⊎_elim
    (λ (is : x ≡ b). let e : without b (x ∷ xs) ≡ xs = ap (λ (z : Bool). if z then xs else x ∷ without b xs) (eq-eqb x b is) in (suc t.0, subst (λ (z : List ℕ). get_elem? z t.0 ≡ some c) e t.1))
    (λ ne. let e : without b (x ∷ xs) ≡ x ∷ without b xs = ap (λ (z : Bool). if z then xs else x ∷ without b xs) (ne_eqb x b ne) in
    lists_next c x xs (without b xs) (λ s. lists_without c b xs s) t.0 (subst (λ (z : List ℕ). get_elem? z t.0 ≡ some c) e t.1)) (cases_eq x b)

-- ---- readers

module _ (views : List SeatView) (are : AreLent views) where
  -- for a reader somebody answers
  pub who_answers : (j : ℕ) (u : SeatView) → get_elem? views j ≡ some u → u.reads ≡ true → (k : ℕ) × (x : SeatView) × (get_elem? views k ≡ some x) × Lists x.lent u.base
  who_answers j u at does =
      let counts : reads_at u.base u ≡ 1 = ap (λ (z : Bool). if z then (if eqb u.base u.base then 1 else 0) else 0) does ∙ one_yes u.base u.base refl in
      let reads = total_has (reads_at u.base) views j u at in let few = are u.base in
      let t = total_some (λ (v : SeatView). times_in u.base v.lent) views (omega arith) in (t.0, t.1, t.2, times_some u.base t.1.lent t.3)

  -- one view changes, and answers for as many more as it reads more
  pub lent_set : (id : ℕ) (v u : SeatView) → get_elem? views id ≡ some v → ((b : ℕ) → reads_at b u + times_in b v.lent ≤ reads_at b v + times_in b u.lent) → AreLent (set views id u)
  lent_set id v u at more b = let r = total_set (reads_at b) views id v u at in let l = total_set (λ (z : SeatView). times_in b z.lent) views id v u at in let few = are b in let here = more b in omega arith

  -- as it does if it reads as it did, and answers for as many
  pub lent_same : (id : ℕ) (v u : SeatView) → get_elem? views id ≡ some v → u.reads ≡ v.reads → u.base ≡ v.base → u.lent ≡ v.lent → AreLent (set views id u)
  lent_same id v u at reads base lent = lent_set id v u at (λ b. let r : reads_at b u ≡ reads_at b v = (λ i. if reads i then (if eqb (base i) b then 1 else 0) else 0) in let l : times_in b u.lent ≡ times_in b v.lent = ap (times_in b) lent in omega arith)

  -- one view comes that does not read
  pub lent_more : (u : SeatView) → u.reads ≡ false → AreLent (views ++ u ∷ [])
  lent_more u reads b = let r = total_both (reads_at b) views (u ∷ []) in let l = total_both (λ (z : SeatView). times_in b z.lent) views (u ∷ []) in
      let none : reads_at b u ≡ 0 = ap (λ (z : Bool). if z then (if eqb u.base b then 1 else 0) else 0) reads in let few = are b in omega arith

  -- a view lends a reader
  pub lent_one : (id : ℕ) (v : SeatView) → get_elem? views id ≡ some v → AreLent (set views id (lending v) ++ reader_of v ∷ [])
  lent_one id v at b = let r = total_both (reads_at b) (set views id (lending v)) (reader_of v ∷ []) in let l = total_both (λ (z : SeatView). times_in b z.lent) (set views id (lending v)) (reader_of v ∷ []) in
      let r' = total_set (reads_at b) views id v (lending v) at in let l' = total_set (λ (z : SeatView). times_in b z.lent) views id v (lending v) at in let few = are b in omega arith

  -- a view takes another one in, and answers for its readers
  pub lent_joined : (id other : ℕ) (v w u : SeatView) → get_elem? views id ≡ some v → other ≢ id → get_elem? views other ≡ some w
      → ((b : ℕ) → reads_at b u + times_in b v.lent + times_in b w.lent ≤ reads_at b v + reads_at b w + times_in b u.lent) → AreLent (set (set views id u) other spent)
  lent_joined id other v w u at ne at' more b =
      let there : get_elem? (set views id u) other ≡ some w = set_else views id other u ne ∙ at' in
      let r = total_set (reads_at b) views id v u at in let l = total_set (λ (z : SeatView). times_in b z.lent) views id v u at in
      let r' = total_set (reads_at b) (set views id u) other w spent there in let l' = total_set (λ (z : SeatView). times_in b z.lent) (set views id u) other w spent there in
      let few = are b in let here = more b in omega arith

-- ---- who is at work stays so

first_there : (f : Held → Held) (hs : List Held) (a : ℕ) (h : Held) → get_elem? hs a ≡ some h → (b : ℕ) × (g : Held) × (get_elem? (on_first f hs) b ≡ some g)
first_there f [] a h at = absurd (some-ne-none h (sym at))
first_there f (x ∷ xs) a h at = (0, f x, refl)

pub still_works : (f : Held → Held) (v w : SeatView) → w.held ≡ on_first f v.held → w.spare ≡ v.spare → IsAtWork v → IsAtWork w
still_works f v w held spare work = ⊎_elim
    (λ t. let s = first_there f v.held t.0 t.1 t.2 in inl (s.0, s.1, subst (λ (z : List Held). get_elem? z s.0 ≡ some s.1) (sym held) s.2))
    (λ t. inr (t.0, spare ∙ t.1)) work
