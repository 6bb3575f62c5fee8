-- Which lanes of those that were handed out a view does not hold, and who holds them.
use Rattle.std.proofs.Common.{◌≡◌, ◌≢◌, ◌⊎◌, inl, inr, ℕ, zero, suc, ◌+◌, ◌<◌, ◌≤◌, eqb, eq-eqb, ne_eqb, ltb, lt-ltb, le-ltb, List, [], ◌∷◌, length, sym, refl, ap, ◌∙◌, subst, ⊎_elim, arith}
use Rattle.std.proofs.lemmas.Bool.{cases_eq, cases_lt, eqb-true, ltb-true}
use mathlib.Core.Option.{some, some-injective, some-ne-none}
use lib.ListN.{get_elem?}
use Rattle.aug_core.specs.declared.view.Held.{Held}
use Rattle.aug_core.specs.declared.view.SeatView.{SeatView}
use Rattle.aug_core.proofs.Counting.{hits, hits_yes, hits_no, hits_none, hits_one}

-- the lane is one of the list
abbrev pub HeldIn : List Held → ℕ → Type 0
HeldIn held lane = (a : ℕ) × (h : Held) × (get_elem? held a ≡ some h) × (h.lane ≡ lane)

not_here : (x : Held) (xs : List Held) (lane : ℕ) → x.lane ≢ lane → (HeldIn xs lane → ⊥) → (a : ℕ) (h : Held) → get_elem? (x ∷ xs) a ≡ some h → h.lane ≡ lane → ⊥
not_here x xs lane ne bad zero h at is = ne (ap (λ (z : Held). z.lane) (some-injective x h at) ∙ is)
not_here x xs lane ne bad (suc a) h at is = bad (a, h, at, is)

pub search_held : (held : List Held) (lane : ℕ) → HeldIn held lane ⊎ (HeldIn held lane → ⊥)
search_held [] lane = inr (λ t. some-ne-none t.1 (sym t.2))
search_held (x ∷ xs) lane = ⊎_elim
    (λ e. inl (0, x, refl, e))
    (λ ne. ⊎_elim (λ t. inl (suc t.0, t.1, t.2, t.3)) (λ bad. inr (λ t. not_here x xs lane ne bad t.0 t.1 t.2 t.3)) (search_held xs lane)) (cases_eq x.lane lane)

-- one of the views holds the lane
abbrev pub Holder : List SeatView → ℕ → Type 0
Holder views lane = (i : ℕ) × (v : SeatView) × (get_elem? views i ≡ some v) × HeldIn v.held lane

not_there : (x : SeatView) (xs : List SeatView) (lane : ℕ) → (HeldIn x.held lane → ⊥) → (Holder xs lane → ⊥) → (i : ℕ) (v : SeatView) → get_elem? (x ∷ xs) i ≡ some v → HeldIn v.held lane → ⊥
not_there x xs lane ne bad zero v at is = ne (subst (λ (z : SeatView). HeldIn z.held lane) (sym (some-injective x v at)) is)
not_there x xs lane ne bad (suc i) v at is = bad (i, v, at, is)

pub search_views : (views : List SeatView) (lane : ℕ) → Holder views lane ⊎ (Holder views lane → ⊥)
search_views [] lane = inr (λ t. some-ne-none t.1 (sym t.2))
search_views (x ∷ xs) lane = ⊎_elim
    (λ t. inl (0, x, refl, t))
    (λ ne. ⊎_elim (λ t. inl (suc t.0, t.1, t.2, t.3)) (λ bad. inr (λ t. not_there x xs lane ne bad t.0 t.1 t.2 t.3)) (search_views xs lane)) (search_held x.held lane)

-- how many of the lanes are below n
abbrev pub lower : ℕ → List Held → ℕ
lower n held = hits (λ h. ltb h.lane n) held

split : (held : List Held) (n : ℕ) → lower (suc n) held ≡ lower n held + hits (λ h. eqb h.lane n) held
split [] n = refl
split (h ∷ hs) n = let rest = split hs n in ⊎_elim
    (λ (lt : h.lane < n). let a = hits_yes (λ (z : Held). ltb z.lane (suc n)) h hs (lt-ltb h.lane (suc n) (omega arith)) in let b = hits_yes (λ (z : Held). ltb z.lane n) h hs (lt-ltb h.lane n lt) in
    let c = hits_no (λ (z : Held). eqb z.lane n) h hs (ne_eqb h.lane n (λ e. absurd (omega arith))) in omega arith)
    (λ (ge : n ≤ h.lane). ⊎_elim
    (λ (is : h.lane ≡ n). let a = hits_yes (λ (z : Held). ltb z.lane (suc n)) h hs (lt-ltb h.lane (suc n) (omega arith)) in let b = hits_no (λ (z : Held). ltb z.lane n) h hs (le-ltb h.lane n ge) in
    let c = hits_yes (λ (z : Held). eqb z.lane n) h hs (eq-eqb h.lane n is) in omega arith)
    (λ (ne : h.lane ≢ n). let up : suc n ≤ h.lane = omega arith in let a = hits_no (λ (z : Held). ltb z.lane (suc n)) h hs (le-ltb h.lane (suc n) up) in let b = hits_no (λ (z : Held). ltb z.lane n) h hs (le-ltb h.lane n ge) in
    let c = hits_no (λ (z : Held). eqb z.lane n) h hs (ne_eqb h.lane n ne) in omega arith) (cases_eq h.lane n)) (cases_lt h.lane n)

-- the lanes below n that are not held
pub record Missing (held : List Held) (n : ℕ) : Type 0 where
  pub list : List ℕ
  pub complete : (lane : ℕ) → lane < n → HeldIn held lane ⊎ ((j : ℕ) × (get_elem? list j ≡ some lane))
  pub below : (j lane : ℕ) → get_elem? list j ≡ some lane → lane < n
  pub away : (j lane : ℕ) → get_elem? list j ≡ some lane → HeldIn held lane → ⊥
  pub distinct : (i j lane : ℕ) → get_elem? list i ≡ some lane → get_elem? list j ≡ some lane → i ≡ j
  pub counted : length list + lower n held ≡ n

module _ (held : List Held) where
  one_more : (n : ℕ) → (m : Missing held n) → (HeldIn held n → ⊥) → Missing held (suc n)
  one_more n m bad = record {
    list = n ∷ m.list;
    complete = λ lane low. ⊎_elim (λ (is : lane ≡ n). inr (0, ap some (sym is))) (λ ne. ⊎_elim (λ t. inl t) (λ t. inr (suc t.0, t.1)) (m.complete lane (omega arith))) (cases_eq lane n);
    below = below;
    away = away;
    distinct = distinct;
    counted = let none = hits_none (λ (z : Held). eqb z.lane n) held (λ k h at is. bad (k, h, at, eqb-true h.lane n is)) in let s = split held n in let c = m.counted in omega arith;
  }
    where
      below : (j lane : ℕ) → get_elem? (n ∷ m.list) j ≡ some lane → lane < suc n
      below zero lane at = let e = some-injective n lane at in omega arith
      below (suc j) lane at = let l = m.below j lane at in omega arith

      away : (j lane : ℕ) → get_elem? (n ∷ m.list) j ≡ some lane → HeldIn held lane → ⊥
      away zero lane at t = bad (subst (HeldIn held) (sym (some-injective n lane at)) t)
      away (suc j) lane at t = m.away j lane at t

      distinct : (i j lane : ℕ) → get_elem? (n ∷ m.list) i ≡ some lane → get_elem? (n ∷ m.list) j ≡ some lane → i ≡ j
      distinct zero zero lane p q = refl
      distinct zero (suc j) lane p q = let l = m.below j lane q in let e = some-injective n lane p in absurd (omega arith)
      distinct (suc i) zero lane p q = let l = m.below i lane p in let e = some-injective n lane q in absurd (omega arith)
      distinct (suc i) (suc j) lane p q = ap suc (m.distinct i j lane p q)

  module _ (one : (a b : ℕ) (h g : Held) → get_elem? held a ≡ some h → get_elem? held b ≡ some g → h.lane ≡ g.lane → a ≡ b) where
    pub missing : (n : ℕ) → Missing held n
    missing zero = record {
      list = [];
      complete = λ lane low. absurd (omega arith);
      below = λ j lane at. absurd (some-ne-none lane (sym at));
      away = λ j lane at t. some-ne-none lane (sym at);
      distinct = λ i j lane p q. absurd (some-ne-none lane (sym p));
      counted = let none = hits_none (λ (z : Held). ltb z.lane 0) held (λ k h at is. let lt = ltb-true h.lane 0 is in absurd (omega arith)) in omega arith;
    }
    missing (suc n) = let m = missing n in ⊎_elim
        (λ (t : HeldIn held n). record {
          list = m.list;
          complete = λ lane low. ⊎_elim (λ (is : lane ≡ n). inl (t.0, t.1, t.2, t.3 ∙ sym is)) (λ ne. m.complete lane (omega arith)) (cases_eq lane n);
          below = λ j lane at. let l = m.below j lane at in omega arith;
          away = m.away;
          distinct = m.distinct;
          counted = let h1 = hits_one (λ (z : Held). eqb z.lane n) held t.0 t.1 t.2 (eq-eqb t.1.lane n t.3) (λ k h at is. one k t.0 h t.1 at t.2 (eqb-true h.lane n is ∙ sym t.3)) in
              let s = split held n in let c = m.counted in omega arith;
        })
        (λ bad. one_more n m bad) (search_held held n)
