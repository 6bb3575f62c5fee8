-- The last entry of a history that has a word, of those that a word named.
use Rattle.std.proofs.Common.{◌≡◌, ◌⊎◌, inl, inr, ℕ, zero, suc, ◌≤◌, false, List, [], ◌∷◌, refl, sym, ap, ◌∙◌, ⊎_elim, arith}
use Rattle.std.proofs.lemmas.Bool.{cases_Bool, cases_eq, false≢true}
use mathlib.Core.Option.{some, some-injective, some-ne-none}
use lib.ListN.{get_elem?}
use Rattle.aug_core.specs.declared.view.Entry.{Entry}

pub record LastOf (l : List Entry) (word : ℕ) : Type 0 where
  pub index : ℕ
  pub entry : Entry
  pub at : get_elem? l index ≡ some entry
  pub shown : entry.passed ≡ false
  pub named : entry.word ≡ word
  pub last : (j : ℕ) (f : Entry) → get_elem? l j ≡ some f → f.passed ≡ false → f.word ≡ word → j ≤ index

abbrev NoneOf : List Entry → ℕ → Type 0
NoneOf l word = (j : ℕ) (f : Entry) → get_elem? l j ≡ some f → f.passed ≡ false → f.word ≡ word → ⊥

first_or_none : (x : Entry) (xs : List Entry) (word : ℕ) → NoneOf xs word → LastOf (x ∷ xs) word ⊎ NoneOf (x ∷ xs) word
first_or_none x xs word none = ⊎_elim
    (λ passed. inr (λ j f p shown named. past j f p shown named (λ same. false≢true (sym shown ∙ ap (λ (z : Entry). z.passed) (sym same) ∙ passed))))
    (λ shown. ⊎_elim
    (λ named. inl record { index = 0; entry = x; at = refl; shown = shown; named = named; last = at_zero })
    (λ other. inr (λ j f p shown named. past j f p shown named (λ same. other (ap (λ (z : Entry). z.word) same ∙ named)))) (cases_eq x.word word)) (cases_Bool x.passed)
  where
    past : (j : ℕ) (f : Entry) → get_elem? (x ∷ xs) j ≡ some f → f.passed ≡ false → f.word ≡ word → (x ≡ f → ⊥) → ⊥
    past zero f p shown named not = not (some-injective x f p)
    past (suc j) f p shown named not = none j f p shown named

    at_zero : (j : ℕ) (f : Entry) → get_elem? (x ∷ xs) j ≡ some f → f.passed ≡ false → f.word ≡ word → j ≤ 0
    at_zero zero f p shown named = omega arith
    at_zero (suc j) f p shown named = absurd (none j f p shown named)

last_or_none : (l : List Entry) (word : ℕ) → LastOf l word ⊎ NoneOf l word
last_or_none [] word = inr (λ j f p shown named. some-ne-none f (sym p))
last_or_none (x ∷ xs) word = ⊎_elim
    (λ t. inl record { index = suc t.index; entry = t.entry; at = t.at; shown = t.shown; named = t.named; last = λ j f p shown named. later t j f p shown named })
    (λ none. first_or_none x xs word none) (last_or_none xs word)
  where
    later : (t : LastOf xs word) (j : ℕ) (f : Entry) → get_elem? (x ∷ xs) j ≡ some f → f.passed ≡ false → f.word ≡ word → j ≤ suc t.index
    later t zero f p shown named = omega arith
    later t (suc j) f p shown named = let le = t.last j f p shown named in omega arith

pub last_of : (l : List Entry) (i : ℕ) (e : Entry) → get_elem? l i ≡ some e → e.passed ≡ false → LastOf l e.word
last_of l i e at shown = ⊎_elim (λ t. t) (λ none. absurd (none i e at shown refl)) (last_or_none l e.word)
