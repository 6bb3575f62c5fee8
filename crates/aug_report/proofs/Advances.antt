-- A tally that is cut in two at a cut in between.
use Rattle.std.proofs.Common.{◌≡◌, ◌⊎◌, ℕ, suc, ◌+◌, ◌<◌, ◌≤◌, Bool, ◌==◌, ◌&&◌, nat_lt, nat_le, List, [], ◌∷◌, ◌++◌, refl, ap, sym, ◌∙◌, inl, inr, arith, All, if◌then◌else◌}
use Rattle.std.proofs.lemmas.Bool.{eqb-true, ne_eqb, cases_Bool, cases_lt, cases_eq, le-leb, lt-leb, lt-ltb, le-ltb, and_parts, and_right}
use Rattle.std.proofs.lemmas.List.Elements.{All-head, All-tail}
use Rattle.aug_core.specs.Counts.{change}
use Rattle.aug_core.specs.Cuts.{Cut, shown_of, serial_of, IsAtMost}
use Rattle.aug_core.specs.declared.view.Change.{Change}
use Rattle.aug_trie.specs.Tallies.{times, Tallies}
use Rattle.aug_report.proofs.Histories.{Below}
use Rattle.aug_trie.proofs.Risen.{same_shown}
use Rattle.aug_trie.proofs.TallyLemmas.{counted-append, counted-cons, exactly, times_first, none_low, none_high, once_between}

-- the changes show in a cut
abbrev pub AllShow : Cut → List Change → Type 0
AllShow cut changes = All (λ change. change.serial ≤ serial_of cut change.key) changes

-- the changes are new to a cut
abbrev pub AllPast : Cut → List Change → Type 0
AllPast cut changes = All (λ change. serial_of cut change.key < change.serial) changes

abbrev one_if : Bool → ℕ
one_if b = if b then 1 else 0

past_none : (cut : Cut) (changes : List Change) (k n : ℕ) → AllPast cut changes → n ≤ serial_of cut k → times k n changes ≡ 0
past_none cut [] k n past low = refl
past_none cut (c ∷ changes) k n past low =
    let rest = past_none cut changes k n (All-tail (λ change. serial_of cut change.key < change.serial) c changes past) low in
    let first = All-head (λ change. serial_of cut change.key < change.serial) c changes past in
    elim (cases_Bool (exactly k n c.key c.serial)) [
      | inl t ↦ (let same = and_parts (c.key == k) (c.serial == n) t in absurd (omega (arith, first, low, eqb-true c.serial n same.1, ap (serial_of cut) (eqb-true c.key k same.0))))
      | inr f ↦ omega (arith, rest, counted-cons (exactly k n) c changes, ap one_if f)
    ]

show_none : (cut : Cut) (changes : List Change) (k n : ℕ) → AllShow cut changes → serial_of cut k < n → times k n changes ≡ 0
show_none cut [] k n show high = refl
show_none cut (c ∷ changes) k n show high =
    let rest = show_none cut changes k n (All-tail (λ change. change.serial ≤ serial_of cut change.key) c changes show) high in
    let first = All-head (λ change. change.serial ≤ serial_of cut change.key) c changes show in
    elim (cases_Bool (exactly k n c.key c.serial)) [
      | inl t ↦ (let same = and_parts (c.key == k) (c.serial == n) t in absurd (omega (arith, first, high, eqb-true c.serial n same.1, ap (serial_of cut) (eqb-true c.key k same.0))))
      | inr f ↦ omega (arith, rest, counted-cons (exactly k n) c changes, ap one_if f)
    ]

module _ (c d f : Cut) (front rest : List Change) (tallies : Tallies c f (front ++ rest)) (cd : Below c d) (df : Below d f) (show : AllShow d front) (past : AllPast d rest) where
  both : (k n : ℕ) → times k n front + times k n rest ≡ (if nat_lt (serial_of c k) n && nat_le n (serial_of f k) then 1 else 0)
  both k n = sym (counted-append (exactly k n) front rest) ∙ tallies k n

  -- what shows in the cut between happened before it
  pub tallies-front : Tallies c d front
  tallies-front k n =
      let all = both k n in
      let up = df k in
      elim (cases_lt (serial_of d k) n) [
        | inl high ↦ show_none d front k n show high ∙ ap one_if (sym (and_right (nat_lt (serial_of c k) n) (nat_le n (serial_of d k)) (lt-leb n (serial_of d k) high)))
        | inr low ↦
            let none = past_none d rest k n past low in
            let here = rw (le-leb n (serial_of f k) (omega arith)) at all in
            rw (le-leb n (serial_of d k) low) (omega (arith, here, none))
      ]

  -- and what is new to it after it
  pub tallies-rest : Tallies d f rest
  tallies-rest k n =
      let all = both k n in
      let up = cd k in
      elim (cases_lt (serial_of d k) n) [
        | inl high ↦
            let none = show_none d front k n show high in
            let here = rw (lt-ltb (serial_of c k) n (omega arith)) at all in
            rw (lt-ltb (serial_of d k) n high) (omega (arith, here, none))
        | inr low ↦ past_none d rest k n past low ∙ rw (le-ltb (serial_of d k) n low)
      ]

-- a key's serial went up to `last`, the first number past the one that it had is `first`, and nothing changed of other keys
pub record ChangesOne (c d : Cut) (k first last : ℕ) : Type 0 where
  pub begins : first ≡ serial_of c k + 1
  pub reached : serial_of d k ≡ last
  pub others : (j : ℕ) → (j ≡ k → ⊥) → shown_of d j ≡ shown_of c j

times_single : (k n w m : ℕ) → times k m (change k n w ∷ []) ≡ one_if (k == k && n == m)
times_single k n w m = omega (arith, counted-cons (exactly k m) (change k n w) [])

pub times_this : (k n w m : ℕ) → times k m (change k n w ∷ []) ≡ 1 → m ≡ n
times_this k n w m is =
    elim (cases_eq n m) [
      | inl e ↦ sym e
      | inr ne ↦ absurd (omega (arith, is, times_single k n w m, ap one_if (and_right (k == k) (n == m) (ne_eqb n m ne))))
    ]

pub times_other : (k n w j m : ℕ) → (j ≡ k → ⊥) → times j m (change k n w ∷ []) ≡ 0
times_other k n w j m other = rw (ne_eqb k j (λ e. other (sym e)))

-- where one change happened, its key's serial went up by one, to its number
pub tally_one : (c d : Cut) (k n w : ℕ) → IsAtMost c d → Tallies c d (change k n w ∷ []) → ChangesOne c d k n n
tally_one c d k n w le tallies =
    let one : List Change = change k n w ∷ [] in
    let once = times_first (change k n w) [] in
    let low : serial_of c k < n = elim (cases_lt (serial_of c k) n) [ inl lt ↦ lt | inr ge ↦ absurd (omega (arith, once, none_low c d one tallies k n ge)) ] in
    let high : n ≤ serial_of d k = elim (cases_lt (serial_of d k) n) [ inl lt ↦ absurd (omega (arith, once, none_high c d one tallies k n lt)) | inr ge ↦ ge ] in
    let first = times_this k n w (suc (serial_of c k)) (once_between c d one tallies k (suc (serial_of c k)) (omega arith) (omega (arith, low, high))) in
    record {
      begins = omega (arith, first);
      reached = times_this k n w (serial_of d k) (once_between c d one tallies k (serial_of d k) (omega (arith, low, high)) (omega arith));
      others = λ j other. elim (cases_lt (serial_of c j) (serial_of d j)) [
        | inl lt ↦ absurd (omega (arith, once_between c d one tallies j (serial_of d j) lt (omega arith), times_other k n w j (serial_of d j) other))
        | inr ge ↦ sym (same_shown c d j le ge)
      ];
    }

pub times_either : (k n w v m : ℕ) → times k m (change k n w ∷ change k (n + 1) v ∷ []) ≡ 1 → (m ≡ n) ⊎ (m ≡ n + 1)
times_either k n w v m is =
    elim (cases_eq n m) [
      | inl e ↦ inl (sym e)
      | inr ne ↦ inr (times_this k (n + 1) v m (omega (arith, is, counted-cons (exactly k m) (change k n w) (change k (n + 1) v ∷ []), ap one_if (and_right (k == k) (n == m) (ne_eqb n m ne)))))
    ]

times_neither : (k n w v j m : ℕ) → (j ≡ k → ⊥) → times j m (change k n w ∷ change k (n + 1) v ∷ []) ≡ 0
times_neither k n w v j m other = rw (ne_eqb k j (λ e. other (sym e)))

-- where two changes of a key happened that follow one another, its serial went up by two, to the second's number
pub tally_two : (c d : Cut) (k n w v : ℕ) → IsAtMost c d → Tallies c d (change k n w ∷ change k (n + 1) v ∷ []) → ChangesOne c d k n (n + 1)
tally_two c d k n w v le tallies =
    let both : List Change = change k n w ∷ change k (n + 1) v ∷ [] in
    let once = times_first (change k n w) (change k (n + 1) v ∷ []) in
    let next = times_first (change k (n + 1) v) [] in
    let more = counted-cons (exactly k (n + 1)) (change k n w) (change k (n + 1) v ∷ []) in
    let low : serial_of c k < n = elim (cases_lt (serial_of c k) n) [ inl lt ↦ lt | inr ge ↦ absurd (omega (arith, once, none_low c d both tallies k n ge)) ] in
    let high : n + 1 ≤ serial_of d k = elim (cases_lt (serial_of d k) (n + 1)) [ inl lt ↦ absurd (omega (arith, next, more, none_high c d both tallies k (n + 1) lt)) | inr ge ↦ ge ] in
    record {
      begins = elim (times_either k n w v (suc (serial_of c k)) (once_between c d both tallies k (suc (serial_of c k)) (omega arith) (omega (arith, low, high)))) [ inl e ↦ omega (arith, e) | inr e ↦ absurd (omega (arith, e, low)) ];
      reached = elim (times_either k n w v (serial_of d k) (once_between c d both tallies k (serial_of d k) (omega (arith, low, high)) (omega arith))) [ inl e ↦ absurd (omega (arith, e, high)) | inr e ↦ e ];
      others = λ j other. elim (cases_lt (serial_of c j) (serial_of d j)) [
        | inl lt ↦ absurd (omega (arith, once_between c d both tallies j (serial_of d j) lt (omega arith), times_neither k n w v j (serial_of d j) other))
        | inr ge ↦ sym (same_shown c d j le ge)
      ];
    }
