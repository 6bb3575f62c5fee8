-- Changes that tally: one of a key, and tallies one after another.
use Rattle.std.proofs.Common.{◌≡◌, ◌⊎◌, ℕ, ◌<◌, ◌≤◌, Bool, false, ◌==◌, ◌&&◌, nat_lt, nat_le, List, [], ◌∷◌, ◌++◌, refl, ap, sym, ◌∙◌, inl, inr, arith, if◌then◌else◌}
use Rattle.std.proofs.lemmas.Bool.{eq-eqb, ne_eqb, cases_lt, cases_eq, cases_order, le-leb, lt-leb, lt-ltb, le-ltb, and_left, and_right}
use Rattle.aug_core.specs.Counts.{change}
use Rattle.aug_core.specs.Cuts.{Cut, serial_of, IsAtMost}
use Rattle.aug_core.specs.declared.view.Change.{Change}
use Rattle.aug_trie.specs.Tallies.{times, Tallies}
use Rattle.aug_trie.proofs.CutLemmas.{serial_rises}
use Rattle.aug_trie.proofs.TallyLemmas.{counted-append, counted-cons, exactly, none_low, none_high}
use Rattle.aug_report.proofs.Advances.{ChangesOne, times_other}

abbrev one_if : Bool → ℕ
one_if b = if b then 1 else 0

abbrev between : Cut → Cut → ℕ → ℕ → Bool
between c d key m = nat_lt (serial_of c key) m && nat_le m (serial_of d key)

-- nothing tallies between a cut and itself
pub nothing_tallies : (c : Cut) → Tallies c c []
nothing_tallies c k n = elim (cases_lt (serial_of c k) n) [
  | inl high ↦ ap one_if (sym (and_right (nat_lt (serial_of c k) n) (nat_le n (serial_of c k)) (lt-leb n (serial_of c k) high)))
  | inr low ↦ ap one_if (sym (and_left (nat_lt (serial_of c k) n) (nat_le n (serial_of c k)) (le-ltb (serial_of c k) n low)))
]

-- tallies one after another make one
pub tallies-join : (c d f : Cut) (front rest : List Change) → IsAtMost c d → IsAtMost d f → Tallies c d front → Tallies d f rest → Tallies c f (front ++ rest)
tallies-join c d f front rest cd df t u k n =
    counted-append (exactly k n) front rest ∙ elim (cases_lt (serial_of d k) n) [
      | inl high ↦
          let none = none_high c d front t k n high in
          let here = rw (lt-ltb (serial_of d k) n high) at (u k n) in
          rw (lt-ltb (serial_of c k) n (omega (arith, serial_rises c d k cd, high))) (omega (arith, none, here))
      | inr low ↦
          let none = none_low d f rest u k n low in
          let here = rw (le-leb n (serial_of d k) low) at (t k n) in
          rw (le-leb n (serial_of f k) (omega (arith, serial_rises d f k df, low))) (omega (arith, none, here))
    ]

-- one change tallies
pub one_tallies : (c d : Cut) (k n w : ℕ) → ChangesOne c d k n n → Tallies c d (change k n w ∷ [])
one_tallies c d k n w one key m =
    elim (cases_eq key k) [
      | inl e ↦ elim (cases_order m n) [
        | inl same ↦ here e same
        | inr (inl lt) ↦ absent e (λ q. omega (arith, q, lt)) ∙ ap one_if (sym (and_left (nat_lt (serial_of c key) m) (nat_le m (serial_of d key)) (le-ltb (serial_of c key) m (omega (arith, one.begins, lt, ap (serial_of c) e)))))
        | inr (inr gt) ↦ absent e (λ q. omega (arith, q, gt)) ∙ ap one_if (sym (and_right (nat_lt (serial_of c key) m) (nat_le m (serial_of d key)) (lt-leb m (serial_of d key) (omega (arith, one.reached, gt, ap (serial_of d) e)))))
      ]
      | inr other ↦ times_other k n w key m other ∙ ap one_if (sym (nothing other (cases_lt (serial_of c key) m)))
    ]
  where
    absent : key ≡ k → (m ≡ n → ⊥) → times key m (change k n w ∷ []) ≡ 0
    absent e apart = omega (arith, counted-cons (exactly key m) (change k n w) [], ap one_if (and_right (k == key) (n == m) (ne_eqb n m (λ q. apart (sym q)))))

    here : key ≡ k → m ≡ n → times key m (change k n w ∷ []) ≡ one_if (between c d key m)
    here e same =
        rw (eq-eqb k key (sym e), eq-eqb n m (sym same), lt-ltb (serial_of c key) m (omega (arith, same, one.begins, ap (serial_of c) e)), le-leb m (serial_of d key) (omega (arith, same, one.reached, ap (serial_of d) e))) refl

    nothing : (key ≡ k → ⊥) → (serial_of c key < m) ⊎ (m ≤ serial_of c key) → between c d key m ≡ false
    nothing other (inl lt) = and_right (nat_lt (serial_of c key) m) (nat_le m (serial_of d key)) (lt-leb m (serial_of d key) (omega (arith, ap (λ (z : ℕ × ℕ). z.0) (one.others key other), lt)))
    nothing other (inr ge) = and_left (nat_lt (serial_of c key) m) (nat_le m (serial_of d key)) (le-ltb (serial_of c key) m ge)
