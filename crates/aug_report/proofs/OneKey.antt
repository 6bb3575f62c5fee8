-- Cuts and histories of the empty set in which one key alone changes.
use Rattle.std.proofs.Common.{◌≡◌, ℕ, zero, suc, ◌+◌, ◌%◌, ◌^◌, ◌<◌, List, [], ◌∷◌, get_or, set, refl, ap, sym, ◌∙◌, inl, inr, arith, All, Contains, subst}
use Rattle.std.proofs.lemmas.Bool.{eq-eqb, cases_lt, cases_eq}
use Rattle.std.proofs.lemmas.List.{get_or-set_same, get_or-set_other, length-set, get_or_past}
use Rattle.std.proofs.lemmas.List.Elements.{All-nil, All-cons}
use Rattle.aug_model.specs.Keys.{IsKeySet, with_pair}
use Rattle.aug_core.specs.Counts.{change}
use Rattle.aug_core.specs.Cuts.{Cut, shown_of, serial_of, pairs_of_cut, IsAtMost, opening_cut}
use Rattle.aug_core.specs.declared.view.Change.{Change}
use Rattle.aug_trie.specs.History.{IsHistory}
use Rattle.aug_trie.specs.Tallies.{Weighs}
use Rattle.aug_report.specs.AllowedReport.{Lane, Opens}
use Rattle.aug_trie.proofs.CutLemmas.{length-opening, shown-opening, pairs_of_cut-opening}
use Rattle.aug_report.proofs.Advances.{ChangesOne}
use Rattle.aug_report.proofs.SetChanges.{pairs-with_key}

pub empty_set : (bits : ℕ) → IsKeySet bits []
empty_set bits = record { rising = λ k below. absurd (omega arith); below = All-nil (λ k. k < 2 ^ bits) }

-- the opening cut of the empty set shows nothing of any key
pub empty-shown : (bits k : ℕ) → shown_of (opening_cut bits []) k ≡ (0, 0)
empty-shown bits k =
    elim (cases_lt k (2 ^ bits)) [
      | inl below ↦ shown-opening bits [] k below
      | inr past ↦ get_or_past (opening_cut bits []) k (0, 0) (omega (arith, length-opening bits [], past))
    ]

pub empty-serial : (bits k : ℕ) → serial_of (opening_cut bits []) k ≡ 0
empty-serial bits k = ap (λ (z : ℕ × ℕ). z.0) (empty-shown bits k)

module _ (bits k : ℕ) (is_key : k < 2 ^ bits) where
  -- the key has a serial and a weight, and no other key has
  abbrev pub key_at : ℕ → ℕ → Cut
  key_at n w = set (opening_cut bits []) k (n, w)

  pub shown-key : (n w : ℕ) → shown_of (key_at n w) k ≡ (n, w)
  shown-key n w = get_or-set_same (opening_cut bits []) k (n, w) (0, 0) (omega (arith, length-opening bits [], is_key))

  pub serial-key : (n w : ℕ) → serial_of (key_at n w) k ≡ n
  serial-key n w = ap (λ (z : ℕ × ℕ). z.0) (shown-key n w)

  pub elsewhere : (n w j : ℕ) → (j ≡ k → ⊥) → shown_of (key_at n w) j ≡ (0, 0)
  elsewhere n w j apart = get_or-set_other (opening_cut bits []) k j (n, w) (0, 0) apart ∙ empty-shown bits j

  pub rises-empty : (n w : ℕ) → 0 < n → IsAtMost (opening_cut bits []) (key_at n w)
  rises-empty n w some = record {
    same_keys = sym (length-set (opening_cut bits []) k (n, w));
    no_greater = λ j. elim (cases_eq j k) [
      | inl e ↦ inl (omega (arith, some, empty-serial bits j, serial-key n w, ap (serial_of (key_at n w)) e))
      | inr apart ↦ inr (empty-shown bits j ∙ sym (elsewhere n w j apart))
    ];
  }

  pub rises-key : (m v n w : ℕ) → m < n → IsAtMost (key_at m v) (key_at n w)
  rises-key m v n w less = record {
    same_keys = length-set (opening_cut bits []) k (m, v) ∙ sym (length-set (opening_cut bits []) k (n, w));
    no_greater = λ j. elim (cases_eq j k) [
      | inl e ↦ inl (omega (arith, less, serial-key m v, serial-key n w, ap (serial_of (key_at m v)) e, ap (serial_of (key_at n w)) e))
      | inr apart ↦ inr (elsewhere m v j apart ∙ sym (elsewhere n w j apart))
    ];
  }

  pub first_change : (w : ℕ) → ChangesOne (opening_cut bits []) (key_at 1 w) k 1 1
  first_change w = record {
    begins = omega (arith, empty-serial bits k);
    reached = serial-key 1 w;
    others = λ j apart. elsewhere 1 w j apart ∙ sym (empty-shown bits j);
  }

  pub next_change : (n v w : ℕ) → ChangesOne (key_at n v) (key_at (n + 1) w) k (n + 1) (n + 1)
  next_change n v w = record {
    begins = omega (arith, serial-key n v);
    reached = serial-key (n + 1) w;
    others = λ j apart. elsewhere (n + 1) w j apart ∙ sym (elsewhere n v j apart);
  }

  -- the key is the one member
  pub pairs-key : (n w : ℕ) → n % 2 ≡ 1 → pairs_of_cut (key_at n w) ≡ (k, w) ∷ []
  pairs-key n w is_odd =
      pairs-with_key (opening_cut bits []) (key_at n w) k (λ j apart. elsewhere n w j apart ∙ sym (empty-shown bits j))
      (eq-eqb (serial_of (key_at n w) k % 2) 1 (ap (λ m. m % 2) (serial-key n w) ∙ is_odd))
      ∙ (λ i. with_pair (pairs_of_cut-opening bits [] (empty_set bits) i) k (shown-key n w i).1)

  -- the set opens empty, and then the key is in
  abbrev pub two_cuts : ℕ → ℕ → List Cut
  two_cuts n w = opening_cut bits [] ∷ set (opening_cut bits []) k (n, w) ∷ []

  two_rise : (n w : ℕ) → 0 < n → (i : ℕ) → i + 1 < 2 → IsAtMost (get_or (two_cuts n w) i []) (get_or (two_cuts n w) (i + 1) [])
  two_rise n w some zero below = rises-empty n w some
  two_rise n w some (suc i) below = absurd (omega arith)

  pub two_history : (n w : ℕ) → 0 < n → IsHistory bits [] (two_cuts n w)
  two_history n w some = record { opens = (key_at n w ∷ [], refl); rises = two_rise n w some }

  weighs-key : (n w : ℕ) (changes : List Change) → Contains changes (change k n w) → Weighs (opening_cut bits []) changes (key_at n w)
  weighs-key n w changes there key past = elim (cases_eq key k) [
    | inl e ↦
        let shown : shown_of (key_at n w) key ≡ (n, w) = ap (shown_of (key_at n w)) e ∙ shown-key n w in
        subst (λ (c : Change). Contains changes c) (λ i. change (sym e i) (sym shown i).0 (sym shown i).1) there
    | inr apart ↦ absurd (omega (arith, past, ap (λ (z : ℕ × ℕ). z.0) (elsewhere n w key apart)))
  ]

  pub two_weigh : (n w : ℕ) (changes : List Change) → Contains changes (change k n w) → All (Weighs (opening_cut bits []) changes) (two_cuts n w)
  two_weigh n w changes there =
      All-cons (Weighs (opening_cut bits []) changes) (opening_cut bits []) (key_at n w ∷ []) (λ key past. absurd (omega (arith, past)))
      (All-cons (Weighs (opening_cut bits []) changes) (key_at n w) [] (weighs-key n w changes there) (All-nil (Weighs (opening_cut bits []) changes)))

  -- a lane that looked before anything happened
  abbrev pub early : Lane
  early = record { knows = record { history = opening_cut bits [] ∷ []; accepted = [] }; held = opening_cut bits [] }

  pub opens_early : Opens (opening_cut bits []) early
  opens_early = record { sees_opening = ([], refl); no_change = refl; holds_last = refl }
