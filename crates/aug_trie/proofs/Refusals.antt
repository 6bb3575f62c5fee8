-- For what a round is not begun: what a call that begins one says of its result, from what laying out its table came to.
use Rattle.std.proofs.Common.{◌≡◌, ◌≢◌, ◌∙◌, ◌⊎◌, ℕ, ◌≤◌, ◌<◌, true, false, Result, Ok, Err, refl, sym, ap, subst, arith}
use Rattle.std.specs.Prelude.{◌↔◌, IsErrOf}
use Rattle.std.specs.Ordering.{is_le, is_lt, nat_cmp}
use Rattle.aug_core.specs.Layout.{IsWithin, IsOutside, IsRefused}
use Rattle.aug_core.specs.declared.layout.LayoutError.{LayoutError}
use Rattle.aug_core.specs.declared.layout.LayoutError.TheVariants as layout
use Rattle.aug_trie.specs.Errors.{begin_cause}
use Rattle.aug_trie.specs.declared.error.BeginError.{BeginError}
use Rattle.aug_trie.specs.declared.error.BeginError.TheVariants.{BadWorkers, BadUpdates, TooLarge, OutOfMemory, BadBits, Narrower}

-- each cause is answered where it is met, beside what was to begin the round, a set below 2 ^ own
pub record Says {T E : Type 0} (result : Result T (E × BeginError)) (back : E) (own bits workers updates members : ℕ) : Type 0 where
  pub bad_bits : IsErrOf result (back, BadBits) ↔ IsOutside 1 16 bits
  pub narrower : IsErrOf result (back, Narrower) ↔ IsWithin 1 16 bits × (bits < own)
  pub bad_workers : IsErrOf result (back, BadWorkers) ↔ (own ≤ bits) × IsRefused layout.BadWorkers bits workers updates members
  pub bad_updates : IsErrOf result (back, BadUpdates) ↔ (own ≤ bits) × IsRefused layout.BadUpdates bits workers updates members
  pub too_large : IsErrOf result (back, TooLarge) ↔ (own ≤ bits) × IsRefused layout.TooLarge bits workers updates members

-- what the test for fewer bits told
pub are_fewer : {found own bits : ℕ} → found ≡ own → (is_le (nat_cmp 1 bits) ≡ true) × (is_lt (nat_cmp bits found) ≡ true) → (1 ≤ bits) × (bits < own)
are_fewer is told = grind (arith, is, told)

pub not_fewer : {found own bits : ℕ} → found ≡ own → (is_le (nat_cmp 1 bits) ≡ false) ⊎ (is_lt (nat_cmp bits found) ≡ false) → 1 ≤ bits → own ≤ bits
not_fewer is told some = grind (arith, is, told, some)

pub cause_said : {T E : Type 0} {x y : E} {a b : BeginError} → ◌≡◌ {A = Result T (E × BeginError)} (Err (x, a)) (Err (y, b)) → a ≡ b
cause_said {T} {E} {x} {y} {a} {b} e = let f : (x, a) ≡ (y, b) = cc in ap (λ (z : E × BeginError). z.1) f

-- the bits are fewer than those of the set
pub says_narrower : {T E : Type 0} (back : E) (own bits workers updates members : ℕ) → own ≤ 16 → (1 ≤ bits) × (bits < own) → Says {T = T} (Err (back, Narrower)) back own bits workers updates members
says_narrower back own bits workers updates members low fewer = record {
  bad_bits = ((λ e. let f : Narrower ≡ BadBits = cause_said e in cc), λ o. absurd (omega arith));
  narrower = (λ e. ((fewer.0, omega arith), fewer.1), λ w. refl);
  bad_workers = ((λ e. let f : Narrower ≡ BadWorkers = cause_said e in cc), λ w. absurd (omega (arith, w.0)));
  bad_updates = ((λ e. let f : Narrower ≡ BadUpdates = cause_said e in cc), λ w. absurd (omega (arith, w.0)));
  too_large = ((λ e. let f : Narrower ≡ TooLarge = cause_said e in cc), λ w. absurd (omega (arith, w.0)));
}

-- the cause of laying out that a cause of beginning names
cause_of : BeginError → LayoutError
cause_of BadWorkers = layout.BadWorkers
cause_of BadUpdates = layout.BadUpdates
cause_of TooLarge = layout.TooLarge
cause_of e = layout.BadBits

begins_for : (k : LayoutError) → (cause_of (begin_cause k) ≡ k) × (begin_cause k ≢ Narrower) × (begin_cause k ≢ OutOfMemory)
unfolding cause_of
begins_for layout.BadBits = (refl, (λ e. cc), λ e. cc)
begins_for layout.BadWorkers = (refl, (λ e. cc), λ e. cc)
begins_for layout.BadUpdates = (refl, (λ e. cc), λ e. cc)
begins_for layout.TooLarge = (refl, (λ e. cc), λ e. cc)

pub same_cause : {j k : LayoutError} → begin_cause j ≡ begin_cause k → j ≡ k
same_cause {j} {k} e = sym (begins_for j).0 ∙ ap cause_of e ∙ (begins_for k).0

-- the call says what laying out said, `made`, or of another refusal, or of none
module _ {L T E : Type 0} (made : Result L LayoutError) (back : E) (own bits workers updates count members : ℕ) (same : count ≡ members) (wide : 1 ≤ bits → own ≤ bits)
    (bad_bits : IsErrOf made layout.BadBits ↔ IsRefused layout.BadBits bits workers updates count) (bad_workers : IsErrOf made layout.BadWorkers ↔ IsRefused layout.BadWorkers bits workers updates count)
    (bad_updates : IsErrOf made layout.BadUpdates ↔ IsRefused layout.BadUpdates bits workers updates count) (too_large : IsErrOf made layout.TooLarge ↔ IsRefused layout.TooLarge bits workers updates count) where
  says_made : (result : Result T (E × BeginError)) → ((k : LayoutError) → IsErrOf result (back, begin_cause k) ↔ IsErrOf made k) → (IsErrOf result (back, Narrower) → ⊥) → Says result back own bits workers updates members
  says_made result told not = record {
    bad_bits = (λ e. bad_bits.0 ((told layout.BadBits).0 e), λ o. (told layout.BadBits).1 (bad_bits.1 o));
    narrower = (λ e. absurd (not e), λ w. absurd (omega (arith, wide w.0.0, w.1)));
    bad_workers = (λ e. let r = bad_workers.0 ((told layout.BadWorkers).0 e) in (wide r.0.0, r), λ w. (told layout.BadWorkers).1 (bad_workers.1 w.1));
    bad_updates = (λ e. let r = bad_updates.0 ((told layout.BadUpdates).0 e) in (wide r.0.0, r), λ w. (told layout.BadUpdates).1 (bad_updates.1 w.1));
    too_large = (λ e. let r = too_large.0 ((told layout.TooLarge).0 e) in (wide r.0.0, subst (λ n. IsRefused layout.TooLarge bits workers updates n) same r), λ w. (told layout.TooLarge).1 (too_large.1 (subst (λ n. IsRefused layout.TooLarge bits workers updates n) (sym same) w.1)));
  }

  -- laying out was refused
  pub says_cause : (cause : LayoutError) (found : BeginError) → made ≡ Err cause → found ≡ begin_cause cause → Says {T = T} (Err (back, found)) back own bits workers updates members
  says_cause cause found is named = says_made (Err (back, found)) (λ k. ((λ e. is ∙ ap Err (same_cause (sym named ∙ cause_said e))), λ e. let f : cause ≡ k = cc in ap (λ (x : BeginError). Err (back, x)) (named ∙ ap begin_cause f)))
      (λ e. (begins_for cause).1 (sym named ∙ cause_said e))

  -- it was laid out, and memory was refused
  pub says_no_memory : (laid : L) (there : E) → made ≡ Ok laid → Says {T = T} (Err (there, OutOfMemory)) back own bits workers updates members
  says_no_memory laid there is = says_made (Err (there, OutOfMemory)) (λ k. ((λ e. absurd ((begins_for k).2 (sym (cause_said e)))), λ e. cc)) (λ e. let f : OutOfMemory ≡ Narrower = cause_said e in cc)

  -- it was laid out, and the round was begun
  pub says_begun : (laid : L) (begun : T) → made ≡ Ok laid → Says (Ok begun) back own bits workers updates members
  says_begun laid begun is = says_made (Ok begun) (λ k. ((λ e. cc), λ e. cc)) (λ e. cc)
