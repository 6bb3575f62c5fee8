-- Limits that a script can have, as a test.
use Rattle.std.proofs.Common.{◌≡◌, ◌∙◌, ◌↔◌, ℕ, ◌^◌, ◌<◌, ◌≤◌, ⊎_elim, Bool, false, true, ◌&&◌, nat_le, refl, subst, sym}
use Rattle.std.proofs.lemmas.Bool.{and_from, and_parts, cases_lt, le-leb, leb-true}
use Rattle.aug_core.specs.Layout.{IsWithin}
use Rattle.aug_script.proofs.TableWords.{table_words}
use Rattle.aug_script.specs.Limits.{Bounds, IsBounds, is_bounds, is_within, words_of}

within : (first last n : ℕ) → is_within first last n ≡ true → IsWithin first last n
within first last n is =
    let parts = and_parts (nat_le first n) (nat_le n last) is in
    (leb-true first n parts.0, leb-true n last parts.1)

-- limits that pass the test have a table
pub bounds_pass : (b : Bounds) → is_bounds b ≡ true → IsBounds b
bounds_pass b is =
    let words = and_parts (is_within 1 16 b.bits && is_within 1 64 b.workers && is_within 1 65536 b.updates) (nat_le (words_of b) (2 ^ 26)) is in
    let updates = and_parts (is_within 1 16 b.bits && is_within 1 64 b.workers) (is_within 1 65536 b.updates) words.0 in
    let first = and_parts (is_within 1 16 b.bits) (is_within 1 64 b.workers) updates.0 in
    record {
      bits = within 1 16 b.bits first.0;
      workers = within 1 64 b.workers first.1;
      updates = within 1 65536 b.updates updates.1;
      words = subst (λ (z : ℕ). z ≤ 2 ^ 26) (sym (table_words b)) (leb-true (words_of b) (2 ^ 26) words.1);
    }

tested : (first last n : ℕ) → IsWithin first last n → is_within first last n ≡ true
tested first last n is = and_from (nat_le first n) (nat_le n last) (le-leb first n is.0) (le-leb n last is.1)

-- limits with a table pass it
pub bounds_tested : (b : Bounds) → IsBounds b → is_bounds b ≡ true
bounds_tested b is =
    let words : words_of b ≤ 2 ^ 26 = subst (λ (z : ℕ). z ≤ 2 ^ 26) (table_words b) is.words in
    and_from _ _ (and_from _ _ (and_from _ _ (tested 1 16 b.bits is.bits) (tested 1 64 b.workers is.workers)) (tested 1 65536 b.updates is.updates))
    (le-leb (words_of b) (2 ^ 26) words)

-- what tells whether limits have a table is the test
pub bounds_decided : (b : Bounds) (r : Bool) → (r ≡ true ↔ IsBounds b) → r ≡ is_bounds b
bounds_decided b true is = sym (bounds_tested b (is.0 refl))
bounds_decided b false is = other (is_bounds b) refl
  where
    other : (t : Bool) → is_bounds b ≡ t → false ≡ is_bounds b
    other true same = is.1 (bounds_pass b same) ∙ sym same
    other false same = sym same

-- numbers in their ranges have no table only if there are too many words
pub too_many : (b : Bounds) → IsWithin 1 16 b.bits → IsWithin 1 64 b.workers → IsWithin 1 65536 b.updates → (IsBounds b → ⊥) → 2 ^ 26 < words_of b
too_many b bits workers updates none =
    ⊎_elim (λ (more : 2 ^ 26 < words_of b). more)
    (λ (fits : words_of b ≤ 2 ^ 26). absurd (none record { bits = bits; workers = workers; updates = updates; words = subst (λ (z : ℕ). z ≤ 2 ^ 26) (sym (table_words b)) fits }))
    (cases_lt (2 ^ 26) (words_of b))
