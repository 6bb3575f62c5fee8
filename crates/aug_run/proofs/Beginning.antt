-- A round under limits that a script can have is never refused for its numbers.
use Rattle.std.proofs.Common.{◌≡◌, ℕ, zero, suc, ◌^◌, ◌<◌, ◌≤◌, refl, inl, inr, arith}
use Rattle.aug_core.specs.Layout.{IsLayout, IsOutside, IsWithin, IsRefused}
use Rattle.aug_core.specs.Places.{shape_of, own_records, word_count}
use Rattle.aug_core.specs.declared.layout.LayoutError.TheVariants as layout
use Rattle.aug_trie.specs.declared.error.BeginError.{BeginError}
use Rattle.aug_trie.specs.declared.error.BeginError.TheVariants as begin

-- more members need no fewer records
own_more : (bits few many level : ℕ) → few ≤ many → own_records bits few level ≤ own_records bits many level
unfolding own_records
own_more bits few many zero le = omega arith
own_more bits few many (suc level) le = omega (arith, own_more bits few many level le)

pub words_more : (bits workers updates few many : ℕ) → few ≤ many → word_count (shape_of bits workers updates few) ≤ word_count (shape_of bits workers updates many)
words_more bits workers updates few many le = omega (arith, own_more bits few many bits le)

outside_none : (first last n : ℕ) → IsWithin first last n → IsOutside first last n → ⊥
outside_none first last n within (inl low) = omega (arith, within.0)
outside_none first last n within (inr high) = omega (arith, within.1)

-- no refusal but that for want of memory, where the trie has no more bits than the round
pub never_refused : (old bits workers updates members : ℕ) (cause : BeginError) → old ≤ bits → IsLayout (shape_of bits workers updates (2 ^ bits)) → members ≤ 2 ^ bits
    → (cause ≡ begin.BadBits → IsOutside 1 16 bits) → (cause ≡ begin.Narrower → bits < old)
    → (cause ≡ begin.BadWorkers → IsRefused layout.BadWorkers bits workers updates members)
    → (cause ≡ begin.BadUpdates → IsRefused layout.BadUpdates bits workers updates members)
    → (cause ≡ begin.TooLarge → IsRefused layout.TooLarge bits workers updates members)
    → (cause ≡ begin.OutOfMemory → ⊥) → ⊥
never_refused old bits workers updates members begin.BadWorkers wider laid few bad_bits narrower bad_workers bad_updates too_large memory = outside_none 1 64 workers laid.workers (bad_workers refl).1
never_refused old bits workers updates members begin.BadUpdates wider laid few bad_bits narrower bad_workers bad_updates too_large memory = outside_none 1 65536 updates laid.updates (bad_updates refl).2
never_refused old bits workers updates members begin.TooLarge wider laid few bad_bits narrower bad_workers bad_updates too_large memory = omega (arith, laid.words, (too_large refl).3, words_more bits workers updates members (2 ^ bits) few)
never_refused old bits workers updates members begin.OutOfMemory wider laid few bad_bits narrower bad_workers bad_updates too_large memory = memory refl
never_refused old bits workers updates members begin.BadBits wider laid few bad_bits narrower bad_workers bad_updates too_large memory = outside_none 1 16 bits laid.bits (bad_bits refl)
never_refused old bits workers updates members begin.Narrower wider laid few bad_bits narrower bad_workers bad_updates too_large memory = omega (arith, wider, narrower refl)
