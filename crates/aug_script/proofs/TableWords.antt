-- How many words a table has if every key may be a member at the opening.
use Rattle.std.proofs.Common.{◌≡◌, ℕ, zero, suc, ◌+◌, ◌-◌, ◌*◌, ◌^◌, ◌≤◌, ap, arith}
use Rattle.std.specs.Prelude.{min}
use Rattle.std.proofs.Math.Nat.{min-eq_left}
use Rattle.std.proofs.Math.Pow.{pow_mono}
use Rattle.aug_core.specs.Places.{own_records, shape_of, word_count}
use Rattle.aug_core.proofs.PlaceLemmas.{doubled_pow}
use Rattle.aug_core.proofs.Sizes.{own_none, own_more}
use Rattle.aug_script.specs.Limits.{Bounds, words_of}

-- each node up to a level has an own record, and those above it are as many as the level has nodes, less one
own_all : (bits level : ℕ) → level ≤ bits → own_records bits (2 ^ bits) level + 2 ^ (bits - level) ≡ 2 ^ bits
own_all bits zero le =
    let whole : bits - 0 ≡ bits = omega arith in
    omega (arith, own_none bits (2 ^ bits), ap (λ (z : ℕ). 2 ^ z) whole)
own_all bits (suc level) le =
    let least : min (2 ^ (bits - suc level)) (2 ^ bits) ≡ 2 ^ (bits - suc level) = min-eq_left (pow_mono {i = bits - suc level} {j = bits} (omega arith)) in
    omega (arith, own_more bits (2 ^ bits) level, least, doubled_pow (bits - level) (bits - suc level) (omega arith), own_all bits level (omega arith))

-- the words of a table, in closed form
pub table_words : (b : Bounds) → word_count (shape_of b.bits b.workers b.updates (2 ^ b.bits)) ≡ words_of b
table_words b =
    let root : b.bits - b.bits ≡ 0 = omega arith in
    let own : own_records b.bits (2 ^ b.bits) b.bits ≡ 2 ^ b.bits - 1 = omega (arith, own_all b.bits b.bits (omega arith), ap (λ (z : ℕ). 2 ^ z) root) in
    omega (arith, own)
