-- Sums modulo 2^64 keep the laws of a monoid.
use Rattle.std.proofs.Common.{◌≡◌, ℕ, ◌+◌, ◌%◌, ◌^◌, ◌<◌, sym, ap, ◌∙◌, add_assoc, zero-add, add-zero, arith, lit<}
use Rattle.std.proofs.Math.Nat.{mod-lt, mod-add-mod, add-mod-mod, mod-eq_of_lt}
use Rattle.aug_monoid.specs.Wrapping.{wrapped_sum}

pub wrapped_sum-fits : (x y : ℕ) → wrapped_sum x y < 2 ^ 64
wrapped_sum-fits x y = mod-lt (x + y) (lit< tt)

pub wrapped_sum-assoc : (x y z : ℕ) → wrapped_sum (wrapped_sum x y) z ≡ wrapped_sum x (wrapped_sum y z)
wrapped_sum-assoc x y z =
    mod-add-mod (x + y) (2 ^ 64) z ∙ ap (λ (n : ℕ). n % 2 ^ 64) (add_assoc x y z) ∙ sym (add-mod-mod x (y + z) (2 ^ 64))

pub wrapped_sum-zero_left : (x : ℕ) → x < 2 ^ 64 → wrapped_sum 0 x ≡ x
wrapped_sum-zero_left x fits = ap (λ (n : ℕ). n % 2 ^ 64) (zero-add x) ∙ mod-eq_of_lt fits

pub wrapped_sum-zero_right : (x : ℕ) → x < 2 ^ 64 → wrapped_sum x 0 ≡ x
wrapped_sum-zero_right x fits = ap (λ (n : ℕ). n % 2 ^ 64) (add-zero x) ∙ mod-eq_of_lt fits

-- a weight fits in a word
pub weight_fits : (w : ℕ) → w < 2 ^ 32 → w < 2 ^ 64
weight_fits w fits = omega arith
