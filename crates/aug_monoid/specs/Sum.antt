-- The sum of the weights, as a fold.
use Rattle.std.specs.Prelude.{ℕ, ◌^◌, ◌<◌}
use Rattle.aug_monoid.specs.Parts.{Parts}
use Rattle.aug_monoid.specs.Wrapping.{wrapped_sum}

-- each key counts its weight, and the sum is a word's number, modulo 2^64
abbrev pub sum_parts : Parts ℕ
sum_parts = record {
  IsProper = λ s. s < 2 ^ 64;
  unit = 0;
  of_key = λ _ w. w;
  join = wrapped_sum;
  to_word = λ s. s;
  from_word = λ w. w;
}
