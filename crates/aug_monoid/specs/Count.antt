-- How many keys there are, as a fold.
use Rattle.std.specs.Prelude.{ℕ, ◌^◌, ◌<◌}
use Rattle.aug_monoid.specs.Parts.{Parts}
use Rattle.aug_monoid.specs.Wrapping.{wrapped_sum}

-- each key counts one, and the count is a word's number, modulo 2^64
abbrev pub count_parts : Parts ℕ
count_parts = record {
  IsProper = λ c. c < 2 ^ 64;
  unit = 0;
  of_key = λ _ _. 1;
  join = wrapped_sum;
  to_word = λ c. c;
  from_word = λ w. w;
}
