-- No fold at all.
use Rattle.aug_monoid.specs.Parts.{Parts}
use Rattle.aug_monoid.specs.declared.nothing.Nothing.{Nothing}

-- there is one value, and its word is 0
abbrev pub nothing_parts : Parts Nothing
nothing_parts = record {
  IsProper = λ _. Unit {0};
  unit = record {};
  of_key = λ _ _. record {};
  join = λ _ _. record {};
  to_word = λ _. 0;
  from_word = λ _. record {};
}
