-- What a summary says of a list of keys with weights: how many there are, and their folds in two monoids. With `Sum` and `Extent` these are 2, 4 and
-- (1, 3) in the example.
use Rattle.std.specs.Prelude.{ℕ, List, length}
use Rattle.aug_monoid.specs.Fold.{fold_of}
use Rattle.aug_monoid.specs.Parts.{Parts}
use Rattle.aug_model.specs.declared.summary.Summary.{Summary}

module _ {A B : Type 0} (parts_a : Parts A) (parts_b : Parts B) where
  -- how many keys the list has, and its two folds
  abbrev pub summary_of : List (ℕ × ℕ) → Summary A B
  summary_of pairs = record { count = length pairs; a = fold_of parts_a pairs; b = fold_of parts_b pairs }
