-- The fold of a list of keys, each with its weight, in a monoid. Values are joined in the order of the list, so a join need not commute. With `Sum`
-- the fold of the example is 4, and 8 once 1 weighs 5.
use Rattle.std.specs.Prelude.{ℕ, List, [], ◌∷◌}
use Rattle.aug_monoid.specs.Parts.{Parts}

module _ {M : Type 0} (parts : Parts M) where
  -- the join of the values of the keys with their weights, in the order of the list; the unit for no keys
  abbrev pub fold_of : List (ℕ × ℕ) → M
  fold_of [] = parts.unit
  fold_of (p ∷ ps) = parts.join (parts.of_key p.0 p.1) (fold_of ps)
