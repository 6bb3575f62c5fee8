-- What a tree shows of a cut. The left child of the root in the example's second cut has the summary of 0 and 1.
use Rattle.std.specs.Prelude.{◌≡◌, ℕ, ◌+◌, ◌*◌, ◌^◌, ◌≤◌, List}
use Rattle.aug_model.specs.Queries.{weighted_range_of}
use Rattle.aug_model.specs.declared.summary.Summary.{Summary}
use Rattle.aug_core.specs.Cuts.{Cut, pairs_of_cut}

-- a node at a level and a place of the tree of a cut has the summary of the cut's keys that it covers, with their weights
pub record IsTreeOf {A B : Type 0} (summary_of : List (ℕ × ℕ) → Summary A B) (bits : ℕ) (cut : Cut) (level place : ℕ) (told : Summary A B) : Type 0 where
  pub place_fits : (place + 1) * 2 ^ level ≤ 2 ^ bits
  pub tells : told ≡ summary_of (weighted_range_of (pairs_of_cut cut) (place * 2 ^ level) ((place + 1) * 2 ^ level))
