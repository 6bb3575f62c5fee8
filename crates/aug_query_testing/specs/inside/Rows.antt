-- What a tree in memory keeps: a list of rows, one a level from the leaves up, with a summary for each node.
use Rattle.std.specs.Prelude.{◌≡◌, ℕ, ◌+◌, ◌-◌, ◌*◌, ◌^◌, ◌<◌, ◌≤◌, List, ◌++◌, length, slice_index_or}
use Rattle.std.specs.List.{All}
use Rattle.aug_model.specs.Keys.{keys_of}
use Rattle.aug_model.specs.Queries.{weight_in}
use Rattle.aug_monoid.specs.Weighted.{FitsPair}
use Rattle.aug_model.specs.declared.summary.Summary.{Summary}
use Rattle.aug_query.specs.Tree.{IsTreeSet, sum_of}
use Rattle.aug_model.specs.NodeKeys.{keys_below}

-- a list of weights has the weight of each key below 2 ^ bits, which is 0 if the key is no member
pub record HasWeights (bits : ℕ) (pairs : List (ℕ × ℕ)) (weights : List ℕ) : Type 0 where
  pub all : length weights ≡ 2 ^ bits
  pub weigh : (key default : ℕ) → key < length weights → slice_index_or weights key default ≡ weight_in pairs key

module _ {A B : Type 0} (summary_of : List (ℕ × ℕ) → Summary A B) where
  -- a row of nodes, each with two neighbours of the row below it as its children
  pub record JoinsPairs (row above : List (Summary A B)) : Type 0 where
    pub all : 2 * length above ≤ length row
    pub no_more : length row ≤ 2 * length above + 1
    pub joins : (place : ℕ) (default : Summary A B) (xs ys : List (ℕ × ℕ)) → place < length above → All FitsPair xs → All FitsPair ys
        → slice_index_or row (2 * place) default ≡ summary_of xs → slice_index_or row (2 * place + 1) default ≡ summary_of ys → slice_index_or above place default ≡ summary_of (xs ++ ys)

  module _ (bits : ℕ) (pairs : List (ℕ × ℕ)) where
    -- a row has the summary of each node of its level
    pub record IsRow (level : ℕ) (row : List (Summary A B)) : Type 0 where
      pub all : length row ≡ 2 ^ (bits - level)
      pub tells : (place : ℕ) (default : Summary A B) → place < length row → slice_index_or row place default ≡ sum_of summary_of pairs (keys_below (keys_of pairs) level place)

    -- the rows are those of all levels, and the weights those of all keys
    pub record HoldsTree (rows : List (List (Summary A B))) (weights : List ℕ) : Type 0 where
      pub is_tree_set : IsTreeSet (record { bits = bits; pairs = pairs })
      pub all : length rows ≡ bits + 1
      pub each : (level : ℕ) (default : List (Summary A B)) → level ≤ bits → IsRow level (slice_index_or rows level default)
      pub weigh : HasWeights bits pairs weights
