-- Nodes of a tree in memory.
use Rattle.std.specs.Prelude.{◌≡◌, ℕ, List}
use Rattle.aug_model.specs.Keys.{SetFacts}
use Rattle.aug_model.specs.Queries.{weight_in}
use Rattle.aug_model.specs.declared.summary.Summary.{Summary}
use Rattle.aug_query.specs.Tree.{IsNodeOf}

module _ {A B : Type 0} (summary_of : List (ℕ × ℕ) → Summary A B) where
  -- a node of the tree of a set; a leaf also knows its key's weight
  pub record IsFakeNode (set : SetFacts) (level place weight : ℕ) (told : Summary A B) : Type 0 where
    pub is_node : IsNodeOf summary_of set level place told
    pub weighs : level ≡ 0 → weight ≡ weight_in set.pairs place
