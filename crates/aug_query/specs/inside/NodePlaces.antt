-- Levels and places of nodes, and where a node's children meet.
use Rattle.std.specs.Prelude.{◌≡◌, ℕ, ◌+◌, ◌-◌, ◌*◌, ◌^◌, ◌≤◌}
use Rattle.aug_model.specs.NodeKeys.{end_key}

-- the least key that the right child of the node at a level and a place covers
abbrev pub middle_key : ℕ → ℕ → ℕ
middle_key level place = (2 * place + 1) * 2 ^ (level - 1)

-- a level and a place of a tree of at most 16 bits
pub record IsPlace (level place : ℕ) : Type 0 where
  pub few_levels : level ≤ 16
  pub few_keys : end_key level place ≤ 2 ^ 16

module _ {Tree Node : Type 0} (HasNode : Tree → Node → Type 0) (level_of place_of : Node → ℕ) where
  -- the node is the tree's, at a level and a place
  pub record NamesNode (tree : Tree) (level place : ℕ) (node : Node) : Type 0 where
    pub has : HasNode tree node
    pub at_level : level_of node ≡ level
    pub at_place : place_of node ≡ place
