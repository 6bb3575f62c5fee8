-- What is known of the nodes on a way down: their names, how many members they cover, the names that a cursor keeps, and what stands beside its way.
use Rattle.std.specs.Prelude.{◌≡◌, ◌⊎◌, ℕ, ◌+◌, ◌-◌, ◌*◌, ◌/◌, ◌^◌, ◌<◌, Option, Some, List, length, slice_index_or}
use Rattle.aug_model.specs.Keys.{SetFacts, list_of}
use Rattle.aug_model.specs.NodeKeys.{keys_below}
use Rattle.aug_model.specs.Queries.{weight_of}
use Rattle.aug_query.specs.Descend.{Descends}
use Rattle.aug_query.specs.Tree.{IsTreeSet}
use Rattle.aug_query.specs.declared.descent.cursor.Cursor.{Cursor}
use Rattle.aug_query.specs.declared.loaded.Loaded.{Loaded}

-- a descent came to the node at a level and a place by so many loads of each kind
pub record ReachesNode {Tree Name : Type 0} (set_of : Tree → SetFacts) (loads_of : Tree → Loaded) (Names : Tree → ℕ → ℕ → Name → Type 0) (KeepsRest : Tree → Tree → Type 0) (nodes counts summaries passed level place : ℕ) (old : Tree) (node : Name) (new : Tree) : Type 0 where
  pub descends : Descends set_of loads_of Names KeepsRest nodes counts summaries passed old new
  pub name : Names new level place node

-- the node at a level and a place has this name, and covers so many members
pub record HasCount {Name : Type 0} (Names : ℕ → ℕ → Name → Type 0) (set : SetFacts) (level place : ℕ) (node : Name) (members : ℕ) : Type 0 where
  pub name : Names level place node
  pub count : members ≡ length (keys_below (list_of set) level place)

module _ {N : Type 0} (Names : ℕ → ℕ → N → Type 0) where
  -- it is the name of the node at a level and a place
  pub record IsNameOf (level place : ℕ) (found : Option N) : Type 0 where
    pub name : N
    pub there : found ≡ Some name
    pub names : Names level place name

  -- a path has the names of the nodes above the one at a level and a place, from the top down
  pub record IsPath (bits level place : ℕ) (path : List (Option N)) : Type 0 where
    pub long : length path + level ≡ bits
    pub each : (j : ℕ) (default : Option N) → j < length path → IsNameOf (bits - j) (place / 2 ^ (bits - j - level)) (slice_index_or path j default)

  -- opaque: a cursor of the tree of a set: it has the path to its key, and knows what that weighs
  pub record IsCursor (set : SetFacts) (c : Cursor N) : Type 0 where
    pub is_tree_set : IsTreeSet set
    pub within : c.key < 2 ^ set.bits
    pub path : IsPath set.bits 0 c.key c.path.items
    pub weighs : c.weight ≡ weight_of set.pairs c.key
    pub beside : (c.gap ≡ c.key) ⊎ (c.gap ≡ c.key + 1)

  -- the node is the right neighbour of the one at its level that covers a key, has the same parent, and covers members
  pub record IsRightOf (set : SetFacts) (key level : ℕ) (node : N) : Type 0 where
    pub low : level < set.bits
    pub parent : key / 2 ^ level ≡ 2 * (key / 2 ^ (level + 1))
    pub name : Names level (key / 2 ^ level + 1) node
    pub some : 0 < length (keys_below (list_of set) level (key / 2 ^ level + 1))

  -- or the left one
  pub record IsLeftOf (set : SetFacts) (key level : ℕ) (node : N) : Type 0 where
    pub low : level < set.bits
    pub parent : key / 2 ^ level ≡ 2 * (key / 2 ^ (level + 1)) + 1
    pub name : Names level (key / 2 ^ level - 1) node
    pub some : 0 < length (keys_below (list_of set) level (key / 2 ^ level - 1))
