-- What a tree of a set of keys is: its nodes, each with the summary of the members that it covers, and the calls that walk it. `KeepsRest` is a
-- relation that the implementor of the trait chooses and that queries preserve: with it, a tree that borrows something else can say what happened to
-- that. In the example the summary of node 0 on level 1 is that of the member 1.
use Rattle.std.specs.Prelude.{◌≡◌, ℕ, ◌+◌, ◌^◌, ◌≤◌, List, All}
use Rattle.aug_model.specs.Keys.{IsKeySet, SetFacts, list_of, pairs_of}
use Rattle.aug_model.specs.Queries.{weight_in}
use Rattle.aug_model.specs.NodeKeys.{end_key, keys_below}
use Rattle.aug_monoid.specs.Weighted.{FitsPair}
use Rattle.aug_model.specs.declared.summary.Summary.{Summary}

-- a tree is of a set of keys of 1 to 16 bits, with weights of 32 bits
pub record IsTreeSet (set : SetFacts) : Type 0 where
  pub some_bits : 1 ≤ set.bits
  pub few_bits : set.bits ≤ 16
  pub is_key_set : IsKeySet set.bits (list_of set)
  pub fit : All FitsPair set.pairs

-- the summary of some members of a set, each with its weight
abbrev pub sum_of : {A B : Type 0} → (List (ℕ × ℕ) → Summary A B) → List (ℕ × ℕ) → List ℕ → Summary A B
sum_of summary_of pairs keys = summary_of (pairs_of (weight_in pairs) keys)

module _ {A B : Type 0} (summary_of : List (ℕ × ℕ) → Summary A B) where
  -- a node of the tree of a set stands at a level and a place of the tree, and has the summary of the members that it covers
  pub record IsNodeOf (set : SetFacts) (level place : ℕ) (told : Summary A B) : Type 0 where
    pub is_tree_set : IsTreeSet set
    pub level_fits : level ≤ set.bits
    pub place_fits : end_key level place ≤ 2 ^ set.bits
    pub tells : told ≡ sum_of summary_of set.pairs (keys_below (list_of set) level place)

module _ {Tree Node : Type 0} (set_of : Tree → SetFacts) (calls_of : Tree → ℕ) (HasNode : Tree → Node → Type 0) (KeepsRest : Tree → Tree → Type 0) where
  -- after some calls of top, left and right a tree is of the set that it was of, its nodes are its nodes still, and the rest is kept that a walk keeps
  pub record Walks (calls : ℕ) (old new : Tree) : Type 0 where
    pub same_set : set_of new ≡ set_of old
    pub counts : calls_of new ≡ calls_of old + calls
    pub keeps_nodes : (node : Node) → HasNode old node → HasNode new node
    pub keeps_rest : KeepsRest old new

  -- the same after at most `calls` calls
  pub record WalksAtMost (calls : ℕ) (old new : Tree) : Type 0 where
    pub same_set : set_of new ≡ set_of old
    pub counts : calls_of old ≤ calls_of new
    pub few_calls : calls_of new ≤ calls_of old + calls
    pub keeps_nodes : (node : Node) → HasNode old node → HasNode new node
    pub keeps_rest : KeepsRest old new
