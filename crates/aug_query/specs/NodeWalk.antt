-- What a walk over a tree whose nodes are loaded whole keeps of it. Each visited node is one call of `top`, `left` or `right`; counts and summaries
-- cost no call.
use Rattle.std.specs.Prelude.{◌≡◌, ℕ, ◌+◌, ◌≤◌}
use Rattle.std.specs.Borrow.{MutBor}
use Rattle.aug_query.specs.declared.loaded.Loaded.{Loaded}

module _ {Tree Node : Type 0} (calls_of : Tree → ℕ) (HasNode : Tree → Node → Type 0) (KeepsRest : Tree → Tree → Type 0) where
  -- the walk is over the same tree, which had no more calls than nodes were gone to, keeps its nodes, and the rest that a walk keeps
  pub record KeepsWalk (first now : MutBor Tree) (loads_first loads_now : Loaded) : Type 0 where
    pub same_reference : now.ghost_name ≡ first.ghost_name
    pub counts : calls_of first.now ≤ calls_of now.now
    pub few_calls : calls_of now.now + loads_first.nodes.made ≤ calls_of first.now + loads_now.nodes.made
    pub keeps_nodes : (node : Node) → HasNode first.now node → HasNode now.now node
    pub keeps_rest : KeepsRest first.now now.now
