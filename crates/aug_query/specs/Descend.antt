-- What a descent keeps of the tree of a set of keys, and how much it loads. Each call of a tree notes its load as one more of its kind, so that a
-- bound on loads means something. A rank of the key 5 among the keys below 8 visits the top and two nodes below it, one of them past a counted node,
-- and counts one leaf.
use Rattle.std.specs.Prelude.{◌≡◌, ℕ, ◌+◌, ◌≤◌}
use Rattle.aug_model.specs.Keys.{SetFacts}
use Rattle.aug_query.specs.declared.loaded.Loaded.{Loaded}

-- nothing was loaded
abbrev pub nothing_loaded : Loaded
nothing_loaded = record { nodes = record { made = 0 }; counts = record { made = 0 }; summaries = record { made = 0 }; passed = record { made = 0 } }

-- one node more, and so for each other kind of load
abbrev pub one_more_node : Loaded → Loaded
one_more_node l = record l { nodes = record { made = l.nodes.made + 1 } }

abbrev pub one_more_past : Loaded → Loaded
one_more_past l = record l { nodes = record { made = l.nodes.made + 1 }; passed = record { made = l.passed.made + 1 } }

abbrev pub one_more_count : Loaded → Loaded
one_more_count l = record l { counts = record { made = l.counts.made + 1 } }

abbrev pub one_more_summary : Loaded → Loaded
one_more_summary l = record l { summaries = record { made = l.summaries.made + 1 } }

-- how much is loaded at most: nodes, counts of the members of a node, whole summaries, and nodes that are passed
pub record Loads : Type 0 where
  pub nodes : ℕ
  pub counts : ℕ
  pub summaries : ℕ
  pub passed : ℕ

abbrev pub loads : ℕ → ℕ → ℕ → ℕ → Loads
loads nodes counts summaries passed = record { nodes = nodes; counts = counts; summaries = summaries; passed = passed }

module _ {Tree Name : Type 0} (set_of : Tree → SetFacts) (loads_of : Tree → Loaded) (Names : Tree → ℕ → ℕ → Name → Type 0) (KeepsRest : Tree → Tree → Type 0) where
  -- a tree after at most `nodes`, `counts`, `summaries` and `passed` loads of the four kinds: it has the same set, names of nodes are still names of
  -- them, and the rest is kept
  pub record Descends (nodes counts summaries passed : ℕ) (old new : Tree) : Type 0 where
    pub same_set : set_of new ≡ set_of old
    pub few_nodes : (loads_of new).nodes.made ≤ (loads_of old).nodes.made + nodes
    pub few_counts : (loads_of new).counts.made ≤ (loads_of old).counts.made + counts
    pub few_summaries : (loads_of new).summaries.made ≤ (loads_of old).summaries.made + summaries
    pub few_passed : (loads_of new).passed.made ≤ (loads_of old).passed.made + passed
    pub keeps_names : (level place : ℕ) (name : Name) → Names old level place name → Names new level place name
    pub keeps_rest : KeepsRest old new

  -- the same of loads by one value
  abbrev pub DescendsBy : Loads → Tree → Tree → Type 0
  DescendsBy most old new = Descends most.nodes most.counts most.summaries most.passed old new
