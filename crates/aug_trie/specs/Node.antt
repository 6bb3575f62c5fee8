-- What contracts see of the nodes of a snapshot's tree, and which snapshots and nodes of a pass stay valid after a call.
use Rattle.std.specs.Prelude.{◌≡◌, ℕ, ◌+◌, ◌*◌, ◌≤◌, List, length}
use Rattle.aug_model.specs.declared.summary.Summary.{Summary}
use Rattle.aug_model.specs.Queries.{weight_in}
use Rattle.aug_query.specs.Tree.{IsTreeSet}
use Rattle.aug_query.specs.Descend.{Loads}
use Rattle.aug_core.specs.Prefixes.{IsPrefix}
use Rattle.aug_trie.specs.LeafWords.{weight_in_word}
use Rattle.aug_trie.specs.TreeOf.{IsTreeOf}
use Rattle.aug_trie.specs.Pass.{PassFacts, KeepWeights}
use Rattle.aug_trie.specs.inside.NodeWords.{IsNodeAt}
use Rattle.aug_trie.specs.Snapshot.{HasSnapshot, snapshot_cut, set_at}
use Rattle.aug_trie.specs.declared.queries.node.Node.{Node}
use Rattle.aug_trie.specs.declared.queries.snapshot.Snapshot.{Snapshot}

-- how many steps such loads are: one for each node and count, three for a summary, and two more for a node that is passed
abbrev pub steps_for : Loads → ℕ
steps_for most = most.nodes + most.counts + 3 * most.summaries + 2 * most.passed

module _ {A B : Type 0} (summary_of : List (ℕ × ℕ) → Summary A B) where
  -- the node belongs to the tree of a snapshot of the pass and has the summary of the members that it covers, and a leaf has the weight of its key
  pub record HasNode (pass : PassFacts) (node : Node A B) : Type 0 where
    pub of_pass : HasSnapshot pass node.snapshot
    pub is_tree_set : IsTreeSet (set_at pass node.snapshot)
    pub named : IsNodeAt pass.words.shape pass.words.book (snapshot_cut pass node.snapshot) node.level node.place node.word
    pub tells : IsTreeOf summary_of pass.round.bits (snapshot_cut pass node.snapshot) node.level node.place node.summary
    pub weighs : node.level ≡ 0 → weight_in_word node.word ≡ weight_in (set_at pass node.snapshot).pairs node.place

  -- each snapshot of the pass is still one of it, with the same cut and set, each node of a snapshot is still one of that snapshot, and what was known of
  -- weights is known
  pub record Keeps (old new : PassFacts) : Type 0 where
    pub snapshots : (s : Snapshot) → HasSnapshot old s → HasSnapshot new s
    pub same_cuts : (s : Snapshot) → HasSnapshot old s → snapshot_cut new s ≡ snapshot_cut old s
    pub same_sets : (s : Snapshot) → HasSnapshot old s → set_at new s ≡ set_at old s
    pub nodes : (node : Node A B) → HasNode old node → HasNode new node
    pub weights : KeepWeights old.words new.words

  -- the pass made steps from which it learned nothing new
  pub record Stays (old new : PassFacts) : Type 0 where
    pub same : new ≡ record old { steps = new.steps; words = new.words }
    pub steps_stay : IsPrefix old.steps new.steps
    pub keeps : Keeps old new

  -- and it made at most `most` of them
  pub record Reads (most : ℕ) (old new : PassFacts) : Type 0 where
    pub stays : Stays old new
    pub few_steps : length new.steps ≤ length old.steps + most
