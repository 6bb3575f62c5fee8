-- What a walk over a snapshot keeps of the words of its pass, and which names of nodes it has.
use Rattle.std.specs.Prelude.{◌≡◌, ℕ, ◌+◌, ◌*◌, ◌≤◌, Option, Some, List, ◌++◌, length}
use Rattle.aug_core.specs.declared.step.StepTaken.{StepTaken}
use Rattle.aug_core.specs.declared.view.SeatView.{SeatView}
use Rattle.aug_model.specs.Keys.{SetFacts}
use Rattle.aug_query.specs.Tree.{IsTreeSet}
use Rattle.aug_query.specs.declared.loaded.Loaded.{Loaded}
use Rattle.aug_words.specs.Seats.{Known}
use Rattle.aug_trie.specs.inside.NodeWords.{HoldsNodeAt}
use Rattle.aug_trie.specs.inside.NamedCuts.{cut_named, members_of}
use Rattle.aug_trie.specs.declared.queries.snapshot.Snapshot.{Snapshot}
use Rattle.aug_trie.specs.inside.Goes.{ReadsBelow}

-- the set that a snapshot shows in what a pass has seen
abbrev pub set_seen : SeatView → Snapshot → SetFacts
set_seen v s = members_of v.shape.bits (cut_named v.shape v.seen s)

module _ (face : ℕ → ℕ → List (ℕ × ℕ) → List ℕ) (number : ℕ → ℕ) where
  -- the word names the node at a level and a place of the snapshot's tree
  pub record IsNamed (v : SeatView) (s : Snapshot) (level place word : ℕ) : Type 0 where
    pub reads : ReadsBelow face number v
    pub is_tree_set : IsTreeSet (set_seen v s)
    pub holds : HoldsNodeAt v (cut_named v.shape v.seen s) level place word

  -- what a walk goes by: the bits of its keys, and the root
  pub record IsWalk (v : SeatView) (s : Snapshot) (bits : ℕ) : Type 0 where
    pub bits_are : bits ≡ v.shape.bits
    pub top : IsNamed v s bits 0 s.number

  -- the words are there, and a walk goes by them
  pub record HasWalk (words : Option Known) (s : Snapshot) (bits : ℕ) : Type 0 where
    pub known : Known
    pub there : words ≡ Some known
    pub is_walk : IsWalk known.view s bits

-- a walk as contracts see it: what its pass knows of the words, the snapshot, the bits of its keys, and how much was loaded
pub record Walking : Type 0 where
  pub words : Known
  pub snapshot : Snapshot
  pub bits : ℕ
  pub loaded : Loaded

-- how many words at most such loads are: one for each node and count, three for a summary, and two more for a node that was passed
abbrev pub words_loaded : Loaded → ℕ
words_loaded l = l.nodes.made + l.counts.made + 3 * l.summaries.made + 2 * l.passed.made

-- the walk is over the same snapshot and pass, which made no more steps than words were loaded, and learnt nothing
pub record KeepsWords (first now : Known) (s_first s_now : Snapshot) (l_first l_now : Loaded) : Type 0 where
  pub same_table : now.table ≡ first.table
  pub same_snapshot : s_now ≡ s_first
  pub more : List StepTaken
  pub steps : now.view ≡ record first.view { steps = first.view.steps ++ more }
  pub few_steps : length more + words_loaded l_first ≤ words_loaded l_now
