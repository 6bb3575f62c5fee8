-- What a walk over two snapshots at once keeps of the words of who walks, and which names of nodes it has.
use Rattle.std.specs.Prelude.{◌≡◌, ℕ, ◌+◌, ◌*◌, ◌≤◌, List, ◌++◌, length}
use Rattle.aug_core.specs.inside.RootCuts.{root_cut}
use Rattle.aug_core.specs.declared.step.StepTaken.{StepTaken}
use Rattle.aug_core.specs.declared.view.SeatView.{SeatView}
use Rattle.aug_model.specs.declared.calls.Calls.{Calls}
use Rattle.aug_query.specs.DescendBoth.{BothSets}
use Rattle.aug_query.specs.Tree.{IsTreeSet}
use Rattle.aug_words.specs.Seats.{Known}
use Rattle.aug_trie.specs.Snapshot.{index_in}
use Rattle.aug_trie.specs.inside.Knows.{root_numbers}
use Rattle.aug_trie.specs.inside.NamedCuts.{cut_named}
use Rattle.aug_trie.specs.inside.NodesUnder.{same_under, IsNodeUnder}
use Rattle.aug_trie.specs.inside.SnapshotWalk.{set_seen}
use Rattle.aug_trie.specs.declared.queries.snapshot.Snapshot.{Snapshot}
use Rattle.aug_trie.specs.inside.Goes.{KnowsRecords}

-- the index of the root's entry that a snapshot saw
abbrev pub top_of : SeatView → Snapshot → ℕ
top_of v s = index_in (root_numbers v.shape v.seen) s

-- the sets that two snapshots show, and where their trees have the same node
abbrev pub both_seen : SeatView → Snapshot → Snapshot → BothSets
both_seen v earlier later = record { earlier = set_seen v earlier; later = set_seen v later; same = same_under v.shape v.seen (top_of v earlier) (top_of v later) }

module _ (face : ℕ → ℕ → List (ℕ × ℕ) → List ℕ) where
  -- the word names the node at a level and a place of the snapshot's tree
  pub record IsNamedUnder (v : SeatView) (s : Snapshot) (level place word : ℕ) : Type 0 where
    pub knows_records : KnowsRecords face v
    pub is_tree_set : IsTreeSet (set_seen v s)
    pub cut_is : cut_named v.shape v.seen s ≡ root_cut v.shape v.seen (top_of v s)
    pub node : IsNodeUnder v.shape v.seen (top_of v s) level place word

  -- two words name those of both trees
  pub record IsNamedInBoth (v : SeatView) (earlier later : Snapshot) (level place : ℕ) (words : ℕ × ℕ) : Type 0 where
    pub in_earlier : IsNamedUnder v earlier level place words.0
    pub in_later : IsNamedUnder v later level place words.1

  -- what a walk goes by: the bits of its keys, both roots, and that what names a record is its number
  pub record IsBothWalk (number : ℕ → ℕ) (v : SeatView) (earlier later : Snapshot) (bits : ℕ) : Type 0 where
    pub plain : (word : ℕ) → number word ≡ word
    pub bits_are : bits ≡ v.shape.bits
    pub tops : IsNamedInBoth v earlier later bits 0 (earlier.number, later.number)

-- a walk as contracts see it: what its pass knows of the words, both snapshots, the bits of their keys, and how often children were loaded
pub record WalkingBoth : Type 0 where
  pub words : Known
  pub earlier : Snapshot
  pub later : Snapshot
  pub bits : ℕ
  pub loaded : Calls

-- the walk is over the same snapshots and pass, which made no more than two steps for each load of children, and learnt nothing
pub record KeepsBoth (first now : WalkingBoth) : Type 0 where
  pub same_table : now.words.table ≡ first.words.table
  pub same_earlier : now.earlier ≡ first.earlier
  pub same_later : now.later ≡ first.later
  pub more : List StepTaken
  pub steps : now.words.view ≡ record first.words.view { steps = first.words.view.steps ++ more }
  pub few_steps : length more + 2 * first.loaded.made ≤ 2 * now.loaded.made
