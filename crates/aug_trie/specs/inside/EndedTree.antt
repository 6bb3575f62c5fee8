-- The nodes of the tree of a trie at rest, and the words that name them.
use Rattle.std.specs.Prelude.{◌≡◌, ℕ, zero, suc, ◌+◌, ◌*◌, ◌%◌, ◌^◌, ◌<◌, ◌≤◌, List, slice_index}
use Rattle.aug_words.specs.Rests.{AtRest}
use Rattle.aug_core.specs.Places.{record_start, record_count, record_words}
use Rattle.aug_model.specs.Queries.{weight_in}
use Rattle.aug_query.specs.Tree.{IsTreeSet, IsNodeOf}
use Rattle.aug_model.specs.NodeKeys.{end_key, pairs_below}
use Rattle.aug_model.specs.declared.summary.Summary.{Summary}
use Rattle.aug_trie.specs.LeafWords.{serial_in_word, weight_in_word}
use Rattle.aug_trie.specs.inside.LeafPairs.{leaf_pairs}
use Rattle.aug_trie.specs.declared.rounds.ended_tree.EndedNode.{EndedNode}
use Rattle.aug_trie.specs.Ended.{EndedFacts, set_of_ended}

-- a word of the record with a number, its five words counted from 0
abbrev pub word_in : AtRest → ℕ → ℕ → ℕ
word_in rest number field = slice_index rest.words (record_start rest.shape number + field)

-- the word is a leaf's: it says whether its key is one of the set, and with which weight; that of a key that is absent is 0
pub record IsLeafOf (pairs : List (ℕ × ℕ)) (place word : ℕ) : Type 0 where
  pub says : pairs_below pairs zero place ≡ leaf_pairs place word
  pub none_if_even : serial_in_word word % 2 ≡ 0 → weight_in_word word ≡ 0

module _ (face : ℕ → ℕ → List (ℕ × ℕ) → List ℕ) where
  -- the record is one of the table, and its words are those of a node with these members below it
  pub record IsRecordOf (rest : AtRest) (members : List (ℕ × ℕ)) (number : ℕ) : Type 0 where
    pub inside : number < record_count rest.shape
    pub says : (field : ℕ) → field < record_words → word_in rest number field ≡ slice_index (face (word_in rest number 0) (word_in rest number 1) members) field

  -- the word names a version of the tree of a set, at a level and a place: down to the leaves every record summarizes the set's members that it
  -- covers
  abbrev pub IsVersion : AtRest → List (ℕ × ℕ) → ℕ → ℕ → ℕ → Type 0
  IsVersion rest pairs zero place word = IsLeafOf pairs place word
  IsVersion rest pairs (suc level) place word = IsRecordOf rest (pairs_below pairs (suc level) place) word
      × IsVersion rest pairs level (2 * place) (word_in rest word 0) × IsVersion rest pairs level (2 * place + 1) (word_in rest word 1)

module _ (face : ℕ → ℕ → List (ℕ × ℕ) → List ℕ) where
  -- the word names the node at a level and a place of the trie's tree
  pub record NamesEnded (ended : EndedFacts) (level place word : ℕ) : Type 0 where
    pub is_tree_set : IsTreeSet (set_of_ended ended)
    pub level_fits : level ≤ ended.bits
    pub place_fits : end_key level place ≤ 2 ^ ended.bits
    pub is_version : IsVersion face ended.rest ended.members level place word

module _ {A B : Type 0} (face : ℕ → ℕ → List (ℕ × ℕ) → List ℕ) (summary_of : List (ℕ × ℕ) → Summary A B) where
  -- the node is one of the trie's tree: its word names the version below it, it has the summary of the members that it covers, and a leaf has the
  -- weight of its key
  pub record HasEndedNode (ended : EndedFacts) (node : EndedNode A B) : Type 0 where
    pub is_version : IsVersion face ended.rest ended.members node.level node.place node.word
    pub is_node : IsNodeOf summary_of (set_of_ended ended) node.level node.place node.summary
    pub weighs : node.level ≡ 0 → weight_in_word node.word ≡ weight_in ended.members node.place
