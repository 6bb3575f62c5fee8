-- What the fields of a trie at rest keep, and how its members come of them.
use Rattle.std.specs.Prelude.{◌≡◌, ℕ, zero, suc, ◌+◌, ◌*◌, List, ◌++◌, All}
use Rattle.aug_core.specs.Layout.{IsLayout}
use Rattle.aug_model.specs.Keys.{IsKeySet, keys_of}
use Rattle.aug_monoid.specs.Weighted.{FitsPair}
use Rattle.aug_words.specs.Rests.{AtRest}
use Rattle.aug_trie.specs.inside.LeafPairs.{leaf_pairs}
use Rattle.aug_trie.specs.inside.EndedTree.{word_in, IsVersion}

-- the members, with their weights, that the version shows which a word names at a level and a place: a leaf's word has its serial and its weight, a
-- node's is the number of its record, whose first two words name its children
abbrev pub pairs_at_rest : AtRest → ℕ → ℕ → ℕ → List (ℕ × ℕ)
pairs_at_rest rest zero place word = leaf_pairs place word
pairs_at_rest rest (suc level) place word = pairs_at_rest rest level (2 * place) (word_in rest word 0) ++ pairs_at_rest rest level (2 * place + 1) (word_in rest word 1)

module _ (face : ℕ → ℕ → List (ℕ × ℕ) → List ℕ) where
  -- the root's record names a version of the tree of the members that it shows
  pub record HoldsVersion (rest : AtRest) (root bits : ℕ) : Type 0 where
    pub laid_out : IsLayout rest.shape
    pub bits_are : bits ≡ rest.shape.bits
    pub is_key_set : IsKeySet bits (keys_of (pairs_at_rest rest bits 0 root))
    pub fit : All FitsPair (pairs_at_rest rest bits 0 root)
    pub is_version : IsVersion face rest (pairs_at_rest rest bits 0 root) bits 0 root
