-- What lies below a leaf, by its word.
use Rattle.std.specs.Prelude.{ℕ, ◌%◌, ◌==◌, if◌then◌else◌, List, [], ◌∷◌}
use Rattle.aug_trie.specs.LeafWords.{serial_in_word, weight_in_word}

-- the key with its weight if the serial is odd, and nothing otherwise
abbrev pub leaf_pairs : ℕ → ℕ → List (ℕ × ℕ)
leaf_pairs key word = if serial_in_word word % 2 == 1 then (key, weight_in_word word) ∷ [] else []
