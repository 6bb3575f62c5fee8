-- The tree over the leaves and the inner nodes, by their words. The children of the node at a word q lie side by side. In the example the children of
-- the node at 6 are at 4 and 5, and those of the node at 4 are the leaves 0 and 1. The node at level 1 and place 1 is at 5. From here on only the
-- place of its word in the row names a leaf or a node.
use Rattle.std.specs.Prelude.{ℕ, zero, suc, ◌+◌, ◌-◌, ◌*◌, ◌^◌, ◌<◌, ◌≤◌, nat_lt, if◌then◌else◌}
use Rattle.aug_core.specs.Places.{Shape, level_start}

-- how many words the leaves and the inner nodes have
abbrev pub place_count : Shape → ℕ
place_count s = 2 ^ (s.bits + 1) - 1

-- the word is an inner node's
pub record IsInner (s : Shape) (q : ℕ) : Type 0 where
  pub past_leaves : 2 ^ s.bits ≤ q
  pub inside : q < place_count s

-- the word of the left child of an inner node
abbrev pub left_of : Shape → ℕ → ℕ
left_of s q = 2 * (q - 2 ^ s.bits)

-- the word of the right child of an inner node
abbrev pub right_of : Shape → ℕ → ℕ
right_of s q = 2 * (q - 2 ^ s.bits) + 1

-- the word of the root
abbrev pub root_place : Shape → ℕ
root_place s = 2 ^ (s.bits + 1) - 2

-- the last level up to this one that begins no later than the word
abbrev pub level_up_to : Shape → ℕ → ℕ → ℕ
level_up_to s zero q = 0
level_up_to s (suc level) q = if nat_lt q (level_start s (suc level)) then level_up_to s level q else suc level

-- the level of a leaf or an inner node, and its place on it
abbrev pub level_of : Shape → ℕ → ℕ
level_of s q = level_up_to s s.bits q

abbrev pub place_on : Shape → ℕ → ℕ
place_on s q = q - level_start s (level_of s q)
