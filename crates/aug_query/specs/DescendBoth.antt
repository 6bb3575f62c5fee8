-- Two sets of keys with weights, an earlier and a later one, whose trees a comparison descends at once, and what it loads. The trees may share what did
-- not change: then two nodes at one level and place can be seen to be the same, and nothing below them is loaded. In the example, with 0 put in, the
-- left children of the two tops differ, and the right ones are the same: the changes are found by loads of four children, those of the two tops and
-- those of the two left children, which are keys.
use Rattle.std.specs.Prelude.{◌≡◌, ℕ, zero, suc, ◌+◌, ◌*◌, ◌^◌, ◌≤◌, nat_le, ◌||◌, Bool, true, if◌then◌else◌}
use Rattle.aug_model.specs.Keys.{SetFacts}
use Rattle.aug_model.specs.NodeKeys.{end_key, pairs_below}
use Rattle.aug_query.specs.Tree.{IsTreeSet}

-- two sets, and whether the nodes of both at a level and a place are seen to be the same
pub record BothSets : Type 0 where
  pub earlier : SetFacts
  pub later : SetFacts
  pub same : ℕ → ℕ → Bool

-- both are sets of keys of so many bits
pub record AreBoth (both : BothSets) : Type 0 where
  pub is_earlier : IsTreeSet both.earlier
  pub is_later : IsTreeSet both.later
  pub same_bits : both.later.bits ≡ both.earlier.bits

-- nodes at a level and a place stand within both trees, and if they are seen to be the same, they cover the same members with the same weights
pub record StandInBoth (both : BothSets) (level place : ℕ) : Type 0 where
  pub are_both : AreBoth both
  pub level_fits : level ≤ both.earlier.bits
  pub place_fits : end_key level place ≤ 2 ^ both.earlier.bits
  pub same_below : both.same level place ≡ true → pairs_below both.earlier.pairs level place ≡ pairs_below both.later.pairs level place

-- at how many levels and places, from these down, the nodes that have children differ, and cover keys from k on. Below nodes that are the same none is
-- counted
unfoldable pub nodes_that_differ : (ℕ → ℕ → Bool) → ℕ → ℕ → ℕ → ℕ
nodes_that_differ same k zero place = 0
nodes_that_differ same k (suc level) place =
    if nat_le (end_key (suc level) place) k || same (suc level) place then 0 else 1 + (nodes_that_differ same k level (2 * place) + nodes_that_differ same k level (2 * place + 1))

-- of both trees
abbrev pub differing_nodes : BothSets → ℕ → ℕ
differing_nodes both k = nodes_that_differ both.same k both.earlier.bits 0

module _ {Trees Name : Type 0} (both_of : Trees → BothSets) (loads_of : Trees → ℕ) (Names : Trees → ℕ → ℕ → Name → Type 0) (KeepsRest : Trees → Trees → Type 0) where
  -- two trees after at most so many loads of a child of both: they have the same sets, names of nodes are still names of them, and the rest is kept
  pub record DescendsBoth (loads : ℕ) (old new : Trees) : Type 0 where
    pub same_sets : both_of new ≡ both_of old
    pub few_loads : loads_of new ≤ loads_of old + loads
    pub keeps_names : (level place : ℕ) (name : Name) → Names old level place name → Names new level place name
    pub keeps_rest : KeepsRest old new
