-- The laws of a trie at rest as a tree.
use Rattle.std.proofs.Common.{refl, ap, ◌∙◌}
use Rattle.aug_trie.specs.Ended.{EndedFacts, KeepsEnded}

-- a trie that no call has walked keeps it
pub kept_so : (trie : EndedFacts) → KeepsEnded trie trie
kept_so trie = refl

-- what two walks keep, the one after the other, the walk of both keeps
pub kept_on : (first trie last : EndedFacts) → KeepsEnded first trie → KeepsEnded trie last → KeepsEnded first last
kept_on first trie last a b = b ∙ ap (λ (z : EndedFacts). record z { calls = last.calls }) a
