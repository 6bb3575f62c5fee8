-- How a member is taken out that a snapshot shows.
use Rattle.std.specs.Prelude.{◌≡◌, ℕ, ◌+◌, List, Option, Some, IfSome, option_map}
use Rattle.aug_model.specs.Keys.{SetFacts, list_of}
use Rattle.aug_model.specs.Queries.{weight_of}
use Rattle.aug_model.specs.declared.summary.Summary.{Summary}
use Rattle.aug_trie.specs.Node.{Reads}
use Rattle.aug_trie.specs.Pass.{PassFacts}
use Rattle.aug_trie.specs.Pops.{PopsTo, member_at}
use Rattle.aug_trie.specs.declared.rounds.pop.Side.{Side}
use Rattle.aug_trie.specs.declared.rounds.pop.Pop.{Pop}

-- the pass asks what the member weighs, and takes it out
pub record TakesShown {A B : Type 0} (summary_of : List (ℕ × ℕ) → Summary A B) (set : SetFacts) (found : Option ℕ) (done : Pop) (old new : PassFacts) : Type 0 where
  pub asked : PassFacts
  pub reads : Reads summary_of (old.round.bits + 2) old asked
  pub pops_to : PopsTo summary_of set found done asked new

-- the member at one end of a set, with its weight
pub record SeesMember (side : Side) (set : SetFacts) (seen : Option (ℕ × ℕ)) : Type 0 where
  pub key : member_at side (list_of set) ≡ option_map (λ p. p.0) seen
  pub weighs : IfSome seen (λ p. weight_of set.pairs p.0 ≡ Some p.1)
