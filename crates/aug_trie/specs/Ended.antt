-- What contracts see of a trie at rest, and what a query keeps of it.
use Rattle.std.specs.Prelude.{◌≡◌, ℕ, List, []}
use Rattle.aug_model.specs.Keys.{SetFacts}
use Rattle.aug_words.specs.Rests.{AtRest}

-- a trie at rest: its bits and members with their weights, the result of the round that ended with it, how often queries called it, and the words
-- and the root's record that its members are read from
pub record EndedFacts : Type 0 where
  pub bits : ℕ
  pub members : List (ℕ × ℕ)
  pub inserts : ℕ
  pub removals : ℕ
  pub missing : ℕ
  pub calls : ℕ
  pub rest : AtRest
  pub root : ℕ

-- its set, with its bits
abbrev pub set_of_ended : EndedFacts → SetFacts
set_of_ended ended = record { bits = ended.bits; pairs = ended.members }

-- the trie of the empty set, which no round ended
abbrev pub IsEmptyTrie : ℕ → EndedFacts → Type 0
IsEmptyTrie bits ended = ended ≡ record ended { bits = bits; members = []; inserts = 0; removals = 0; missing = 0; calls = 0 }

-- a walk changes nothing of the trie but how often it was called
abbrev pub KeepsEnded : EndedFacts → EndedFacts → Type 0
KeepsEnded old new = new ≡ record old { calls = new.calls }
