-- How knowledge goes from a crew to a pass and back, and by a note.
use Rattle.std.specs.Prelude.{◌≡◌, ◌⊎◌, ℕ, ◌≤◌, [], ◌++◌}
use Rattle.aug_core.specs.Prefixes.{IsPrefix}
use Rattle.aug_trie.specs.Chains.{Chain, IsPart}
use Rattle.aug_trie.specs.Note.{NoteFacts, chain_of_note}
use Rattle.aug_trie.specs.Knowledge.{Knowledge}

-- a new pass knows the history that its crew then knows, and no accepted change
pub record HandedOut (old new pass : Knowledge) : Type 0 where
  pub goes_on : IsPrefix old.history new.history
  pub same_changes : new.accepted ≡ old.accepted
  pub pass_knows : pass ≡ record { history = new.history; accepted = [] }

-- the crew's and the pass's history are of one piece, and the crew then knows both, and the changes of both
pub record HandedBack (old pass new : Knowledge) : Type 0 where
  pub one_piece : IsPrefix old.history pass.history ⊎ IsPrefix pass.history old.history
  pub goes_on : IsPrefix old.history new.history
  pub takes_up : IsPrefix pass.history new.history
  pub changes_of_both : new.accepted ≡ old.accepted ++ pass.accepted

-- a pass or a crew of this era learns a note of its table: what this tells of the table's rounds and what was known of them are of one piece, and both are
-- known then, beside the changes that were known
pub record HasLearnt (era : ℕ) (old_chain : Chain) (old : Knowledge) (note : NoteFacts) (new_chain : Chain) (new : Knowledge) : Type 0 where
  pub one_piece : IsPart old_chain (chain_of_note note) ⊎ IsPart (chain_of_note note) old_chain
  pub goes_on : IsPrefix old.history new.history
  pub takes_up : IsPart (chain_of_note note) new_chain
  pub not_later : note.round.era ≤ era
  pub of_era : note.round.era ≡ era → IsPrefix note.history new.history
  pub same_changes : new.accepted ≡ old.accepted
