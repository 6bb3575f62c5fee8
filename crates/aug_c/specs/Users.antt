-- What contracts see of a user.
use Rattle.std.specs.Prelude.{Option}
use Rattle.aug_live.specs.LiveHandles.{HandleFacts, LookFacts}

-- a user: its access to the trie, and its look, if it has one
pub record UserFacts : Type 0 where
  pub access : HandleFacts
  pub look : Option LookFacts
