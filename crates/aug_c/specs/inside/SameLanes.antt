-- What an access has in common with itself later, so that its look is one of it still.
use Rattle.std.specs.Prelude.{◌≡◌}
use Rattle.aug_trie.specs.Round.{table_of}
use Rattle.aug_live.specs.LiveHandles.{HandleFacts}

-- it is of the same lane of the same trie
pub record IsOfSameLane (old new : HandleFacts) : Type 0 where
  pub table : table_of new.half.round ≡ table_of old.half.round
  pub lane : new.who.lane ≡ old.who.lane
