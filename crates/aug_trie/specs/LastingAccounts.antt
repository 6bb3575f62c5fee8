-- What the crew of a table that lasts knows at a look: all that its passes did, with one list for each pass that is out. Read it with `CrewLooks` of `Crew`.
use Rattle.std.specs.Prelude.{◌≡◌, ℕ, ◌+◌, ◌++◌, flat_map}
use Rattle.aug_core.specs.Cuts.{opening_cut}
use Rattle.aug_trie.specs.Crew.{CrewFacts}
use Rattle.aug_trie.specs.History.{IsHistory, last_cut}
use Rattle.aug_trie.specs.Ledger.{IsLedger}
use Rattle.aug_trie.specs.Tallies.{TalliesWithOthers}

-- the changes that the crew knows, with one list for each pass that is out, are all that happened from the opening cut to the last one that it knows, each
-- once; the weights that cuts show are theirs; and they keep one ledger. Where no pass is out, the crew's changes are all
pub record LastingAccount (crew : CrewFacts) : Type 0 where
  pub out : ℕ
  pub others : out + crew.back ≡ crew.handed
  pub is_history : IsHistory crew.round.bits crew.round.members crew.knows.history
  pub tallies : TalliesWithOthers out (opening_cut crew.round.bits crew.round.members) (last_cut crew.knows.history) crew.knows.history crew.knows.accepted
  pub ledger : IsLedger crew.words crew.round.bits crew.round.members crew.knows.history (crew.knows.accepted ++ flat_map (λ list. list) tallies.lists)
