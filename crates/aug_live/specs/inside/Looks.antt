-- What the fields of a handle and of a look keep, and what it comes to that a handle takes a snapshot for a look.
use Rattle.std.specs.Prelude.{◌≡◌, ℕ, ◌+◌, ◌≤◌, ◌<◌, List, Option, Some, None, IfSome}
use mathlib.Core.Option.{some}
use lib.ListN.{get_elem?}
use Rattle.atomic_table.specs.Seated.{TableId}
use Rattle.aug_trie.specs.Pass.{PassFacts}
use Rattle.aug_trie.specs.Reader.{Lends, TakesUp}
use Rattle.aug_trie.specs.Round.{TableFacts, table_of}
use Rattle.aug_trie.specs.Snapshot.{HasSnapshot, snapshot_cut}
use Rattle.aug_trie.specs.Updates.{TakesSnapshot}
use Rattle.aug_trie.specs.declared.queries.snapshot.Snapshot.{Snapshot}
use Rattle.aug_live.specs.LiveHandles.{HandleFacts, Makes, Spends}
use Rattle.aug_live.specs.inside.LaneKnowledge.{EndFacts, EndFollows, EndRuns, MakesNothing}
use Rattle.aug_live.specs.declared.known.Whose.TheVariants.{Handle}

-- the reader of an earlier look, and one that is left over, are of a table
abbrev pub IsReaderOf : TableId → Option PassFacts → Type 0
IsReaderOf table reader = IfSome reader (λ r. r.round.table ≡ table)

abbrev pub HasReaders : Option PassFacts → Option PassFacts → TableId → Type 0
HasReaders reader left table = IsReaderOf table reader × IsReaderOf table left

-- a pass took this snapshot in the round of this number, and lent a reader, after it took up what the one before knew
pub record IsShown (old new : Option PassFacts) (era : ℕ) (held : Snapshot) (pass : PassFacts) : Type 0 where
  pub mine : PassFacts
  pub there : new ≡ Some mine
  pub lends : Lends pass mine
  pub known : HasSnapshot pass held
  pub dated : era ≡ pass.round.era + 1
  pub takes_up : IfSome old (λ r. TakesUp r pass)

-- the pass took a snapshot for a look; or it made nothing, as it did not lend the reader of the look before
abbrev pub ShowsOrNot : Option PassFacts → Option PassFacts → Option PassFacts → ℕ → Option Snapshot → PassFacts → PassFacts → Type 0
ShowsOrNot old new left era None a b = MakesNothing a b × (new ≡ old) × IsReaderOf b.round.table left
ShowsOrNot old new left era (Some held) a b = Spends 0 (λ x y. TakesSnapshot x.knows y.knows (snapshot_cut y held)) a b × IsShown old new era held b × IsReaderOf b.round.table left

-- the same by the end of a lane
abbrev pub EndShows : Option PassFacts → Option PassFacts → Option PassFacts → ℕ → Option Snapshot → EndFacts → EndFacts → Type 0
EndShows old new left era None e f = EndFollows e f × (new ≡ old) × IsReaderOf f.known.at.half.round.table left
EndShows old new left era (Some held) e f = EndRuns (Spends 0 (λ x y. TakesSnapshot x.knows y.knows (snapshot_cut y held))) e f × IsShown old new era held f.known.at.half

-- and by a handle
pub record HandleShows (old new : Option PassFacts) (era : ℕ) (held : Snapshot) (a b : HandleFacts) : Type 0 where
  pub makes : Makes 0 (λ x y. TakesSnapshot x.knows y.knows (snapshot_cut y held)) a b
  pub shown : IsShown old new era held b.half

-- a reader of this table shows the snapshot, and is of the round of this number
pub record IsShownIn (table : TableFacts) (reader : Option PassFacts) (era : ℕ) (held : Snapshot) : Type 0 where
  pub mine : PassFacts
  pub there : reader ≡ Some mine
  pub together : table_of mine.round ≡ table
  pub shows : HasSnapshot mine held
  pub dated : era ≡ mine.round.era + 1

-- a look has its reader, which knows both snapshots, and what it puts into the slot in the end
pub record HoldsLook (slot : Option TableFacts) (table : TableFacts) (reader : Option PassFacts) (held before : Snapshot) (era : ℕ) : Type 0 where
  pub slot_is : slot ≡ Some table
  pub shown : IsShownIn table reader era held
  pub showed : HasSnapshot shown.mine before

-- the handle has its end of this lane and the round with this table, and knows its number and the bits of its keys
pub record HoldsHandle (end : Option EndFacts) (table : TableFacts) (bits lane number : ℕ) (lanes : List TableId) : Type 0 where
  pub mine : EndFacts
  pub there : end ≡ Some mine
  pub whose : mine.known.whose ≡ Handle
  pub id : get_elem? lanes lane ≡ some mine.lock
  pub number_is : mine.known.number ≡ number
  pub some_era : 0 < mine.known.at.era
  pub together : table_of mine.known.at.half.round ≡ table
  pub bits_are : mine.known.at.half.round.bits ≡ bits
  pub few_bits : bits ≤ 16
