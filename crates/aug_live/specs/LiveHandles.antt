-- What contracts see of a handle and of a look, and what their calls do. An update or a look is one of a pass, made from a state that follows on what
-- the handle knew (`Follows`).
use Rattle.std.specs.Prelude.{◌≡◌, ◌≢◌, ◌⊎◌, ℕ, ◌+◌, ◌<◌, ◌≤◌, List, [], ◌++◌, length, drop, Bool, true, false}
use mathlib.Core.Option.{some}
use lib.ListN.{get_elem?}
use Rattle.aug_model.specs.Keys.{SetFacts}
use Rattle.aug_core.specs.Prefixes.{IsPrefix}
use Rattle.aug_core.specs.declared.view.Change.{Change}
use Rattle.aug_trie.specs.Chains.{IsPart}
use Rattle.aug_trie.specs.Note.{NoteFacts}
use Rattle.aug_trie.specs.Pass.{PassFacts, GoesOn, chain_of}
use Rattle.aug_trie.specs.Round.{table_of}
use Rattle.aug_trie.specs.Reader.{Lends}
use Rattle.aug_trie.specs.Snapshot.{HasSnapshot, set_at, snapshot_cut}
use Rattle.aug_trie.specs.Updates.{TakesSnapshot}
use Rattle.aug_trie.specs.Node.{Reads}
use Rattle.aug_model.specs.declared.summary.Summary.{Summary}
use Rattle.aug_trie.specs.declared.queries.snapshot.Snapshot.{Snapshot}
use Rattle.aug_live.specs.Carrying.{Leads}
use Rattle.aug_live.specs.Ledgers.{Made, dated}
use Rattle.aug_live.specs.LiveTries.{KnowsMore, LaneKnown, TrieFacts, ids_of}
use Rattle.aug_live.specs.declared.plan.Plan.{Plan}

-- which handle it is: what it knows of its trie; the number of its lane, counted from 0, and its own; and whether it saw that the lane has a newer handle
pub record WhoFacts : Type 0 where
  pub trie : TrieFacts
  pub lane : ℕ
  pub number : ℕ
  pub replaced : Bool

-- it is the same handle, and all that it knew of its trie and of its lane is known still
pub record SameHandle (old new : WhoFacts) : Type 0 where
  pub trie : KnowsMore old.trie new.trie
  pub lanes : ids_of new.trie ≡ ids_of old.trie
  pub lane : new.lane ≡ old.lane
  pub number : new.number ≡ old.number
  pub replaced : old.replaced ≡ true → new.replaced ≡ true

-- a handle: which one it is; the round that it last worked in, counted from 1; the pass of its lane as the handle left it; and all changes that were accepted
-- through it, each with its round
pub record HandleFacts : Type 0 where
  pub who : WhoFacts
  pub era : ℕ
  pub half : PassFacts
  pub made : List Made

-- the changes that were accepted from a pass since it was in the first state
abbrev pub added : PassFacts → PassFacts → List Change
added old new = drop (length old.knows.accepted) new.knows.accepted

-- a note of all that a pass knows
abbrev pub note_at : PassFacts → NoteFacts
note_at pass = record { round = pass.round; past = pass.past; history = pass.knows.history }

-- from a pass to a later one of its round, on a spare lane: it knows all that the first one knew
pub record IsSuccessor (old new : PassFacts) : Type 0 where
  pub round : new.round ≡ old.round
  pub past : new.past ≡ old.past
  pub goes_on : IsPrefix old.knows.history new.knows.history

-- from what a handle knew to the later state of its lane: in the same round with the same pass or a later one, or in a later round, to whose set the
-- rounds before led. All that the handle knew of the rounds is known still
pub record Follows (old new : HandleFacts) : Type 0 where
  pub not_later : old.era ≤ new.era
  pub same : old.era ≡ new.era → (new.half ≡ old.half) ⊎ IsSuccessor old.half new.half
  pub goes_on : IsPart (chain_of old.half) (chain_of new.half)
  pub led : old.era < new.era → Leads new.half.round.bits new.half.past new.half.round.members
  pub table : new.half.round.table ≡ old.half.round.table
  pub bits : new.half.round.bits ≡ old.half.round.bits
  pub together : table_of new.half.round ≡ table_of old.half.round
  pub same_handle : SameHandle old.who new.who
  pub made : new.made ≡ old.made

-- a handle runs an operation: rounds may roll over first, and then its pass does what `does` says. What its pass accepted with that is made through it
pub record Runs (does : PassFacts → PassFacts → Type 0) (old new : HandleFacts) : Type 0 where
  pub start : HandleFacts
  pub follows : Follows old start
  pub same_era : new.era ≡ start.era
  pub done : does start.half new.half
  pub who : new.who ≡ start.who
  pub made : new.made ≡ start.made ++ dated new.era (added start.half new.half)

-- a pass does this with so many updates
abbrev pub Spends : ℕ → (PassFacts → PassFacts → Type 0) → PassFacts → PassFacts → Type 0
Spends updates does old new = does old new × (steps : ℕ) × GoesOn updates steps old new

-- a handle makes so many updates
abbrev pub Makes : ℕ → (PassFacts → PassFacts → Type 0) → HandleFacts → HandleFacts → Type 0
Makes updates does = Runs (Spends updates does)

-- so many of some, and not none if there are some
abbrev pub IsSomeOf : ℕ → ℕ → Type 0
IsSomeOf all count = (count ≤ all) × (0 < all → 0 < count)

-- all of them, or so many that the pass has no update left
abbrev pub AllOrSpent : ℕ → ℕ → PassFacts → Type 0
AllOrSpent all count pass = (count ≡ all) ⊎ (pass.spent ≡ pass.round.updates)

-- so many of the updates of its round are left to a pass
abbrev pub IsRoom : ℕ → PassFacts → Type 0
IsRoom left pass = left + pass.spent ≡ pass.round.updates

-- the first handle of a trie's lane, in the first round over this set, which has this plan; it knows no update
pub record IsNew (trie : TrieFacts) (set : SetFacts) (plan : Plan) (handle : HandleFacts) : Type 0 where
  pub of_trie : handle.half.round.table ≡ trie.table
  pub knows_trie : handle.who.trie ≡ trie
  pub first : handle.who.number ≡ 1
  pub era : handle.era ≡ 1
  pub none_before : handle.half.past ≡ []
  pub bits : handle.half.round.bits ≡ set.bits
  pub members : handle.half.round.members ≡ set.pairs
  pub workers_are : handle.half.round.workers ≡ plan.lanes
  pub updates_are : handle.half.round.updates ≡ plan.updates
  pub none_spent : handle.half.spent ≡ 0
  pub none_accepted : handle.half.knows.accepted ≡ []
  pub none_made : handle.made ≡ []

-- a new handle of a trie's lane, through which nothing was made yet: it knows at least what the trie's owner did
pub record IsHandleOf (lane : ℕ) (trie : TrieFacts) (handle : HandleFacts) : Type 0 where
  pub table : handle.half.round.table ≡ trie.table
  pub of_lanes : ids_of handle.who.trie ≡ ids_of trie
  pub of_lane : handle.who.lane ≡ lane
  pub known : LaneKnown
  pub last : get_elem? trie.lanes lane ≡ some known
  pub is_last : (known.number ≡ handle.who.number) × (known.is_out ≡ true)
  pub none_made : handle.made ≡ []
  pub bits : handle.half.round.bits ≡ trie.bits
  pub knows : IsPart trie.rounds (chain_of handle.half)

-- a look: the number of its handle's lane; its reader, which is seen as a pass; the snapshot that it shows, and the one that it showed before it took that
pub record LookFacts : Type 0 where
  pub lane : ℕ
  pub reader : PassFacts
  pub snapshot : Snapshot
  pub before : Snapshot

-- the set that it shows, and the one that it showed before
abbrev pub set_of_look : LookFacts → SetFacts
set_of_look look = set_at look.reader look.snapshot

abbrev pub set_before : LookFacts → SetFacts
set_before look = set_at look.reader look.before

-- a handle takes a snapshot for a look: it is one of its pass's, which lends the reader
pub record ShowsTo (old new : HandleFacts) (look : LookFacts) : Type 0 where
  pub makes : Makes 0 (λ a b. TakesSnapshot a.knows b.knows (snapshot_cut b look.snapshot)) old new
  pub known : HasSnapshot new.half look.snapshot
  pub lends : Lends new.half look.reader
  pub of_lane : look.lane ≡ new.who.lane

-- that is a new look, before whose snapshot there is none
pub record OpensLook (old new : HandleFacts) (look : LookFacts) : Type 0 where
  pub shows : ShowsTo old new look
  pub first : look.before ≡ look.snapshot

-- the look is of the handle's trie and lane
pub record IsLookOf (handle : HandleFacts) (look : LookFacts) : Type 0 where
  pub table : table_of look.reader.round ≡ table_of handle.half.round
  pub lane : look.lane ≡ handle.who.lane

-- a look takes a newer snapshot with its handle. If that is of the same round, it has the one that it showed as the one before, and otherwise none
pub record LooksAgain (same : Bool) (old new : LookFacts) (handle handle' : HandleFacts) : Type 0 where
  pub shows : ShowsTo handle handle' new
  pub same_round : same ≡ true → (new.reader.round.era ≡ old.reader.round.era) × (new.before ≡ old.snapshot) × (set_before new ≡ set_of_look old)
  pub other_round : same ≡ false → (new.reader.round.era ≢ old.reader.round.era) × (new.before ≡ new.snapshot)

module _ {A B : Type 0} (summary_of : List (ℕ × ℕ) → Summary A B) where
  -- a query of a look keeps what the look shows and showed, and makes at most `most` steps
  pub record IsAsked (most : ℕ) (old new : LookFacts) : Type 0 where
    pub same : new ≡ record old { reader = new.reader }
    pub same_set : set_of_look new ≡ set_of_look old
    pub same_before : set_before new ≡ set_before old
    pub reads : Reads summary_of most old.reader new.reader
