-- What lies on the desk.
use Rattle.std.specs.Prelude.{◌≡◌, ℕ, ◌+◌, ◌<◌, ◌≤◌, ◌^◌, List, length, All, map, flat_map}
use Rattle.std.specs.List.{sum_by}
use Rattle.aug_core.specs.Layout.{IsLayout}
use Rattle.aug_core.specs.Places.{shape_of}
use Rattle.aug_trie.specs.Round.{TableFacts, table_of}
use Rattle.aug_trie.specs.Crew.{CrewFacts}
use Rattle.aug_live.specs.declared.counts.LiveCounts.{LiveCounts}
use Rattle.aug_live.specs.declared.end.Berth.{Berth}
use Rattle.aug_live.specs.declared.known.Whose.{Whose}
use Rattle.aug_live.specs.declared.known.Whose.TheVariants.{Alone, Roller, Free, Idle, Handle, Gone}
use Rattle.aug_live.specs.Carrying.{Leads}
use Rattle.aug_live.specs.Ledgers.{Made, made_in}
use Rattle.aug_live.specs.LiveTries.{AreCountsOf, lost_of}
use Rattle.aug_live.specs.inside.LaneKnowledge.{EndFacts, knows_nothing}
use Rattle.aug_live.specs.inside.Rolls.{IsOf, kept_of, rounds_in}
use Rattle.aug_live.specs.inside.SameChanges.{SameChanges}

-- a lane that no handle had yet
abbrev pub IsNewBerth : {A B : Type 0} → Berth A B → Type 0
IsNewBerth berth = (berth.out.known ≡ knows_nothing Alone) × (berth.out.taken.number ≡ 0)

-- the counts of the rounds so far, at a set with so many members
pub record AreCounts (counts : LiveCounts) (members : ℕ) : Type 0 where
  pub some : 0 < counts.rounds
  pub sizes : members + counts.removals ≡ counts.opened + counts.inserts

-- one, if a handle is out that has the lane
abbrev pub out_of : Whose → ℕ
out_of Alone = 0
out_of Roller = 1
out_of Free = 0
out_of Idle = 0
out_of Handle = 0
out_of Gone = 0

-- how many handles a lane had, and how many of them did not come back
abbrev pub handles_of : EndFacts → ℕ
handles_of e = length e.known.done + out_of e.known.whose

abbrev pub missing_of : EndFacts → ℕ
missing_of e = length (lost_of e.known.done) + out_of e.known.whose

-- what was made with the passes that are back, through all lanes
abbrev pub made_of : List EndFacts → List Made
made_of lanes = flat_map (λ (e : EndFacts). e.known.before) lanes

-- what is known of the lanes accounts for all that happened in the rounds that are over, and for what the crew of this one knows; and the handles are counted
pub record Accounts (bits : ℕ) (counts : LiveCounts) (crew : CrewFacts) (lanes : List EndFacts) : Type 0 where
  pub past : AreCountsOf bits crew.past (made_of lanes) counts.inserts counts.removals
  pub now : SameChanges crew.knows.accepted (made_in counts.rounds (made_of lanes))
  pub dates : All (λ (m : Made). m.0 ≤ counts.rounds) (made_of lanes)
  pub handles : counts.handles ≡ sum_by handles_of lanes
  pub missing : counts.missing ≡ sum_by missing_of lanes
  pub numbers : All (λ (e : EndFacts). e.known.number ≤ counts.handles) lanes

-- a round of so many lanes goes on: the passes that its crew handed out lie in those of the handles, or came back
pub record IsWorking (lanes updates : ℕ) (counts : LiveCounts) (table : TableFacts) (crew : CrewFacts) (ports : List EndFacts) (count : ℕ) : Type 0 where
  pub together : table_of crew.round ≡ table
  pub workers : table.workers ≡ lanes
  pub all_out : crew.handed ≡ count + crew.back
  pub within : crew.handed ≤ lanes
  pub of_round : All (IsOf (rounds_in crew) counts.rounds) ports
  pub led : Leads table.bits crew.past crew.round.members
  pub counted : AreCounts counts (length crew.round.members)
  pub rounds_are : counts.rounds ≡ length crew.past + 1
  pub era_is : counts.rounds ≡ crew.round.era + 1
  pub accounts : Accounts table.bits counts crew (map kept_of ports)
  pub few_inserts : counts.inserts + 2 ^ 32 ≤ 2 ^ 64
  pub few_removals : counts.removals + 2 ^ 32 ≤ 2 ^ 64
  pub laid_out : IsLayout (shape_of table.bits lanes updates (2 ^ table.bits))
  pub room : 2 ^ table.bits ≤ table.room
