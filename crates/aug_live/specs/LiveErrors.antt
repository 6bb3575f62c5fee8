-- Why a trie is not opened, and why a call of it is refused. Each is printed by its name. A refusal is told with what shows it: a handle that is told `Closed` found no
-- round on the desk, which only the owner leaves so, and one that is told `Replaced` found a newer number in its lane.
use Rattle.std.specs.Prelude.{◌≡◌, ◌≢◌, ◌⊎◌, ℕ, ◌+◌, ◌^◌, ◌≤◌, List, length, true, false, codes}
use mathlib.Core.Option.{some}
use lib.ListN.{get_elem?}
use Rattle.std.specs.List.{sum_by}
use Rattle.aug_live.specs.Ledgers.{Made}
use Rattle.aug_live.specs.LiveHandles.{HandleFacts}
use Rattle.aug_live.specs.LiveTries.{AreCountsOf, LaneKnown, TrieFacts}
use Rattle.aug_live.specs.declared.error.LiveError.{LiveError}
use Rattle.aug_live.specs.declared.error.OpenError.{OpenError}
use Rattle.aug_live.specs.declared.error.OpenError.TheVariants as opening
use Rattle.aug_live.specs.declared.error.TryError.{TryError}
use Rattle.aug_live.specs.declared.error.TryError.TheVariants.{Again, Refused}
use Rattle.aug_live.specs.declared.error.LiveError.TheVariants.{Closed, Exhausted, Replaced, NoLane, TooMany, Looking}

-- how a refusal is printed: by its name
abbrev pub open_text : OpenError → List ℕ
open_text opening.BadHandles = codes "BadHandles"
open_text opening.BadLanes = codes "BadLanes"
open_text opening.BadUpdates = codes "BadUpdates"
open_text opening.BadTables = codes "BadTables"
open_text opening.TooLarge = codes "TooLarge"
open_text opening.OutOfMemory = codes "OutOfMemory"

abbrev pub live_text : LiveError → List ℕ
live_text Closed = codes "Closed"
live_text Exhausted = codes "Exhausted"
live_text Replaced = codes "Replaced"
live_text NoLane = codes "NoLane"
live_text TooMany = codes "TooMany"
live_text (Looking found) = codes "Looking"

-- of a call that waits for nobody: if it is refused, and need not be made again, this holds of the cause
abbrev pub IfRefused : {M : Type 0} → (LiveError → Type 0) → TryError M → Type 0
IfRefused why (Again missed) = Unit {0}
IfRefused why (Refused cause) = why cause

-- the rounds of a trie that are over are as many as can be counted, or nearly as many keys were put in, or taken out, in them, by what was made in them
pub record IsExhausted (trie : TrieFacts) : Type 0 where
  pub made : List Made
  pub inserts : ℕ
  pub removals : ℕ
  pub counted : AreCountsOf trie.bits trie.rounds.past made inserts removals
  pub many : (2 ^ 64 ≤ length trie.rounds.past + 2) ⊎ ((2 ^ 64 ≤ inserts + 2 ^ 33) ⊎ (2 ^ 64 ≤ removals + 2 ^ 33))

-- why a trie's round does not roll over: its owner alone closes it
abbrev pub RefusesRoll : TrieFacts → LiveError → Type 0
RefusesRoll trie Closed = ⊥
RefusesRoll trie Exhausted = IsExhausted trie
RefusesRoll trie Replaced = ⊥
RefusesRoll trie NoLane = ⊥
RefusesRoll trie TooMany = ⊥
RefusesRoll trie (Looking found) = ⊥

-- why no round goes on for a handle, by what it knows of the trie then
abbrev pub RefusesRound : TrieFacts → LiveError → Type 0
RefusesRound trie Closed = trie.closed ≡ true
RefusesRound trie Exhausted = IsExhausted trie
RefusesRound trie Replaced = ⊥
RefusesRound trie NoLane = ⊥
RefusesRound trie TooMany = ⊥
RefusesRound trie (Looking found) = ⊥

-- why a call of a handle is refused, by what the handle knows then
abbrev pub RefusesCall : HandleFacts → LiveError → Type 0
RefusesCall handle Closed = RefusesRound handle.who.trie Closed
RefusesCall handle Exhausted = RefusesRound handle.who.trie Exhausted
RefusesCall handle Replaced = handle.who.replaced ≡ true
RefusesCall handle NoLane = ⊥
RefusesCall handle TooMany = ⊥
RefusesCall handle (Looking found) = ⊥

-- why what lies in a slot is not taken: a look has it
abbrev pub RefusesSlot : LiveError → Type 0
RefusesSlot Closed = ⊥
RefusesSlot Exhausted = ⊥
RefusesSlot Replaced = ⊥
RefusesSlot NoLane = ⊥
RefusesSlot TooMany = Unit {0}
RefusesSlot (Looking found) = Unit {0}

-- why a look is refused, by what its handle knows then
abbrev pub RefusesLook : HandleFacts → LiveError → Type 0
RefusesLook handle cause = RefusesCall handle cause ⊎ RefusesSlot cause

-- a lane's last handle is another one than that with this number, or came back already
pub record HasOther (lane number : ℕ) (trie : TrieFacts) : Type 0 where
  pub known : LaneKnown
  pub there : get_elem? trie.lanes lane ≡ some known
  pub other : (known.number ≢ number) ⊎ (known.is_out ≡ false)

-- why a trie does not take back the handle of this lane and number
abbrev pub RefusesBack : ℕ → ℕ → TrieFacts → LiveError → Type 0
RefusesBack lane number trie Closed = ⊥
RefusesBack lane number trie Exhausted = IsExhausted trie
RefusesBack lane number trie Replaced = HasOther lane number trie
RefusesBack lane number trie NoLane = ⊥
RefusesBack lane number trie TooMany = ⊥
RefusesBack lane number trie (Looking found) = ⊥

-- why a trie gives no lane of this number to a new handle
abbrev pub RefusesLane : ℕ → TrieFacts → LiveError → Type 0
RefusesLane lane trie Closed = ⊥
RefusesLane lane trie Exhausted = 2 ^ 64 ≤ sum_by (λ (l : LaneKnown). length l.done) trie.lanes + length trie.lanes + 1
RefusesLane lane trie Replaced = ⊥
RefusesLane lane trie NoLane = length trie.lanes ≤ lane
RefusesLane lane trie TooMany = Unit {0}
RefusesLane lane trie (Looking found) = ⊥

-- why a call for a new handle of this lane is refused
abbrev pub RefusesHandle : ℕ → TrieFacts → LiveError → Type 0
RefusesHandle lane trie cause = RefusesRoll trie cause ⊎ RefusesLane lane trie cause
