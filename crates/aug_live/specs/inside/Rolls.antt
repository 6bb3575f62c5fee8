-- How a round ends whose passes lie in the lanes, and how the next begins.
use Rattle.std.specs.Prelude.{◌≡◌, ◌≢◌, ◌⊎◌, ℕ, ◌+◌, ◌<◌, ◌≤◌, List, [], ◌∷◌, ◌++◌, true, false, Some, All, map, flat_map, reverse}
use Rattle.aug_core.specs.Cuts.{Cut}
use Rattle.aug_core.specs.Prefixes.{IsPrefix}
use Rattle.aug_core.specs.declared.view.Change.{Change}
use Rattle.aug_trie.specs.Chains.{Chapter, BeginsWith}
use Rattle.aug_trie.specs.Crew.{CrewFacts, Ends}
use Rattle.aug_trie.specs.Ended.{EndedFacts}
use Rattle.aug_trie.specs.Pass.{PassFacts, chain_of}
use Rattle.aug_trie.specs.Round.{TableFacts, RoundFacts, table_of}
use Rattle.aug_live.specs.Ledgers.{Made, dated}
use Rattle.aug_live.specs.LiveHandles.{HandleFacts}
use Rattle.aug_live.specs.LiveTries.{TrieFacts}
use Rattle.aug_live.specs.inside.LaneKnowledge.{EndFacts, IsWhole, handle_by, nothing_known, rounds_at}
use Rattle.aug_live.specs.declared.known.Whose.{Whose}
use Rattle.aug_live.specs.declared.known.Whose.TheVariants.{Roller, Idle, Handle}

-- the round of a crew, and those before
abbrev pub rounds_in : CrewFacts → RoundFacts × List Chapter
rounds_in crew = (crew.round, crew.past)

-- what the roller's end of a lane keeps while passes come and go
abbrev pub kept_of : EndFacts → EndFacts
kept_of e = record e { known = record e.known { works = false; at = nothing_known } }

-- and where a pass went back that had accepted these changes
abbrev pub given : List Change → EndFacts → EndFacts
given changes e = kept_of (record e { known = record e.known { before = e.known.before ++ dated e.known.at.era changes } })

-- what the pass of a lane accepted, which is back; and the lane with all that counted to what was made
abbrev pub accepted_by : EndFacts → List Change
accepted_by e = e.known.at.half.knows.accepted

abbrev pub given_all : EndFacts → EndFacts
given_all e = given (accepted_by e) e

-- a handle is out that has the lane, or none is
abbrev pub IsPort : Whose → Type 0
IsPort whose = (whose ≡ Roller) ⊎ (whose ≡ Idle)

-- the roller knows that a pass of this round, after those, in this era, lies in the lane
pub record IsOf (rounds : RoundFacts × List Chapter) (era : ℕ) (e : EndFacts) : Type 0 where
  pub whose : IsPort e.known.whose
  pub works : e.known.works ≡ true
  pub era_is : e.known.at.era ≡ era
  pub round_is : rounds_at e.known.at.half ≡ rounds

-- the pass of the lane went back to its crew: all that it knew is in the history
pub record IsBackIn (rounds : RoundFacts × List Chapter) (era : ℕ) (history : List Cut) (e : EndFacts) : Type 0 where
  pub whose : IsPort e.known.whose
  pub works : e.known.works ≡ false
  pub era_is : e.known.at.era ≡ era
  pub round_is : rounds_at e.known.at.half ≡ rounds
  pub known : IsPrefix e.known.at.half.knows.history history
  pub whole : IsWhole e.known e.known.at

-- and its round is one of those before the next one of its table
pub record HasEnded (table : TableFacts) (past : List Chapter) (era : ℕ) (e : EndFacts) : Type 0 where
  pub whose : IsPort e.known.whose
  pub works : e.known.works ≡ false
  pub era_is : e.known.at.era ≡ era
  pub table_is : table_of e.known.at.half.round ≡ table
  pub part : BeginsWith e.known.at.half.past (chain_of e.known.at.half).now past

-- a round ends whose passes lay in these lanes: they are back, and the lanes have what their last passes knew, the last lane first
pub record FinishesRound (era : ℕ) (crew : CrewFacts) (ports : List EndFacts) (ended : EndedFacts) : Type 0 where
  pub last : CrewFacts
  pub same_rounds : rounds_in last ≡ rounds_in crew
  pub goes_on : IsPrefix crew.knows.history last.knows.history
  pub ends : Ends last ended
  pub none_missing : ended.missing ≡ 0
  pub lanes : List EndFacts
  pub back : All (IsBackIn (rounds_in crew) era last.knows.history) lanes
  pub kept : map kept_of (reverse lanes) ≡ map kept_of ports
  pub changes : last.knows.accepted ≡ crew.knows.accepted ++ flat_map accepted_by lanes

-- what a pass begins with that its crew just handed out
pub record IsNewPass (rounds : RoundFacts × List Chapter) (pass : PassFacts) : Type 0 where
  pub round_is : rounds_at pass ≡ rounds
  pub none_spent : pass.spent ≡ 0
  pub none_accepted : pass.knows.accepted ≡ []

-- the first handle of a lane begins with such a pass, in the first round
pub record Starts (rounds : RoundFacts × List Chapter) (e : EndFacts) : Type 0 where
  pub whose : e.known.whose ≡ Handle
  pub number : e.known.number ≡ 1
  pub era_is : e.known.at.era ≡ 1
  pub fresh : IsNewPass rounds e.known.at.half
  pub none_made : e.known.made ≡ []

-- the lane of the roller's end, whose first handle that is
pub record IsOpenedLane (e : EndFacts) : Type 0 where
  pub whose : e.known.whose ≡ Roller
  pub number : e.known.number ≡ 1
  pub none_done : e.known.done ≡ []
  pub none_back : e.known.before ≡ []

-- a lane gets another handle, and its last one is done; that came back before, or did not
pub record GetsHandle (number : ℕ) (old new : EndFacts) : Type 0 where
  pub own : List Made
  pub lock : new.lock ≡ old.lock
  pub whose : new.known.whose ≡ Roller
  pub number_is : new.known.number ≡ number
  pub before : new.known.before ≡ old.known.before
  pub done : old.known.whose ≢ Roller → new.known.done ≡ old.known.done
  pub lost : old.known.whose ≡ Roller → new.known.done ≡ old.known.done ++ (false, own) ∷ []

-- a handle's end of a lane, which has this number, in which a pass lies of a round with this table
pub record IsHandleEnd (number : ℕ) (table : TableFacts) (e : EndFacts) : Type 0 where
  pub whose : e.known.whose ≡ Handle
  pub number_is : e.known.number ≡ number
  pub some_era : 0 < e.known.at.era
  pub together : table_of e.known.at.half.round ≡ table
  pub few_bits : table.bits ≤ 16

-- and its handle is where that pass stands
pub record IsFirst (rounds : RoundFacts × List Chapter) (trie : TrieFacts) (handle : HandleFacts) : Type 0 where
  pub of_trie : handle.who.trie ≡ trie
  pub first : handle.who.number ≡ 1
  pub era_is : handle.era ≡ 1
  pub fresh : IsNewPass rounds handle.half
  pub none_made : handle.made ≡ []

-- the handles of these ends, of which the first has the lane of this number
abbrev pub handles_from : TrieFacts → ℕ → List EndFacts → List HandleFacts
handles_from trie lane [] = []
handles_from trie lane (e ∷ es) = handle_by trie lane (Some e) ∷ handles_from trie (lane + 1) es

-- handles were made of the ends before the rest of a list
pub record AreHandles (trie : TrieFacts) (ends rest : List EndFacts) (handles : List HandleFacts) : Type 0 where
  pub front : List EndFacts
  pub ends_are : ends ≡ front ++ rest
  pub handles_are : handles ≡ handles_from trie 0 front
