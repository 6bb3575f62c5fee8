-- What contracts see of a crew: how its round begins, how its passes come and go, and how the round ends.
use Rattle.std.specs.Prelude.{◌≡◌, Bool, false, ℕ, ◌+◌, ◌<◌, ◌≤◌, List, [], ◌∷◌, ◌++◌, length, flat_map}
use Rattle.aug_model.specs.Keys.{SetFacts}
use Rattle.aug_core.specs.Cuts.{opening_cut, pairs_of_cut}
use Rattle.aug_core.specs.Kinds.{load_node}
use Rattle.aug_core.specs.Prefixes.{IsPrefix}
use Rattle.aug_core.specs.declared.step.StepTaken.{StepTaken}
use Rattle.aug_trie.specs.History.{IsHistory, last_cut}
use Rattle.aug_trie.specs.Knowledge.{Knowledge, IsKnowledge, inserts_of, removals_of}
use Rattle.aug_trie.specs.Passes.{HandedOut, HandedBack, HasLearnt}
use Rattle.aug_trie.specs.Round.{TableFacts, RoundFacts, table_of, root_of}
use Rattle.aug_trie.specs.Chains.{Chapter, Chain, chain, chapters}
use Rattle.aug_trie.specs.Note.{NoteFacts}
use Rattle.aug_trie.specs.Ledger.{IsLedger}
use Rattle.aug_trie.specs.Pass.{PassFacts, WordsSeen, KeepWeights}
use Rattle.aug_trie.specs.Tallies.{TalliesWithLost}
use Rattle.aug_trie.specs.Ended.{EndedFacts}

-- a crew: its round, the rounds before in its table, what it knows, its atomic steps, how many passes it handed out and took back, the words that it has
-- seen, and whether a part of the table is known beside the one at work in which nobody reads
pub record CrewFacts : Type 0 where
  pub round : RoundFacts
  pub past : List Chapter
  pub knows : Knowledge
  pub steps : List StepTaken
  pub handed : ℕ
  pub back : ℕ
  pub words : WordsSeen
  pub free : Bool

-- what it knows of the rounds of its table
abbrev pub crew_chain : CrewFacts → Chain
crew_chain crew = chain crew.past crew.round.members crew.knows.history

-- a table of keys of `bits` bits, laid out for `room` members, and the crew of its first round, over a set with these members, which knows only the opening
-- cut and has handed nothing out
pub record BeginsIn (room : ℕ) (members : List (ℕ × ℕ)) (bits workers updates : ℕ) (table : TableFacts) (crew : CrewFacts) : Type 0 where
  pub round_is : crew.round ≡ record { table = table.table; era = 0; bits = bits; members = members; workers = workers; updates = updates; room = room }
  pub together : table_of crew.round ≡ table
  pub crew_is : crew ≡ record { round = crew.round; past = []; knows = record { history = opening_cut bits members ∷ []; accepted = [] }; steps = crew.steps; handed = 0; back = 0; words = crew.words; free = false }

-- the crew's one step loads the root's word
abbrev pub LoadsRoot : CrewFacts → CrewFacts → Type 0
LoadsRoot old new = (found : ℕ) × (new.steps ≡ old.steps ++ load_node (root_of old.round) found ∷ [])

-- its first step does
abbrev pub LoadsRootFirst : CrewFacts → CrewFacts → Type 0
LoadsRootFirst old new = (found : ℕ) × (more : List StepTaken) × (new.steps ≡ old.steps ++ load_node (root_of old.round) found ∷ more)

-- the crew hands out its next lane, after it loaded the root
pub record HandsOut (old new : CrewFacts) (pass : PassFacts) : Type 0 where
  pub knows : HandedOut old.knows new.knows pass.knows
  pub crew_is : new ≡ record old { knows = new.knows; steps = new.steps; handed = old.handed + 1; words = new.words }
  pub weights : KeepWeights old.words new.words
  pub pass_is : pass ≡ record pass { round = old.round; past = old.past; lane = old.handed; spent = 0 }
  pub exists : old.handed < old.round.workers
  pub knowledge : IsKnowledge pass.round.bits pass.round.members pass.knows
  pub named : length pass.numbers ≡ length pass.knows.history
  pub loads : LoadsRoot old new

-- the crew takes a pass back, and then loads the root
pub record TakesBack (old new : CrewFacts) (pass : PassFacts) : Type 0 where
  pub knows : HandedBack old.knows pass.knows new.knows
  pub crew_is : new ≡ record old { knows = new.knows; steps = new.steps; back = old.back + 1; words = new.words }
  pub weights : KeepWeights old.words new.words
  pub weights_of_pass : KeepWeights pass.words new.words
  pub knowledge : IsKnowledge new.round.bits new.round.members new.knows
  pub loads : LoadsRoot old new

-- the crew learns a note, and then loads the root
pub record CrewLearns (old new : CrewFacts) (note : NoteFacts) : Type 0 where
  pub learns : HasLearnt old.round.era (crew_chain old) old.knows note (crew_chain new) new.knows
  pub crew_is : new ≡ record old { knows = new.knows; steps = new.steps; words = new.words }
  pub weights : KeepWeights old.words new.words
  pub knowledge : IsKnowledge new.round.bits new.round.members new.knows
  pub loads : LoadsRoot old new

-- the set that a crew knows, with its bits: that of the last cut
abbrev pub set_of_crew : CrewFacts → SetFacts
set_of_crew crew = record { bits = crew.round.bits; pairs = pairs_of_cut (last_cut crew.knows.history) }

-- the crew loads the root, and the last cut that it knows then is a snapshot
pub record CrewLooks (old new : CrewFacts) : Type 0 where
  pub crew_is : new ≡ record old { knows = new.knows; steps = new.steps; words = new.words }
  pub weights : KeepWeights old.words new.words
  pub goes_on : IsPrefix old.knows.history new.knows.history
  pub same_changes : new.knows.accepted ≡ old.knows.accepted
  pub knowledge : IsKnowledge new.round.bits new.round.members new.knows
  pub loads : LoadsRoot old new

-- the crew loads the root and lays the next round out further, in a part of the table that is not at work
pub record CrewPrepares (old new : CrewFacts) : Type 0 where
  pub crew_is : new ≡ record old { knows = new.knows; steps = new.steps; words = new.words }
  pub weights : KeepWeights old.words new.words
  pub goes_on : IsPrefix old.knows.history new.knows.history
  pub same_changes : new.knows.accepted ≡ old.knows.accepted
  pub knowledge : IsKnowledge new.round.bits new.round.members new.knows
  pub loads : LoadsRootFirst old new

-- the crew made at most `most` steps, from which it learned nothing new
pub record CrewReads (most : ℕ) (old new : CrewFacts) : Type 0 where
  pub same : new ≡ record old { steps = new.steps }
  pub steps_stay : IsPrefix old.steps new.steps
  pub few_steps : length new.steps ≤ length old.steps + most

-- a round ends: its set is that of the last cut that the crew knows; the changes that the crew knows, with lists of those of the passes that did not come back,
-- are all that happened from the opening cut to that one, and keep one ledger; and the counts are the crew's
pub record Ends (crew : CrewFacts) (ended : EndedFacts) : Type 0 where
  pub bits : ended.bits ≡ crew.round.bits
  pub members : ended.members ≡ pairs_of_cut (last_cut crew.knows.history)
  pub inserts : ended.inserts ≡ inserts_of crew.knows.accepted
  pub removals : ended.removals ≡ removals_of crew.knows.accepted
  pub missing : ended.missing + crew.back ≡ crew.handed
  pub no_calls : ended.calls ≡ 0
  pub is_history : IsHistory crew.round.bits crew.round.members crew.knows.history
  pub tallies : TalliesWithLost crew.round.updates ended.missing (opening_cut crew.round.bits crew.round.members) (last_cut crew.knows.history) crew.knows.history crew.knows.accepted
  pub ledger : IsLedger crew.words crew.round.bits crew.round.members crew.knows.history (crew.knows.accepted ++ flat_map (λ list. list) tallies.all.lists)

-- the account of a round is closed to which all passes came back, with a load of the root, while its table is still there: the counts are those of the
-- round, and its set is that of the last cut. All of its history is known then
pub record IsOver (old last : CrewFacts) (inserts removals : ℕ) : Type 0 where
  pub last_is : last ≡ record old { knows = last.knows; steps = last.steps; words = last.words }
  pub weights : KeepWeights old.words last.words
  pub goes_on : IsPrefix old.knows.history last.knows.history
  pub same_changes : last.knows.accepted ≡ old.knows.accepted
  pub loads : LoadsRoot old last
  pub ended : EndedFacts
  pub ends : Ends last ended
  pub none_missing : ended.missing ≡ 0
  pub sizes : length ended.members + ended.removals ≡ length old.round.members + ended.inserts
  pub inserts_are : inserts ≡ ended.inserts
  pub removals_are : removals ≡ ended.removals

-- a round ends to which all passes came back, with a load of the root, and the next one begins over its set, in the same table: the
-- counts are those of the round that ended. All of its history is known then
pub record RollsOver (old crew : CrewFacts) (inserts removals : ℕ) : Type 0 where
  pub last : CrewFacts
  pub last_is : last ≡ record old { knows = last.knows; steps = last.steps; words = last.words }
  pub weights : KeepWeights old.words last.words
  pub goes_on : IsPrefix old.knows.history last.knows.history
  pub same_changes : last.knows.accepted ≡ old.knows.accepted
  pub loads : LoadsRoot old last
  pub ended : EndedFacts
  pub ends : Ends last ended
  pub none_missing : ended.missing ≡ 0
  pub sizes : length ended.members + ended.removals ≡ length old.round.members + ended.inserts
  pub inserts_are : inserts ≡ ended.inserts
  pub removals_are : removals ≡ ended.removals
  pub round_is : crew.round ≡ record old.round { era = old.round.era + 1; members = ended.members }
  pub crew_is : crew ≡ record { round = crew.round; past = chapters (crew_chain last); knows = record { history = opening_cut old.round.bits ended.members ∷ []; accepted = [] }; steps = crew.steps; handed = 0; back = 0; words = crew.words; free = false }
