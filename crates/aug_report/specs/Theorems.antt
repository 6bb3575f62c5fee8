-- Theorems over the definitions of a round's report. Each is a clause of a function that does nothing, so the check fails if one no longer holds: of
-- reports that are allowed, of others that are not, and of what all have in common. The edits of this crate are wrong definitions of a report, each
-- refused since some theorem no longer holds.
use Rattle.std.specs.Prelude.{◌≡◌, ◌≢◌, ℕ, ◌+◌, ◌^◌, ◌<◌, ◌≤◌, true, false, List, [], ◌∷◌, length, map, take, All, Some, Ok}
use Rattle.aug_model.specs.Keys.{IsKeySet, is_member, keys_of}
use Rattle.aug_script.specs.Limits.{Bounds, IsBounds}
use Rattle.aug_script.specs.Replies.{count_of, is_insertion, is_removal, opening_sets, report_of, sets_of}
use Rattle.aug_script.specs.Script.{NeverNarrows, is_in_bounds, rounds_of}
use Rattle.aug_script.specs.declared.reply.Reply.{Reply}
use Rattle.aug_script.specs.declared.reply.Reply.TheVariants as reply
use Rattle.aug_script.specs.declared.report.Report.{Report}
use Rattle.aug_script.specs.declared.row.Row.{Row}
use Rattle.aug_script.specs.declared.script_round.ScriptRound.{ScriptRound}
use Rattle.aug_script.specs.declared.verb.Verb.{Verb}
use Rattle.aug_script.specs.declared.verb.Verb.TheVariants as verb
use Rattle.aug_core.specs.Cuts.{Cut}
use Rattle.aug_trie.specs.History.{IsHistory}
use Rattle.aug_trie.specs.Knowledge.{IsKnowledge, Knowledge, StandsIn}
use Rattle.aug_trie.specs.Updates.{TakesSnapshot}
use Rattle.aug_report.specs.AllowedReport.{AllowedReport, AllowedReports}
use Rattle.aug_report.specs.InTurn.{IsInTurn, OfOneLane, reports_of}

abbrev pub row_at : ℕ → ℕ → Verb → Row
row_at number lane asked = record { row = number; lane = lane; verb = asked }

abbrev pub report_with : ℕ → List (Row × Reply) → ℕ → ℕ → ℕ → Report
report_with number lines size inserts removals = record { number = number; rows = lines; size = size; inserts = inserts; removals = removals }

-- two lanes insert one key, each with its reply
abbrev pub two_insertions : ℕ → Reply → Reply → List (Row × Reply)
two_insertions k first second = (row_at 1 0 (verb.Insert k), first) ∷ (row_at 2 1 (verb.Insert k), second) ∷ []

-- if two lanes insert a key into the empty set, either of them may have `new` while the other has `old`
abbrev pub OneOfTwoIsNew : Type 0
OneOfTwoIsNew = (bits k : ℕ) → k < 2 ^ bits
    → AllowedReport bits 2 [] (report_with 1 (two_insertions k reply.New reply.Old) 1 1 0) ((k, k) ∷ [])
    × AllowedReport bits 2 [] (report_with 1 (two_insertions k reply.Old reply.New) 1 1 0) ((k, k) ∷ [])

-- two lanes that insert a key into a set without it never have the same reply, whatever else the report says
abbrev NotBoth : Reply → Type 0
NotBoth both = (bits k number size inserts removals : ℕ) (members closing : List (ℕ × ℕ)) → is_member (keys_of members) k ≡ false
    → AllowedReport bits 2 members (report_with number (two_insertions k both both) size inserts removals) closing → ⊥

abbrev pub NotBothNew : Type 0
NotBothNew = NotBoth reply.New

abbrev pub NotBothOld : Type 0
NotBothOld = NotBoth reply.Old

-- if all rows are of one lane, their report is that of the rows run in turn
abbrev pub HasOneReport : Type 0
HasOneReport = (bits workers : ℕ) (members : List (ℕ × ℕ)) (report : Report) (closing : List (ℕ × ℕ)) → IsKeySet bits (keys_of members)
    → AllowedReport bits workers members report closing → IsInTurn workers report.number members (map (λ line. line.0) report.rows) report closing

-- if each round's rows are of one lane, their reports are those of the rows run in turn, round after round. The set that the first round begins with
-- has keys of no more bits than any round
abbrev pub HasOneList : Type 0
HasOneList = (bits workers number : ℕ) (members : List (ℕ × ℕ)) (rounds : List ScriptRound) (reports : List Report) → IsKeySet bits (keys_of members)
    → All (λ round. bits ≤ round.bits) rounds → NeverNarrows rounds → All (OfOneLane workers) rounds
    → AllowedReports workers number members rounds reports → reports ≡ reports_of number members rounds

-- the same for the rounds that the bytes of a script read as, or for the first of them
abbrev pub ScriptHasOneList : Type 0
ScriptHasOneList = (limits : Bounds) (bytes : List ℕ) (rounds : List ScriptRound) (count : ℕ) (reports : List Report) → IsBounds limits
    → rounds_of limits bytes ≡ Ok rounds → All (OfOneLane limits.workers) (take count rounds)
    → AllowedReports limits.workers 1 [] (take count rounds) reports → reports ≡ reports_of 1 [] (take count rounds)

-- three lanes put a key in, take it out and put it in again; a fourth is refused twice, and a fifth begins once all is over
abbrev pub three_changes : ℕ → List (Row × Reply)
three_changes k =
    (row_at 1 0 (verb.Insert k), reply.New) ∷ (row_at 2 1 (verb.Remove k), reply.Gone) ∷ (row_at 3 2 (verb.Insert k), reply.New)
    ∷ (row_at 4 3 (verb.Remove k), reply.Absent) ∷ (row_at 5 3 (verb.Insert k), reply.Old) ∷ (row_at 6 4 (verb.Has k), reply.Yes) ∷ []

-- they may do so while the root goes from the first serial of the key to the fourth at once
abbrev pub ThreeAtOnce : Type 0
ThreeAtOnce = (bits k : ℕ) → k < 2 ^ bits → AllowedReport bits 5 [] (report_with 1 (three_changes k) 1 2 1) ((k, k) ∷ [])

-- `in` is the number of lines that say `new` or `set`, and `out` of those that say `gone` or `set`
abbrev pub TotalsCountLines : Type 0
TotalsCountLines = (bits workers : ℕ) (members : List (ℕ × ℕ)) (report : Report) (closing : List (ℕ × ℕ)) → AllowedReport bits workers members report closing
    → (report.inserts ≡ count_of is_insertion (map (λ line. line.1) report.rows)) × (report.removals ≡ count_of is_removal (map (λ line. line.1) report.rows))

-- the set grew by `in` and shrank by `out`
abbrev pub SizesAddUp : Type 0
SizesAddUp = (bits workers : ℕ) (members : List (ℕ × ℕ)) (report : Report) (closing : List (ℕ × ℕ)) → IsKeySet bits (keys_of members)
    → AllowedReport bits workers members report closing → report.size + report.removals ≡ length members + report.inserts

-- and that report is allowed, for whatever rows with keys in bounds
abbrev pub InTurnIsAllowed : Type 0
InTurnIsAllowed = (bits number : ℕ) (members : List (ℕ × ℕ)) (rows : List Row) → IsKeySet bits (keys_of members)
    → All (λ row. is_in_bounds bits row.verb ≡ true) rows → All (λ row. row.lane ≡ 0) rows
    → AllowedReport bits 1 members (report_of number members rows) (sets_of (opening_sets members) rows).live

-- a lane that is alone never has these lines
abbrev NeverAlone : List (Row × Reply) → Type 0
NeverAlone lines = (bits workers number size inserts removals : ℕ) (members closing : List (ℕ × ℕ)) → 0 < workers → IsKeySet bits (keys_of members)
    → AllowedReport bits workers members (report_with number lines size inserts removals) closing → ⊥

-- a lane inserts a key, looks, and does not see it: no report has that
abbrev pub SeesItsInsertion : Type 0
SeesItsInsertion = (k : ℕ) → NeverAlone ((row_at 1 0 (verb.Insert k), reply.New) ∷ (row_at 2 0 verb.Look, reply.Looked) ∷ (row_at 3 0 (verb.Has k), reply.No) ∷ [])

-- a snapshot shows all that was accepted before, or a later change of the key
abbrev pub SnapshotsShowAccepted : Type 0
SnapshotsShowAccepted = (bits : ℕ) (members : List (ℕ × ℕ)) (old new : Knowledge) (snapshot : Cut) → IsKnowledge bits members old → IsHistory bits members new.history
    → TakesSnapshot old new snapshot → All (StandsIn snapshot) old.accepted

-- one insertion, with this reply
abbrev pub insertion_line : ℕ → Reply → List (Row × Reply)
insertion_line k answer = (row_at 1 0 (verb.Insert k), answer) ∷ []

-- no report has one insertion that says `new` and leaves the set as it was
abbrev pub NewChanges : Type 0
NewChanges = (k bits workers number size inserts removals : ℕ) (members : List (ℕ × ℕ)) → 0 < workers → IsKeySet bits (keys_of members)
    → AllowedReport bits workers members (report_with number (insertion_line k reply.New) size inserts removals) members → ⊥

-- or one that says `old` although nobody put the key in
abbrev pub OldHasCause : Type 0
OldHasCause = (k bits workers number size inserts removals : ℕ) (members closing : List (ℕ × ℕ)) → 0 < workers → IsKeySet bits (keys_of members)
    → is_member (keys_of members) k ≡ false
    → AllowedReport bits workers members (report_with number (insertion_line k reply.Old) size inserts removals) closing → ⊥

abbrev pub round_with : ℕ → Row → ScriptRound
round_with bits row = record { bits = bits; rows = row ∷ [] }

-- a key is put in, and the next round does not have it: no reports have that
abbrev pub NextRoundGoesOn : Type 0
NextRoundGoesOn = (k bits workers number size inserts removals size' inserts' removals' : ℕ) → 0 < workers → k < 2 ^ bits
    → AllowedReports workers number [] (round_with bits (row_at 1 0 (verb.Insert k)) ∷ round_with bits (row_at 2 0 (verb.Has k)) ∷ [])
    (report_with number (insertion_line k reply.New) size inserts removals ∷ report_with (number + 1) ((row_at 2 0 (verb.Has k), reply.No) ∷ []) size' inserts' removals' ∷ []) → ⊥

-- one lane puts a weight on a key, with this reply, and another looks and asks something
abbrev pub put_and_query : ℕ → ℕ → Reply → Verb → Reply → List (Row × Reply)
put_and_query k w answer asked said = (row_at 1 0 (verb.Put k w), answer) ∷ (row_at 2 1 verb.Look, reply.Looked) ∷ (row_at 3 1 asked, said) ∷ []

-- one lane replaces the weight of a member, and another sees the set without the key: no report has that
abbrev pub SetKeepsTheKey : Type 0
SetKeepsTheKey = (k w bits number size inserts removals : ℕ) (members closing : List (ℕ × ℕ)) → k < 2 ^ bits → is_member (keys_of members) k ≡ true
    → AllowedReport bits 2 members (report_with number (put_and_query k w reply.Set (verb.Has k) reply.No) size inserts removals) closing → ⊥

-- one lane puts a key in with a weight, and another sees it with that weight: a report may have that
abbrev pub WeightIsSeen : Type 0
WeightIsSeen = (k w bits : ℕ) → k < 2 ^ bits
    → AllowedReport bits 2 [] (report_with 1 (put_and_query k w reply.New (verb.Weight k) (reply.Found (Some w))) 1 1 0) ((k, w) ∷ [])

-- but not with a weight that nobody put
abbrev pub WeightsWerePut : Type 0
WeightsWerePut = (k w v bits number size inserts removals : ℕ) (members closing : List (ℕ × ℕ)) → is_member (keys_of members) k ≡ false → v ≢ w
    → AllowedReport bits 2 members (report_with number (put_and_query k w reply.New (verb.Weight k) (reply.Found (Some v))) size inserts removals) closing → ⊥

-- if nobody put a key in or took one out, no put is lost
abbrev pub LostHasCause : Type 0
LostHasCause = (bits workers : ℕ) (members : List (ℕ × ℕ)) (report : Report) (closing : List (ℕ × ℕ)) → AllowedReport bits workers members report closing
    → report.inserts ≡ 0 → report.removals ≡ 0 → All (λ line. line.1 ≢ reply.Lost) report.rows
