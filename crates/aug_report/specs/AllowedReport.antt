-- Which reports a round may have, whatever the order in which its lanes ran. There is one history of the set, and for each lane what it knows of it
-- at its end. Each reply is what the lane's way through that history says (`Answers`): an update is accepted, replaced or refused between two states
-- of what the lane knew, a `look` is the last cut that it knows, and a query is answered from the set of the snapshot that it holds. Over the
-- example, two lanes with `insert,0` each may have `new` and `old`, or `old` and `new`, and never both the same.
use Rattle.std.specs.Prelude.{◌≡◌, ℕ, ◌+◌, ◌<◌, ◌⊎◌, ⊤, List, [], ◌∷◌, length, map, filter, flat_map, All, slice_index_or, ◌==◌}
use Rattle.aug_model.specs.declared.outcome.Outcome.{Outcome}
use Rattle.aug_model.specs.declared.outcome.Outcome.TheVariants as outcome
use Rattle.aug_core.specs.Cuts.{Cut, opening_cut, pairs_of_cut}
use Rattle.aug_core.specs.Prefixes.{IsPrefix}
use Rattle.aug_trie.specs.History.{IsHistory, last_cut}
use Rattle.aug_core.specs.declared.view.Change.{Change}
use Rattle.aug_trie.specs.Knowledge.{removal, insertion, Knowledge, inserts_of, removals_of}
use Rattle.aug_script.specs.Replies.{query_reply}
use Rattle.aug_trie.specs.Tallies.{Tallies, Weighs}
use Rattle.aug_trie.specs.Updates.{AcceptedUpdate, RefusedUpdate, ComesTo, TakesSnapshot}
use Rattle.aug_trie.specs.declared.updates.request.Request.TheVariants as request
use Rattle.aug_script.specs.declared.reply.Reply.{Reply}
use Rattle.aug_script.specs.declared.reply.Reply.TheVariants as reply
use Rattle.aug_script.specs.declared.report.Report.{Report}
use Rattle.aug_script.specs.declared.row.Row.{Row}
use Rattle.aug_script.specs.declared.script_round.ScriptRound.{ScriptRound}
use Rattle.aug_script.specs.declared.verb.Verb.{Verb}
use Rattle.aug_script.specs.declared.verb.Verb.TheVariants as verb

-- a lane: what its pass knows, and the cut of its last snapshot
pub record Lane : Type 0 where
  pub knows : Knowledge
  pub held : Cut

-- the reply to an update is `yes` if it was accepted, which gives the key this weight, and `no` if it was refused
pub record AnswersUpdate (parity key weight : ℕ) (yes no answer : Reply) (old new : Lane) : Type 0 where
  pub outcome : ((answer ≡ yes) × AcceptedUpdate parity key weight old.knows new.knows) ⊎ ((answer ≡ no) × RefusedUpdate parity key old.knows new.knows)
  pub holds_still : new.held ≡ old.held

-- the reply to a put with this outcome
abbrev pub reply_to_put : Outcome → Reply
reply_to_put outcome.Accepted = reply.New
reply_to_put outcome.Replaced = reply.Set
reply_to_put done = reply.Lost

-- the reply to a put follows from its outcome
pub record AnswersPut (key weight : ℕ) (answer : Reply) (old new : Lane) : Type 0 where
  pub outcome : Outcome
  pub puts : ComesTo (request.Put weight) key outcome old.knows new.knows
  pub answers : answer ≡ reply_to_put outcome
  pub holds_still : new.held ≡ old.held

-- what a lane goes through as it answers a verb: an inserted key weighs itself, a look takes a new snapshot, which the lane holds from then on, and a
-- query is answered from the set of the snapshot that the lane holds, and changes nothing
abbrev pub Answers : Verb → Reply → Lane → Lane → Type 0
Answers (verb.Insert k) answer old new = AnswersUpdate insertion k k reply.New reply.Old answer old new
Answers (verb.Put k w) answer old new = AnswersPut k w answer old new
Answers (verb.Remove k) answer old new = AnswersUpdate removal k 0 reply.Gone reply.Absent answer old new
Answers verb.Look answer old new = (answer ≡ reply.Looked) × TakesSnapshot old.knows new.knows new.held
Answers query answer old new = (answer ≡ query_reply (pairs_of_cut old.held) query) × (new ≡ old)

-- what a lane goes through as it answers its rows, one after another
unfoldable pub AnswersAll : List (Row × Reply) → Lane → Lane → Type 0
AnswersAll [] old new = new ≡ old
AnswersAll (line ∷ lines) old new = (next : Lane) × Answers line.0.verb line.1 old next × AnswersAll lines next new

-- a lane that has taken its opening snapshot, and done nothing else
pub record Opens (opening : Cut) (lane : Lane) : Type 0 where
  pub sees_opening : IsPrefix (opening ∷ []) lane.knows.history
  pub no_change : lane.knows.accepted ≡ []
  pub holds_last : lane.held ≡ last_cut lane.knows.history

-- a lane ran its lines in a round with this history, and ended as `end`
pub record RunsLane (opening : Cut) (history : List Cut) (lines : List (Row × Reply)) (end : Lane) : Type 0 where
  pub start : Lane
  pub opens : Opens opening start
  pub runs : AnswersAll lines start end
  pub of_history : IsPrefix end.knows.history history

-- the lines of a lane, in order
abbrev pub lines_of : ℕ → List (Row × Reply) → List (Row × Reply)
lines_of lane lines = filter (λ line. line.0.lane == lane) lines

-- all that the lanes had accepted
abbrev pub all_accepted : List Lane → List Change
all_accepted lanes = flat_map (λ lane. lane.knows.accepted) lanes

-- a round with keys of `bits` bits that opened with one set and closed with another may have this report: one history, and an end for each lane,
-- explain how each row got its reply; the changes of all lanes are all that happened; and each cut of the history shows the weights of these changes
pub record AllowedReport (bits workers : ℕ) (members : List (ℕ × ℕ)) (report : Report) (closing : List (ℕ × ℕ)) : Type 0 where
  pub history : List Cut
  pub is_history : IsHistory bits members history
  pub lanes : List Lane
  pub one_each : length lanes ≡ workers
  pub of_lanes : All (λ line. line.0.lane < workers) report.rows
  pub runs : (lane : ℕ) (default : Lane) → lane < workers → RunsLane (opening_cut bits members) history (lines_of lane report.rows) (slice_index_or lanes lane default)
  pub tallies : Tallies (opening_cut bits members) (last_cut history) (all_accepted lanes)
  pub weigh : All (Weighs (opening_cut bits members) (all_accepted lanes)) history
  pub closes : closing ≡ pairs_of_cut (last_cut history)
  pub size : report.size ≡ length closing
  pub inserts : report.inserts ≡ inserts_of (all_accepted lanes)
  pub removals : report.removals ≡ removals_of (all_accepted lanes)

-- the report is of the round with this number and these rows, in their order
pub record IsReportOf (number : ℕ) (rows : List Row) (report : Report) : Type 0 where
  pub number_is : report.number ≡ number
  pub rows_are : map (λ line. line.0) report.rows ≡ rows

-- rounds, the first with this number, may have these reports: each round opens with the set that the previous one closed with, at its own bits
unfoldable pub AllowedReports : ℕ → ℕ → List (ℕ × ℕ) → List ScriptRound → List Report → Type 0
AllowedReports workers number members [] [] = ⊤
AllowedReports workers number members (round ∷ rounds) (report ∷ reports) =
    (closing : List (ℕ × ℕ)) × IsReportOf number round.rows report × AllowedReport round.bits workers members report closing
    × AllowedReports workers (number + 1) closing rounds reports
AllowedReports workers number members rounds reports = ⊥
