-- What the worker of a lane begins with, and what it gives back.
use Rattle.std.specs.Prelude.{◌≡◌, ℕ, ◌<◌, ◌≤◌, ◌==◌, List, [], length, map, filter, slice_index, slice_index_or, vec_capacity}
use Rattle.aug_core.specs.Cuts.{Cut, opening_cut}
use Rattle.aug_trie.specs.Round.{RoundFacts}
use Rattle.aug_trie.specs.Pass.{PassFacts}
use Rattle.aug_trie.specs.Snapshot.{snapshot_cut}
use Rattle.aug_trie.specs.declared.queries.snapshot.Snapshot.{Snapshot}
use Rattle.aug_report.specs.AllowedReport.{Lane, AnswersAll}
use Rattle.aug_script.specs.Limits.{Bounds}
use Rattle.aug_run.specs.inside.RoundLanes.{WasHandedOut, Started}
use Rattle.aug_script.specs.declared.reply.Reply.{Reply}
use Rattle.aug_script.specs.declared.row.Row.{Row}
use Rattle.aug_run.specs.declared.lanes.work.Done.{Done}
use Rattle.aug_run.specs.declared.lanes.work.Job.{Job}

-- the limits that a round was begun with
abbrev pub limits_of : RoundFacts → Bounds
limits_of round = record { bits = round.bits; workers = round.workers; updates = round.updates }

-- the cut that a round opened with
abbrev pub opening_cut_of : RoundFacts → Cut
opening_cut_of round = opening_cut round.bits round.members

-- a lane whose pass knows this much, and that holds this snapshot
abbrev pub lane_at : PassFacts → Snapshot → Lane
lane_at pass held = record { knows = pass.knows; held = snapshot_cut pass held }

-- the rows of a lane, in order
abbrev pub rows_of : ℕ → List Row → List Row
rows_of lane rows = filter (λ row. row.lane == lane) rows

-- the rows had these replies, on the way of their lane from one state to another
pub record AnswersRows (rows : List Row) (replies : List Reply) (old new : Lane) : Type 0 where
  pub lines : List (Row × Reply)
  pub rows_are : map (λ line. line.0) lines ≡ rows
  pub replies_are : map (λ line. line.1) lines ≡ replies
  pub answers : AnswersAll lines old new

-- the rows had these replies, from the moment at which the pass of their lane was handed out to this state
pub record RunsTo (opening : Cut) (rows : List Row) (replies : List Reply) (end : Lane) : Type 0 where
  pub start : Lane
  pub started : Started opening start
  pub answered : AnswersRows rows replies start end

-- the worker of this lane may begin, and has room for its replies
pub record MayBegin (round : RoundFacts) (rows : List Row) (lane : ℕ) (job : Job) : Type 0 where
  pub lane_is : job.lane ≡ lane
  pub here : job.half.round ≡ round
  pub handed_out : WasHandedOut (opening_cut_of round) job.half.knows
  pub unspent : job.half.spent ≡ 0
  pub empty : job.replies.items ≡ []
  pub room : length (rows_of lane rows) ≤ vec_capacity job.replies

-- the worker of this lane ran its rows, and its pass is of this round
pub record IsDone (round : RoundFacts) (rows : List Row) (lane : ℕ) (done : Done) : Type 0 where
  pub here : done.pass.round ≡ round
  pub held : Cut
  pub runs : RunsTo (opening_cut_of round) (rows_of lane rows) done.replies.items (record { knows = done.pass.knows; held = held })

abbrev pub AllReady : RoundFacts → List Row → List Job → Type 0
AllReady round rows jobs = (k : ℕ) (d : Job) → k < length jobs → MayBegin round rows k (slice_index_or jobs k d)

abbrev pub AllDone : RoundFacts → List Row → List Done → Type 0
AllDone round rows all = (k : ℕ) (d : Done) → k < length all → IsDone round rows k (slice_index_or all k d)

-- how many rows each lane has
pub record AreRowCounts (workers : ℕ) (rows : List Row) (counts : List ℕ) : Type 0 where
  pub one_each : length counts ≡ workers
  pub counted : (lane : ℕ) → lane < workers → slice_index counts lane ≡ length (rows_of lane rows)
