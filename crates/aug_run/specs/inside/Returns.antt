-- The result of a round once all passes are back at the crew.
use Rattle.std.specs.Prelude.{◌≡◌, ℕ, ◌<◌, List, [], ◌∷◌, length, map, slice_index_or, All}
use Rattle.aug_trie.specs.Crew.{CrewFacts}
use Rattle.aug_trie.specs.Round.{RoundFacts}
use Rattle.aug_trie.specs.Knowledge.{Knowledge}
use Rattle.aug_report.specs.AllowedReport.{Lane, AnswersAll, lines_of}
use Rattle.aug_run.specs.inside.RoundLanes.{BacksAll, Started}
use Rattle.aug_run.specs.inside.Workers.{RunsTo, opening_cut_of, rows_of}
use Rattle.aug_script.specs.declared.reply.Reply.{Reply}
use Rattle.aug_script.specs.declared.row.Row.{Row}

-- a crew that knows only the opening cut, and has handed nothing out
pub record IsFreshCrew (round : RoundFacts) (crew : CrewFacts) : Type 0 where
  pub together : crew.round ≡ round
  pub opening : crew.knows ≡ record { history = opening_cut_of round ∷ []; accepted = [] }
  pub none_out : crew.handed ≡ 0
  pub none_back : crew.back ≡ 0

-- each lane has as many replies as rows, and no row is of another lane
pub record AreAnswered (rows : List Row) (replies : List (List Reply)) : Type 0 where
  pub of_lanes : All (λ row. row.lane < length replies) rows
  pub as_many : (lane : ℕ) → lane < length replies → length (slice_index_or replies lane []) ≡ length (rows_of lane rows)

-- the lines are of these rows in their order, and the replies to each lane's are these in theirs
pub record AreInOrder (rows : List Row) (replies : List (List Reply)) (lines : List (Row × Reply)) : Type 0 where
  pub rows_are : map (λ line. line.0) lines ≡ rows
  pub replies_are : (lane : ℕ) → lane < length replies → map (λ line. line.1) (lines_of lane lines) ≡ slice_index_or replies lane []

-- the lanes ended so, and the crew took their passes back, one after another
pub record WentBack (round : RoundFacts) (rows : List Row) (replies : List (List Reply)) (old new : Knowledge) : Type 0 where
  pub ends : List Lane
  pub one_each : length ends ≡ length replies
  pub runs : (lane : ℕ) (default : Lane) → lane < length ends → RunsTo (opening_cut_of round) (rows_of lane rows) (slice_index_or replies lane []) (slice_index_or ends lane default)
  pub backs : BacksAll ends old new

-- all lanes ran their lines, and all passes are back at the crew
pub record RanLanes (round : RoundFacts) (rows : List Row) (lines : List (Row × Reply)) (crew : CrewFacts) : Type 0 where
  pub rows_are : map (λ line. line.0) lines ≡ rows
  pub ends : List Lane
  pub one_each : length ends ≡ round.workers
  pub runs : (lane : ℕ) (default : Lane) → lane < round.workers → (start : Lane) × Started (opening_cut_of round) start × AnswersAll (lines_of lane lines) start (slice_index_or ends lane default)
  pub before : Knowledge
  pub no_change : before.accepted ≡ []
  pub backs : BacksAll ends before crew.knows
  pub together : crew.round ≡ round
  pub all_back : crew.back ≡ crew.handed
