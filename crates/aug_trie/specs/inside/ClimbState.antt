-- What the fields of an update by turns keep, and how what contracts see of it comes of them.
use Rattle.std.specs.Prelude.{ℕ, ◌-◌, List}
use Rattle.aug_core.specs.Counts.{changes_of}
use Rattle.aug_core.specs.Effects.{own_lane}
use Rattle.aug_core.specs.declared.view.SeatView.{SeatView}
use Rattle.aug_words.specs.Seats.{Known}
use Rattle.aug_trie.specs.inside.Counted.{HasCounts}
use Rattle.aug_trie.specs.inside.Knows.{root_history, root_numbers}
use Rattle.aug_trie.specs.Pass.{PassFacts}
use Rattle.aug_trie.specs.inside.RoundState.{round_of, past_rounds}
use Rattle.aug_trie.specs.inside.PassState.{pass_facts}
use Rattle.aug_trie.specs.inside.Stages.{StageAt, stage_turns}
use Rattle.aug_trie.specs.Climb.{ClimbFacts}
use Rattle.aug_trie.specs.declared.updates.request.Request.{Request}
use Rattle.aug_trie.specs.declared.turns.stages.Stage.{Stage}
use Rattle.aug_trie.specs.declared.turns.stages.Stage.TheVariants.{Leaf, Change, Up}

-- a pass as it was when its present update began
abbrev pub began_facts : Known → ℕ → PassFacts
began_facts known left = record {
  round = round_of known.table known.view;
  past = past_rounds known.view.shape known.view.past;
  lane = own_lane known.view.held;
  knows = record { history = root_history known.view.shape known.view.began.seen; accepted = known.view.began.changes };
  numbers = root_numbers known.view.shape known.view.began.seen;
  spent = known.view.shape.updates - left;
  steps = known.view.began.steps;
  words = record { shape = known.view.shape; book = known.view.began.seen };
}

-- and as it was at the start: before the first step it is so still
abbrev pub start_facts : Known → ℕ → Stage → PassFacts
start_facts known left Leaf = pass_facts known left
start_facts known left (Change word) = began_facts known left
start_facts known left (Up done a) = began_facts known left

-- what a climb's fields say
abbrev pub climb_facts : Known → ℕ → ℕ → ℕ → Request → Stage → ClimbFacts
climb_facts known bits left key request stage = record { start = start_facts known left stage; now = pass_facts known left; request = request; key = key; left = stage_turns bits stage }

-- what a climb's fields keep
pub record HoldsClimb (face : ℕ → ℕ → List (ℕ × ℕ) → List ℕ) (v : SeatView) (leaves bits next left inserts removals key : ℕ) (request : Request) (stage : Stage) : Type 0 where
  pub began : SeatView
  pub stage_at : StageAt face leaves bits next left key request began stage v
  pub counts : HasCounts (changes_of began.held) inserts removals
