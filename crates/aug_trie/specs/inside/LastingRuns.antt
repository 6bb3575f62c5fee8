-- A batch of updates of a pass over the stock of its lane, in runs: in each the keys' leaves first, and then the ways to the root.
use Rattle.std.specs.Prelude.{◌≡◌, ℕ, ◌+◌, ◌-◌, ◌*◌, ◌<◌, ◌≤◌, List, [], ◌++◌, length, get_or, drop, slice_index}
use Rattle.aug_core.specs.Places.{Shape}
use Rattle.aug_core.specs.Book.{ArePrefixes}
use Rattle.aug_core.specs.inside.Shows.{Lifts}
use Rattle.aug_core.specs.declared.step.StepTaken.{StepTaken}
use Rattle.aug_core.specs.declared.view.Change.{Change}
use Rattle.aug_core.specs.declared.view.SeatView.{SeatView}
use Rattle.aug_model.specs.declared.outcome.Outcome.{Outcome}
use Rattle.aug_model.specs.declared.outcome.Outcome.TheVariants.{Refused}
use Rattle.aug_words.specs.Stocks.{StockFacts, IsHeld, birth_in_word, scan_steps}
use Rattle.aug_trie.specs.LastingBatches.{all_made}
use Rattle.aug_trie.specs.declared.updates.request.Request.{Request}
use Rattle.aug_trie.specs.declared.updates.request.Request.TheVariants.{Insert}
use Rattle.aug_trie.specs.inside.Batching.{GainsOnly, LeftLeaf}
use Rattle.aug_trie.specs.inside.Goes.{part_words}
use Rattle.aug_trie.specs.inside.Lasting.{WorksBy, most_try_steps}

-- the most steps of a way to the root
abbrev pub way_steps : Shape → ℕ
way_steps s = s.bits * (2 * most_try_steps part_words)

-- of a run of so many updates: with those at the leaves, and to reserve, to retire and to let go
abbrev pub run_steps : ℕ → Shape → ℕ
run_steps n s = n * (way_steps s + 2) + 5

-- and of one update, with those to load all reservations before
abbrev pub each_steps : Shape → ℕ
each_steps s = way_steps s + s.reservations + 9

-- outcomes were put down for the places from one on to another, and the others stayed
pub record PutsRun (from to : ℕ) (old new : List Outcome) : Type 0 where
  pub long : length new ≡ length old
  pub before : (i : ℕ) → i < from → get_or new i Refused ≡ get_or old i Refused
  pub rest : drop to new ≡ drop to old

-- all reservations were loaded last, and what still waits is held by one of them
pub record EndsScanned (v w : SeatView) (k : StockFacts) : Type 0 where
  pub before : List StepTaken
  pub eras : ℕ → ℕ
  pub scans : w.steps ≡ v.steps ++ before ++ scan_steps v.shape eras v.shape.reservations
  pub held : (i : ℕ) → k.free ≤ i → i < length k.words → (slot : ℕ) × (slot < v.shape.reservations) × IsHeld (eras slot) (birth_in_word (slice_index k.words i)) (slice_index k.deaths i)

module _ (face : ℕ → ℕ → List (ℕ × ℕ) → List ℕ) where
  -- an update that was at its leaf between two views, with the changes that it made. What the leaf had reached then the last view shows at a level of its way
  pub record MadeBetween (key : ℕ) (request : Request) (done : Outcome) (own : List Change) (level : ℕ) (v w : SeatView) : Type 0 where
    pub before : SeatView
    pub after : SeatView
    pub from : ArePrefixes v.seen before.seen
    pub from_shape : before.shape ≡ v.shape
    pub left : LeftLeaf face before key request done after
    pub to : ArePrefixes after.seen w.seen
    pub lifts : Lifts v.shape after.seen w.seen key level
    pub made : own ≡ left.gained

  -- the same of updates of the keys from one on
  abbrev pub MadeFrom : List ℕ → List Request → List Outcome → ℕ → List (List Change) → ℕ → SeatView → SeatView → Type 0
  MadeFrom keys requests outcomes from made level v w = (i : ℕ) → i < length made → MadeBetween (get_or keys (from + i) 0) (get_or requests (from + i) Insert) (get_or outcomes (from + i) Refused) (get_or made i []) level v w

  module _ (keys : List ℕ) (requests : List Request) (outcomes : List Outcome) (from to : ℕ) where
    -- the keys of a run were at their leaves
    pub record LeavesRun (v w : SeatView) : Type 0 where
      pub made : List (List Change)
      pub all : from + length made ≡ to
      pub each : MadeFrom keys requests outcomes from made 0 v w
      pub works : WorksBy face (2 * length made) (all_made made) v w
      pub rest : GainsOnly (all_made made) v w

    -- and the root shows them
    pub record MakesRun (most : ℕ) (v w : SeatView) : Type 0 where
      pub made : List (List Change)
      pub all : from + length made ≡ to
      pub each : MadeFrom keys requests outcomes from made v.shape.bits v w
      pub works : WorksBy face most (all_made made) v w

  -- the ways of the keys of a run were gone up
  pub record LiftsRun (keys : List ℕ) (from to : ℕ) (v w : SeatView) : Type 0 where
    pub works : WorksBy face ((to - from) * way_steps v.shape) [] v w
    pub lifts : (i : ℕ) → from ≤ i → i < to → Lifts v.shape v.seen w.seen (get_or keys i 0) v.shape.bits
