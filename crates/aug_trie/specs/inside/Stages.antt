-- An update, step by step: which part of it was done at each stage.
use Rattle.std.specs.Prelude.{◌≡◌, ℕ, suc, ◌+◌, ◌-◌, ◌*◌, ◌^◌, ◌<◌, ◌≤◌, ◌==◌, Bool, false, true, if◌then◌else◌, List, [], length, Option, Some, None, ◌∷◌, ◌++◌}
use Rattle.aug_core.specs.Addresses.{left_of}
use Rattle.aug_core.specs.Book.{history_of}
use Rattle.aug_core.specs.Counts.{changes_of}
use Rattle.aug_core.specs.inside.Shows.{above, Lifts}
use Rattle.aug_core.specs.inside.Refreshes.{NewestCovers}
use Rattle.aug_core.specs.Effects.{own_lane, BeginsAtLeaf, KnowsBook}
use Rattle.aug_core.specs.declared.view.SeatView.{SeatView}
use Rattle.aug_trie.specs.inside.RoundState.{eras_of}
use Rattle.aug_trie.specs.inside.Goes.{Goes, Took, TookBetween, HasRoom, part_words, part_steps, try_steps, level_steps, least_rise_steps}
use Rattle.aug_trie.specs.inside.Climbing.{Updated, FitsRequest}
use Rattle.aug_model.specs.declared.outcome.Outcome.{Outcome}
use Rattle.aug_trie.specs.inside.PassState.{IsPass}
use Rattle.aug_trie.specs.Pass.{most_update_steps, most_rise_steps}
use Rattle.aug_trie.specs.Requests.{goes_from}
use Rattle.aug_trie.specs.inside.Points.{TryAt, TryOver, point_turns}
use Rattle.aug_trie.specs.declared.updates.request.Request.{Request}
use Rattle.aug_trie.specs.declared.turns.ascents.Ascent.{Ascent}
use Rattle.aug_trie.specs.declared.turns.stages.Stage.{Stage}
use Rattle.aug_trie.specs.declared.turns.stages.Stage.TheVariants.{Leaf, Change, Up}
use Rattle.aug_trie.specs.declared.turns.stages.Next.{Next}
use Rattle.aug_trie.specs.declared.turns.stages.Next.TheVariants.{More, Done}
use Rattle.aug_core.specs.Kinds.{load_leaf}
use Rattle.aug_core.specs.declared.step.StepTaken.{StepTaken}

module _ (face : ℕ → ℕ → List (ℕ × ℕ) → List ℕ) where
  -- a try at the node that failed
  pub record LostTry (below begun : SeatView) (q number : ℕ) : Type 0 where
    pub goes : Goes face (number + 1) [] below begun
    pub took : Took below begun (try_steps (part_steps below.shape (left_of below.shape q)))
    pub longer : length (history_of below.seen q) + 1 ≤ length (history_of begun.seen q)

  -- the first try begins when the node is reached, and the second when the first has failed
  abbrev pub IsTry : SeatView → SeatView → ℕ → ℕ → Bool → Type 0
  IsTry below begun q number false = begun ≡ below
  IsTry below begun q number true = LostTry below begun q number

  -- a node that was tried once or twice covers what had been seen of its children
  pub record IsCovered (below w : SeatView) (q number : ℕ) : Type 0 where
    pub goes : Goes face (number + 1) [] below w
    pub took : TookBetween below w (try_steps (part_steps below.shape (left_of below.shape q))) (2 * try_steps (part_steps below.shape (left_of below.shape q)))
    pub covers : NewestCovers below.shape below.seen w.seen q

  -- the way from a leaf to the root, whose records begin at this number
  module _ (bits number key : ℕ) (leaf : SeatView) where
    -- all levels up to this one show what the leaf had reached
    pub record HasRisen (level : ℕ) (below : SeatView) : Type 0 where
      pub goes : Goes face (number + level) [] leaf below
      pub took : TookBetween leaf below (least_rise_steps level) (most_rise_steps level)
      pub lifts : Lifts leaf.shape leaf.seen below.seen key level

    -- what holds all the way
    pub record MayRise : Type 0 where
      pub low : key < 2 ^ leaf.shape.bits
      pub bits_are : bits ≡ leaf.shape.bits
      pub knows_table : KnowsBook face leaf
      pub room : HasRoom leaf number bits

    -- it is at a node
    pub record IsAtNode (a : Ascent) (begun : SeatView) : Type 0 where
      pub may_rise : MayRise
      pub below_root : a.level < bits
      pub node_is : a.node ≡ above leaf.shape key (suc a.level)
      pub below : SeatView
      pub risen : HasRisen a.level below
      pub is_try : IsTry below begun a.node (number + a.level) a.second

    -- and in a try there
    pub record IsOnWay (a : Ascent) (w : SeatView) : Type 0 where
      pub begun : SeatView
      pub at_node : IsAtNode a begun
      pub try_at : TryAt face begun a.node (number + a.level) a.point w

    -- and after that try
    pub record IsPastTry (a : Ascent) (done : Bool) (w : SeatView) : Type 0 where
      pub begun : SeatView
      pub at_node : IsAtNode a begun
      pub room : HasRoom begun (number + a.level) 1
      pub try_over : TryOver face begun a.node (number + a.level) done w

    -- it continues, or has reached the root
    abbrev pub Ascends : Option Ascent → SeatView → Type 0
    Ascends (Some a) w = IsOnWay a w
    Ascends None w = HasRisen bits w

  -- an update of a key from the view u of a pass
  module _ (leaves bits number left key : ℕ) (request : Request) (u : SeatView) where
    -- the view says from what state the update began
    pub record HasBegun (w : SeatView) : Type 0 where
      pub began : w.began ≡ record { seen = u.seen; steps = u.steps; changes = changes_of u.held }
      pub shaped : w.shape ≡ u.shape
      pub same_members : w.members ≡ u.members
      pub same_eras : eras_of w ≡ eras_of u
      pub lane : own_lane w.held ≡ own_lane u.held

    -- its leaf was loaded, and it may exchange it
    pub record MayTry (word : ℕ) (w : SeatView) : Type 0 where
      pub loaded : BeginsAtLeaf face u key word w
      pub lets : goes_from request word ≡ true

    -- its leaf was loaded, and then exchanged if the serial that was found let the update continue
    pub record HasLeft (w : SeatView) : Type 0 where
      pub found : ℕ
      pub more : List StepTaken
      pub steps : w.steps ≡ u.steps ++ load_leaf key found ∷ more
      pub tried : goes_from request found ≡ true → 1 ≤ length more

    -- it is on its way, and will be a complete update when it has reached the root
    pub record IsRising (done : Outcome) (a : Ascent) (w : SeatView) : Type 0 where
      pub leaf : SeatView
      pub has_begun : HasBegun w
      pub has_left : HasLeft w
      pub finish : (z : SeatView) → HasRisen bits number key leaf bits z → Updated face (number + bits) u key request z done
      pub on_way : IsOnWay bits number key leaf a w

    abbrev pub IsStage : Stage → SeatView → Type 0
    IsStage Leaf w = w ≡ u
    IsStage (Change word) w = MayTry word w
    IsStage (Up done a) w = IsRising done a w

    -- the update is at a stage
    pub record StageAt (stage : Stage) (w : SeatView) : Type 0 where
      pub is_pass : IsPass face u leaves bits number left
      pub some : 1 ≤ left
      pub low : key < 2 ^ u.shape.bits
      pub fits : FitsRequest request
      pub is_stage : IsStage stage w

    -- it continues, or is done
    abbrev pub Climbs : Next → SeatView → Type 0
    Climbs (More stage) w = StageAt stage w
    Climbs (Done done) w = Updated face (number + bits) u key request w done

-- how many loads a child's part takes above a level
abbrev pub part_above : ℕ → ℕ
part_above level = if level == 0 then 0 else part_words

-- the greatest number of turns that an update on its way may have left
abbrev pub ascent_turns : ℕ → Ascent → ℕ
ascent_turns bits a = (bits - 1 - a.level) * level_steps + (if a.second then 0 else try_steps (part_above a.level)) + point_turns (part_above a.level) a.point

-- and the same at any stage
abbrev pub stage_turns : ℕ → Stage → ℕ
stage_turns bits Leaf = most_update_steps bits
stage_turns bits (Change word) = most_update_steps bits - 1
stage_turns bits (Up done a) = ascent_turns bits a

-- they fall with each step, and there are some while there is more to do
abbrev pub AscentFalls : ℕ → Ascent → Option Ascent → Type 0
AscentFalls bits a (Some next) = (ascent_turns bits next < ascent_turns bits a) × (1 ≤ ascent_turns bits next)
AscentFalls bits a None = 1 ≤ ascent_turns bits a

-- how many turns are left once a try is over; a second try follows at the node if this was the first
abbrev pub past_try_turns : ℕ → Ascent → ℕ
past_try_turns bits a = (bits - 1 - a.level) * level_steps + (if a.second then 0 else try_steps (part_above a.level))

abbrev pub StageFalls : ℕ → Stage → Next → Type 0
StageFalls bits stage (More next) = (stage_turns bits next < stage_turns bits stage) × (1 ≤ stage_turns bits next)
StageFalls bits stage (Done done) = 1 ≤ stage_turns bits stage
