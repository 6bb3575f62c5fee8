-- What a call comes to that takes out the first or the last member of a snapshot that it takes itself. In the example the first pop of `First` takes out 1,
-- which weighs 1, the second one 3, and the third finds the set empty.
use Rattle.std.specs.Prelude.{◌≡◌, ℕ, ◌+◌, List, ◌∷◌, [], ◌++◌, Option, Some, None}
use Rattle.aug_core.specs.Kinds.{load_node}
use Rattle.aug_model.specs.Keys.{SetFacts, list_of}
use Rattle.aug_model.specs.Queries.{first_of, last_of, weight_of}
use Rattle.aug_model.specs.declared.summary.Summary.{Summary}
use Rattle.aug_trie.specs.Node.{Keeps, Reads}
use Rattle.aug_trie.specs.Pass.{PassFacts, GoesOn, StepsOf}
use Rattle.aug_trie.specs.Round.{root_of}
use Rattle.aug_trie.specs.Snapshot.{HasSnapshot, set_at, snapshot_cut}
use Rattle.aug_trie.specs.Updates.{ComesTo, TakesSnapshot}
use Rattle.aug_trie.specs.declared.queries.snapshot.Snapshot.{Snapshot}
use Rattle.aug_trie.specs.declared.rounds.pop.Pop.{Pop}
use Rattle.aug_trie.specs.declared.rounds.pop.Pop.TheVariants as pop
use Rattle.aug_trie.specs.declared.rounds.pop.Side.{Side}
use Rattle.aug_trie.specs.declared.rounds.pop.Side.TheVariants.{First, Last}
use Rattle.aug_model.specs.declared.outcome.Outcome.{Outcome}
use Rattle.aug_model.specs.declared.outcome.Outcome.TheVariants as outcome
use Rattle.aug_trie.specs.declared.updates.request.Request.{Request}
use Rattle.aug_trie.specs.declared.updates.request.Request.TheVariants as request

-- the member at this end of a rising list
abbrev pub member_at : Side → List ℕ → Option ℕ
member_at First keys = first_of keys
member_at Last keys = last_of keys

-- how many updates it makes
abbrev pub pop_updates : Pop → ℕ
pop_updates pop.Empty = 0
pop_updates done = 1

-- what it comes to once it is not refused: a member that it took out, or none
abbrev pub popped : Option (ℕ × ℕ) → Pop
popped None = pop.Empty
popped (Some p) = pop.Member p.0 p.1

module _ {A B : Type 0} (summary_of : List (ℕ × ℕ) → Summary A B) where
  -- one update of a key, all that the contract of a single one says
  pub record OneUpdate (asked : Request) (key : ℕ) (done : Outcome) (old new : PassFacts) : Type 0 where
    pub comes_to : ComesTo asked key done old.knows new.knows
    pub goes_on : (steps : ℕ) × GoesOn 1 steps old new
    pub keeps : Keeps summary_of old new
    pub steps : StepsOf asked key done old new

  -- what it comes to, by the member that it found in the set of its snapshot. That is taken out, which succeeds if it still weighs what it weighs in the
  -- set. If there is none, no update is made
  abbrev pub PopsTo : SetFacts → Option ℕ → Pop → PassFacts → PassFacts → Type 0
  PopsTo set None pop.Empty asked new = new ≡ asked
  PopsTo set (Some k) (pop.Member key weight) asked new = (key ≡ k) × (weight_of set.pairs k ≡ Some weight) × OneUpdate (request.Take weight) k outcome.Accepted asked new
  PopsTo set (Some k) pop.Refused asked new = (weight : ℕ) × (weight_of set.pairs k ≡ Some weight) × OneUpdate (request.Take weight) k outcome.Refused asked new
  PopsTo set found done asked new = ⊥

  -- the pass takes a snapshot, asks it for its member at one end and what that weighs, and takes that member out
  pub record Pops (side : Side) (done : Pop) (old new : PassFacts) : Type 0 where
    pub snapshot : Snapshot
    pub looked : PassFacts
    pub takes : TakesSnapshot old.knows looked.knows (snapshot_cut looked snapshot)
    pub known : HasSnapshot looked snapshot
    pub goes_on : GoesOn 0 1 old looked
    pub step : looked.steps ≡ old.steps ++ load_node (root_of old.round) snapshot.number ∷ []
    pub keeps : Keeps summary_of old looked
    pub asked : PassFacts
    pub reads : Reads summary_of (looked.round.bits + 6) looked asked
    pub pops_to : PopsTo (set_at looked snapshot) (member_at side (list_of (set_at looked snapshot))) done asked new
