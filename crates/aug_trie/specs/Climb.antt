-- What contracts see of an update that is made by single turns. In between the pass may have changed its leaf while the root does not show that yet.
-- So no clause there says that an accepted change stands in the last cut; `Finishes` says it, from the start to the end. To put 0 into the example
-- takes 26 turns if nobody comes in between, and at most 50.
use Rattle.std.specs.Prelude.{◌≡◌, ℕ, ◌^◌, ◌<◌, ◌≤◌, true, [], ◌∷◌, ◌++◌}
use Rattle.aug_core.specs.Kinds.{load_leaf, try_leaf}
use Rattle.aug_core.specs.declared.step.StepTaken.{StepTaken}
use Rattle.aug_model.specs.declared.outcome.Outcome.{Outcome}
use Rattle.aug_core.specs.Prefixes.{IsPrefix}
use Rattle.aug_trie.specs.Updates.{ComesTo}
use Rattle.aug_trie.specs.Pass.{PassFacts, GoesOn, most_update_steps, StepsOf}
use Rattle.aug_trie.specs.Requests.{word_after, goes_from}
use Rattle.aug_trie.specs.declared.updates.request.Request.{Request}

-- an update by turns: its pass as it was at the start and as it is now, its request, its key, and the greatest number of turns that may be left
pub record ClimbFacts : Type 0 where
  pub start : PassFacts
  pub now : PassFacts
  pub request : Request
  pub key : ℕ
  pub left : ℕ

-- an update of a key of the round may begin: not all updates of the pass are made
pub record MayUpdate (pass : PassFacts) (k : ℕ) : Type 0 where
  pub key : k < 2 ^ pass.round.bits
  pub budget : pass.spent < pass.round.updates

-- an update begins, and none of its steps is made yet
abbrev pub BeginsClimb : Request → ℕ → PassFacts → ClimbFacts → Type 0
BeginsClimb request key pass climb = climb ≡ record { start = pass; now = pass; request = request; key = key; left = most_update_steps pass.round.bits }

-- the pass made one step, and its new history continues the old one
pub record StepsOnce (old new : PassFacts) : Type 0 where
  pub taken : StepTaken
  pub same : new ≡ record new { round = old.round; past = old.past; lane = old.lane; steps = old.steps ++ taken ∷ [] }
  pub goes_on : IsPrefix old.knows.history new.knows.history

-- a turn after which there is more to do. The first turn loads the key's leaf. If the serial that was found lets the update continue, the second
-- exchanges the word found for the one that the request makes of it
pub record TurnsOn (old new : ClimbFacts) : Type 0 where
  pub same : new ≡ record old { now = new.now; left = new.left }
  pub once : StepsOnce old.now new.now
  pub falls : new.left < old.left
  pub some : 1 ≤ new.left
  pub first : old.now.steps ≡ old.start.steps → (found : ℕ) × (new.now.steps ≡ old.now.steps ++ load_leaf old.key found ∷ [])
  pub second : (loaded : ℕ) → old.now.steps ≡ old.start.steps ++ load_leaf old.key loaded ∷ [] → goes_from old.request loaded ≡ true
      → (found : ℕ) × (new.now.steps ≡ old.now.steps ++ try_leaf old.key loaded (word_after old.request old.key loaded) found ∷ [])

-- the last turn: the outcome of the update, from what was known at the start to what is known now. The update counts as one of the pass's budget
pub record Finishes (done : Outcome) (old : ClimbFacts) (pass : PassFacts) : Type 0 where
  pub once : StepsOnce old.now pass
  pub some : 1 ≤ old.left
  pub comes_to : ComesTo old.request old.key done old.start.knows pass.knows
  pub goes_on : (steps : ℕ) × GoesOn 1 steps old.start pass
  pub steps : StepsOf old.request old.key done old.start pass
