-- What a batch of updates of a table that lasts comes to. Insertions of 1 and 4 into a table of 3 bits in which both have even serials come to two parts, if nobody else changes these keys: the
-- change of 1 to the next serial, and that of 4. Each is told as a single update would tell it, and both are accepted changes then.
use Rattle.std.specs.Prelude.{◌≡◌, ℕ, ◌<◌, List, [], ◌++◌, length, get_or, flat_map}
use Rattle.aug_core.specs.declared.view.Change.{Change}
use Rattle.aug_model.specs.declared.outcome.Outcome.{Outcome}
use Rattle.aug_model.specs.declared.outcome.Outcome.TheVariants.{Refused}
use Rattle.aug_trie.specs.Knowledge.{Knowledge}
use Rattle.aug_trie.specs.Updates.{Updates}
use Rattle.aug_trie.specs.declared.updates.request.Request.{Request}
use Rattle.aug_trie.specs.declared.updates.request.Request.TheVariants.{Insert}
use Rattle.aug_trie.specs.declared.updates.told.Told.{Told}

-- an update of a batch comes to what a single one would, between what was known before the batch and what is known after it, with its own changes alone; and so it would tell its key's weights
pub record DoesAlone (request : Request) (key : ℕ) (done : Outcome) (own : List Change) (old new : Knowledge) : Type 0 where
  pub told : Told
  pub says : told.outcome ≡ done
  pub updates : Updates request key told (record { history = old.history; accepted = [] }) (record { history = new.history; accepted = own })

-- the changes of some updates, in turn
abbrev pub all_made : List (List Change) → List Change
all_made made = flat_map (λ own. own) made

-- the first `n` updates of a batch were made, each with changes of its own, and nothing else was accepted
pub record LastingBatch (requests : List Request) (keys : List ℕ) (outcomes : List Outcome) (n : ℕ) (old new : Knowledge) : Type 0 where
  pub made : List (List Change)
  pub one_each : length made ≡ n
  pub each : (i : ℕ) → i < n → DoesAlone (get_or requests i Insert) (get_or keys i 0) (get_or outcomes i Refused) (get_or made i []) old new
  pub accepted : new.accepted ≡ old.accepted ++ all_made made
