-- What a batch of updates does. Each update loads its key's leaf and exchanges it, or finds that its word refuses it, and after all of them the nodes above
-- are brought up to the leaves. So each is accepted or refused by an exchange of its own, and what it came to shows in the last cut.
use Rattle.std.specs.Prelude.{◌≡◌, ℕ, zero, suc, ◌+◌, ◌*◌, ◌/◌, ◌<◌, ◌≤◌, ◌==◌, if◌then◌else◌, true, false, List, [], ◌∷◌, ◌++◌, length, get_or, flat_map}
use Rattle.aug_core.specs.Cuts.{serial_of}
use Rattle.aug_core.specs.Kinds.{load_leaf}
use Rattle.aug_core.specs.declared.step.StepTaken.{StepTaken}
use Rattle.aug_core.specs.declared.view.Change.{Change}
use Rattle.aug_model.specs.declared.outcome.Outcome.{Outcome}
use Rattle.aug_model.specs.declared.outcome.Outcome.TheVariants.{Refused}
use Rattle.aug_trie.specs.declared.updates.request.Request.{Request}
use Rattle.aug_trie.specs.declared.updates.request.Request.TheVariants.{Insert}
use Rattle.aug_trie.specs.History.{last_cut}
use Rattle.aug_trie.specs.LeafWords.{serial_in_word, weight_in_word}
use Rattle.aug_trie.specs.Pass.{PassFacts, TryNoLeaf, ExchangesOnce, Weighed, most_update_steps, most_rise_steps}
use Rattle.aug_trie.specs.Requests.{goes_from, in_the_way, outcome_at_once, stores_nothing, changes_by}
use Rattle.aug_trie.specs.Updates.{ComesTo}

-- the part of one update: its steps at the leaf, and the changes that it made
pub record BatchPart : Type 0 where
  pub steps : List StepTaken
  pub made : List Change

abbrev pub no_part : BatchPart
no_part = record { steps = []; made = [] }

-- an update of a batch comes to what a single one would, between what was known before the batch and what is known after it, with its own changes alone
pub record DoesPart (request : Request) (key : ℕ) (done : Outcome) (part : BatchPart) (old new : PassFacts) : Type 0 where
  pub comes_to : ComesTo request key done (record { history = old.knows.history; accepted = [] }) (record { history = new.knows.history; accepted = part.made })
  pub found : ℕ
  pub more : List StepTaken
  pub steps : part.steps ≡ load_leaf key found ∷ more
  pub refuses : goes_from request found ≡ false → (done ≡ outcome_at_once request) × TryNoLeaf more
  pub tries : goes_from request found ≡ true → ExchangesOnce request key found more done
  pub shows : stores_nothing done ≡ true → in_the_way request found ≤ serial_of (last_cut new.knows.history) key
  pub weighed : Weighed new.words key (serial_in_word found) (weight_in_word found)
  pub stored : part.made ≡ changes_by request key found done

-- how many of the nodes above a key, of which there is one on each of so many levels, are not above the next key: those below where the ways of the two join.
-- For keys of 3 bits, those of 0 and 1 join at once (0), and those of 1 and 4 at the root (2)
unfoldable pub apart : ℕ → ℕ → ℕ → ℕ
apart zero key next = 0
apart (suc levels) key next = if key / 2 == next / 2 then 0 else suc (apart levels (key / 2) (next / 2))

-- the most steps at the nodes above some keys: two tries at each that is above a key and not above the next one, and so at each node above rising keys
unfoldable pub most_rises : ℕ → List ℕ → ℕ
most_rises bits [] = 0
most_rises bits (key ∷ []) = most_rise_steps bits
most_rises bits (key ∷ next ∷ keys) = most_rise_steps (apart bits key next) + most_rises bits (next ∷ keys)

-- a batch is its updates at their leaves in turn, and then steps at the nodes above them, of which none is an exchange of a leaf. All steps together are
-- no more than those of as many single updates
pub record DoesBatch (requests : List Request) (keys : List ℕ) (outcomes : List Outcome) (old new : PassFacts) : Type 0 where
  pub parts : List BatchPart
  pub one_each : length parts ≡ length keys
  pub each : (i : ℕ) → i < length keys → DoesPart (get_or requests i Insert) (get_or keys i 0) (get_or outcomes i Refused) (get_or parts i no_part) old new
  pub accepted : new.knows.accepted ≡ old.knows.accepted ++ flat_map (λ part. part.made) parts
  pub rest : List StepTaken
  pub steps : new.steps ≡ (old.steps ++ flat_map (λ part. part.steps) parts) ++ rest
  pub no_other : TryNoLeaf rest
  pub few_rises : length rest ≤ most_rises old.round.bits keys
  pub few_steps : length new.steps ≤ length old.steps + length keys * most_update_steps old.round.bits
