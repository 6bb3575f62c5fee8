-- What contracts see of a pass, and what an update makes of it.
use Rattle.std.specs.Prelude.{◌≡◌, ◌≢◌, ℕ, ◌+◌, ◌-◌, ◌*◌, ◌≤◌, ◌==◌, if◌then◌else◌, true, false, List, ◌∷◌, ◌++◌, length, All}
use Rattle.aug_core.specs.Places.{Shape}
use Rattle.aug_core.specs.Layout.{IsWithin}
use Rattle.aug_core.specs.Book.{Book}
use Rattle.aug_core.specs.Cuts.{serial_of}
use Rattle.aug_core.specs.Kinds.{load_leaf, try_leaf}
use Rattle.aug_core.specs.declared.step.StepTaken.{StepTaken}
use Rattle.aug_model.specs.declared.outcome.Outcome.{Outcome}
use Rattle.aug_model.specs.declared.outcome.Outcome.TheVariants.{Refused}
use Rattle.aug_core.specs.declared.step.StepKind.TheVariants.{TryLeaf}
use Rattle.aug_trie.specs.LeafWords.{serial_in_word, weight_in_word}
use Rattle.aug_trie.specs.inside.Weights.{WeighsAt}
use Rattle.aug_trie.specs.Requests.{goes_from, in_the_way, word_after, outcome_by, outcome_at_once, stores_nothing, changes_by}
use Rattle.aug_core.specs.Prefixes.{IsPrefix}
use Rattle.aug_trie.specs.Chains.{Chapter, Chain, chain}
use Rattle.aug_trie.specs.History.{last_cut}
use Rattle.aug_trie.specs.Knowledge.{Knowledge, IsKnowledge}
use Rattle.aug_trie.specs.Round.{RoundFacts}
use Rattle.aug_trie.specs.declared.updates.request.Request.{Request}

-- opaque: the words that the nodes of a pass's snapshots are read from: how they are laid out, and what they said
pub record WordsSeen : Type 0 where
  pub shape : Shape
  pub book : Book

-- a key had this weight with this serial, as the words tell
abbrev pub Weighed : WordsSeen → ℕ → ℕ → ℕ → Type 0
Weighed words key serial weight = WeighsAt words.book key serial weight

-- whatever the earlier words tell of weights the later ones tell too
abbrev pub KeepWeights : WordsSeen → WordsSeen → Type 0
KeepWeights earlier later = (key serial weight : ℕ) → Weighed earlier key serial weight → Weighed later key serial weight

-- a pass: its round, the rounds before in its table, its lane, what it knows, for each cut of its history the number of the root's record that shows
-- it, how many updates it made, its atomic steps, and the words that it has seen
pub record PassFacts : Type 0 where
  pub round : RoundFacts
  pub past : List Chapter
  pub lane : ℕ
  pub knows : Knowledge
  pub numbers : List ℕ
  pub spent : ℕ
  pub steps : List StepTaken
  pub words : WordsSeen

-- what it knows of the rounds of its table
abbrev pub chain_of : PassFacts → Chain
chain_of pass = chain pass.past pass.round.members pass.knows.history

-- the pass is in the same round and lane, after `updates` more updates and `steps` more steps
pub record GoesOn (updates steps : ℕ) (old new : PassFacts) : Type 0 where
  pub same : new ≡ record new { round = old.round; past = old.past; lane = old.lane; spent = old.spent + updates }
  pub step_count : length new.steps ≡ length old.steps + steps
  pub steps_stay : IsPrefix old.steps new.steps
  pub knowledge : IsKnowledge new.round.bits new.round.members new.knows
  pub named : length new.numbers ≡ length new.knows.history

-- none of the steps is an exchange of a leaf
abbrev pub TryNoLeaf : List StepTaken → Type 0
TryNoLeaf steps = All (λ taken. taken.kind ≢ TryLeaf) steps

-- an update's second step is an exchange of the word that was loaded for the one that the request makes of it, and the outcome says whether it succeeded;
-- it exchanges no other leaf
pub record ExchangesOnce (request : Request) (key loaded : ℕ) (more : List StepTaken) (done : Outcome) : Type 0 where
  pub found : ℕ
  pub rest : List StepTaken
  pub second : more ≡ try_leaf key loaded (word_after request key loaded) found ∷ rest
  pub says : done ≡ (if found == loaded then outcome_by request loaded else Refused)
  pub no_other : TryNoLeaf rest

-- the fewest atomic steps of an update: a load of the key's leaf, a try of 9 steps at the lowest node above it, and one of 15 at each further node up to
-- the root
abbrev pub least_update_steps : ℕ → ℕ
least_update_steps bits = 15 * bits - 5

-- and the most: a load of the leaf and an exchange of its word, and two such tries at each node
abbrev pub most_update_steps : ℕ → ℕ
most_update_steps bits = 30 * bits - 10

-- the most of them that are made at the nodes above the leaf, up to a level: two tries at each
abbrev pub most_rise_steps : ℕ → ℕ
most_rise_steps level = 30 * level - 12

-- an update's steps: their number has a lower and an upper bound; the first loads the key's leaf. If the word found refuses, no leaf is exchanged.
-- Otherwise the second step is the only exchange of a leaf, of the word found for the one that the request makes of it, and the outcome says whether
-- it succeeded. If nothing was stored, the last cut shows what prevented the update, so the steps brought that to the root. What was stored is reckoned
-- from the weight that the key had just before, which is the one in the word found
pub record StepsOf (request : Request) (key : ℕ) (done : Outcome) (old new : PassFacts) : Type 0 where
  pub found : ℕ
  pub more : List StepTaken
  pub steps : new.steps ≡ old.steps ++ load_leaf key found ∷ more
  pub step_count : IsWithin (least_update_steps old.round.bits) (most_update_steps old.round.bits) (length more + 1)
  pub refuses : goes_from request found ≡ false → (done ≡ outcome_at_once request) × TryNoLeaf more
  pub tries : goes_from request found ≡ true → ExchangesOnce request key found more done
  pub shows : stores_nothing done ≡ true → in_the_way request found ≤ serial_of (last_cut new.knows.history) key
  pub weighed : Weighed new.words key (serial_in_word found) (weight_in_word found)
  pub stored : new.knows.accepted ≡ old.knows.accepted ++ changes_by request key found done
