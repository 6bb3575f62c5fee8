-- An update as a whole: its steps, and its result.
use Rattle.std.specs.Prelude.{◌≡◌, ◌⊎◌, ℕ, ◌+◌, ◌-◌, ◌%◌, ◌^◌, ◌<◌, ◌≤◌, ◌==◌, nat_lt, ⊤, true, false, List, [], ◌∷◌, ◌++◌, length}
use Rattle.aug_core.specs.Places.{Shape}
use Rattle.aug_core.specs.Book.{IsPassed}
use Rattle.aug_core.specs.Kinds.{load_leaf}
use Rattle.aug_core.specs.inside.Shows.{NewestShows, ShowsAtMost}
use Rattle.aug_core.specs.Effects.{made_by, new_serial}
use Rattle.aug_core.specs.declared.step.StepTaken.{StepTaken}
use Rattle.aug_core.specs.declared.view.Advance.{Advance}
use Rattle.aug_core.specs.declared.view.SeatView.{SeatView}
use Rattle.aug_model.specs.declared.outcome.Outcome.{Outcome}
use Rattle.aug_model.specs.declared.outcome.Outcome.TheVariants as outcome
use Rattle.aug_trie.specs.inside.Goes.{Goes}
use Rattle.aug_trie.specs.inside.Weights.{WeighsAt}
use Rattle.aug_trie.specs.Pass.{TryNoLeaf, ExchangesOnce, least_update_steps, most_update_steps}
use Rattle.aug_trie.specs.LeafWords.{serial_in_word, weight_in_word}
use Rattle.aug_trie.specs.Requests.{goes_from, in_the_way, outcome_at_once, outcome_by, weight_told, word_left}
use Rattle.aug_trie.specs.declared.updates.request.Request.{Request}
use Rattle.aug_trie.specs.declared.updates.told.LeafUpdate.{LeafUpdate}
use Rattle.aug_trie.specs.declared.updates.told.Told.{Told}
use Rattle.aug_trie.specs.declared.updates.request.Request.TheVariants.{Insert, Remove, Put, Add, Sub, Take}

-- what an update came to by the word that it found at its leaf, and the word that it left
pub record ChangesLeaf (request : Request) (key : ℕ) (made : LeafUpdate) : Type 0 where
  pub stops : goes_from request made.found ≡ false → made.outcome ≡ outcome_at_once request
  pub tries : goes_from request made.found ≡ true → (made.outcome ≡ outcome_by request made.found) ⊎ (made.outcome ≡ outcome.Refused)
  pub left : made.left ≡ word_left request key made.found made.outcome

-- what an update of a leaf tells
abbrev pub told_by : LeafUpdate → Told
told_by made = record { outcome = made.outcome; before = weight_told made.found; now = weight_told made.left }

-- the weight that a put brings, or the amount, fits a leaf's word
abbrev pub FitsRequest : Request → Type 0
FitsRequest Insert = ⊤
FitsRequest Remove = ⊤
FitsRequest (Put weight) = weight < 2 ^ 32
FitsRequest (Add amount) = amount < 2 ^ 32
FitsRequest (Sub amount) = amount < 2 ^ 32
FitsRequest (Take weight) = ⊤

-- what a request makes of a leaf with this word: a key that is there is replaced by a put, an addition, and a subtraction that leaves some of its weight
abbrev pub advance_from : Request → ℕ → ℕ → Advance
advance_from Insert key word = record { serial = serial_in_word word; weight = weight_in_word word; replaces = false; new_weight = key }
advance_from Remove key word = record { serial = serial_in_word word; weight = weight_in_word word; replaces = false; new_weight = 0 }
advance_from (Put weight) key word = record { serial = serial_in_word word; weight = weight_in_word word; replaces = serial_in_word word % 2 == 1; new_weight = weight }
advance_from (Add amount) key word = record { serial = serial_in_word word; weight = weight_in_word word; replaces = serial_in_word word % 2 == 1; new_weight = weight_in_word word + amount }
advance_from (Sub amount) key word = record { serial = serial_in_word word; weight = weight_in_word word; replaces = nat_lt amount (weight_in_word word); new_weight = weight_in_word word - amount }
advance_from (Take weight) key word = record { serial = serial_in_word word; weight = weight_in_word word; replaces = false; new_weight = 0 }

-- a leaf's word, with its whole serial before the weight: the word has the last bits of that, and in a round all of them
pub record IsWholeWord (s : Shape) (word whole : ℕ) : Type 0 where
  pub last_bits : whole % 2 ^ 64 ≡ word
  pub in_round : s.reservations ≡ 0 → whole ≡ word

module _ (face : ℕ → ℕ → List (ℕ × ℕ) → List ℕ) (used : ℕ) (v : SeatView) (key : ℕ) (request : Request) (w : SeatView) where
  -- the key's serial went up as the request says, which are changes of the view, and the root shows it with its weight; what it went past it never shows
  pub record WentUp (a : Advance) : Type 0 where
    pub weighed : WeighsAt w.seen key a.serial a.weight
    pub goes : Goes face used (made_by key a) v w
    pub before : ShowsAtMost v.shape v.seen key a.serial
    pub shown : NewestShows v.shape w.seen key v.shape.bits (new_serial a)
    pub weighs : WeighsAt w.seen key (new_serial a) a.new_weight
    pub passes : a.replaces ≡ true → IsPassed w.seen key (a.serial + 1)

  -- a serial of the key prevented the update, which found this word, and the root shows it; the word has the key's weight
  pub record Stayed (loaded : ℕ) : Type 0 where
    pub goes : Goes face used [] v w
    pub before : ShowsAtMost v.shape v.seen key (serial_in_word loaded)
    pub shown : NewestShows v.shape w.seen key v.shape.bits (in_the_way request loaded)
    pub weighed : WeighsAt w.seen key (serial_in_word loaded) (weight_in_word loaded)

  -- and it was the word found, with its weight, that prevented it
  pub record StayedAtOnce (loaded : ℕ) (done : Outcome) : Type 0 where
    pub stayed : Stayed loaded
    pub stops : goes_from request loaded ≡ false
    pub says : done ≡ outcome_at_once request

  -- the result of an update whose leaf had this word, with its whole serial, when it was loaded, or at the exchange if that succeeded
  abbrev pub CameTo : ℕ → Outcome → Type 0
  CameTo loaded outcome.Accepted = WentUp (advance_from request key loaded) × ((advance_from request key loaded).replaces ≡ false) × (goes_from request loaded ≡ true)
  CameTo loaded outcome.Replaced = WentUp (advance_from request key loaded) × ((advance_from request key loaded).replaces ≡ true) × (goes_from request loaded ≡ true)
  CameTo loaded outcome.Refused = Stayed loaded
  CameTo loaded done = StayedAtOnce loaded done

  -- that of an update which loaded this word
  pub record CameBy (loaded : ℕ) (done : Outcome) : Type 0 where
    pub whole : ℕ
    pub is_whole : IsWholeWord v.shape loaded whole
    pub came_to : CameTo whole done

  -- an update by the word that it found, with its whole serial, whatever its other steps were
  pub record Settled (done : Outcome) : Type 0 where
    pub loaded : ℕ
    pub more : List StepTaken
    pub refusing : goes_from request loaded ≡ false → (done ≡ outcome_at_once request) × TryNoLeaf more
    pub came_to : CameTo loaded done

  -- an update: its first step is a load of the leaf, and the number of its steps has a lower and an upper bound
  pub record Updated (done : Outcome) : Type 0 where
    pub loaded : ℕ
    pub more : List StepTaken
    pub steps : w.steps ≡ v.steps ++ load_leaf key loaded ∷ more
    pub least_steps : least_update_steps v.shape.bits ≤ length more + 1
    pub most_steps : length more + 1 ≤ most_update_steps v.shape.bits
    pub tried : goes_from request loaded ≡ true → ExchangesOnce request key loaded more done
    pub refusing : goes_from request loaded ≡ false → (done ≡ outcome_at_once request) × TryNoLeaf more
    pub came : CameBy loaded done

  -- and by this word, which it found
  abbrev pub UpdatedFrom : ℕ → Outcome → Type 0
  UpdatedFrom loaded done = (u : Updated done) × (u.loaded ≡ loaded)
