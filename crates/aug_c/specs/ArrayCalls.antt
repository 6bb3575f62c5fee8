-- What the calls for arrays of keys do to a user, and what they answer. An update is made for each key in turn, as far as the call comes without waiting,
-- and the progress counts them, so that the next call goes on from there (`UpdatesAll`). A query writes each answer to the place with its key's index
-- (`AsksAll`), and a list of members is written from the first place on (`ListsKeys`). In the example insertions of 0, 5 and 1 answer -3, and nothing
-- changes; those of 0, 0 and 2 make 3 updates, of which 2 changed the set. In a look the ranks of 4 and 0 are written as 2 and 0, and a list of the keys
-- from 2 on writes 3.
use Rattle.std.specs.Prelude.{◌≡◌, ◌≢◌, ◌⊎◌, ℕ, ◌+◌, ◌^◌, ◌<◌, ◌≤◌, ℤ, pos, Bool, true, false, List, [], ◌∷◌, ◌++◌, All, length, map, take, drop, min, get_or, flat_map}
use Rattle.aug_model.specs.Keys.{SetFacts, keys_of}
use Rattle.aug_trie.specs.UpdateBatches.{DoesBatch}
use Rattle.aug_model.specs.declared.outcome.Outcome.{Outcome}
use Rattle.aug_model.specs.declared.outcome.Outcome.TheVariants.{Accepted, Replaced}
use Rattle.aug_trie.specs.declared.updates.request.Request.{Request}
use Rattle.aug_trie.specs.declared.updates.request.Request.TheVariants.{Insert}
use Rattle.aug_live.specs.LiveHandles.{HandleFacts, LookFacts, Follows, Makes, IsAsked, set_of_look}
use Rattle.aug_c.specs.declared.array_updates.ArrayProgress.{ArrayProgress}
use Rattle.aug_c.specs.declared.raw_handle.RawHandle.{RawHandle}
use Rattle.aug_c.specs.UserCalls.{ShowsClosed, span_of}
use Rattle.aug_c.specs.Codes as codes
use Rattle.aug_c.specs.Handles.{AsksUser, UpdatesUser}

-- 1 if the set was changed
abbrev pub change_by : Outcome → ℕ
change_by Accepted = 1
change_by Replaced = 1
change_by done = 0

-- how many of the outcomes are of a change
abbrev pub changes : List Outcome → ℕ
changes [] = 0
changes (done ∷ more) = change_by done + changes more

-- so many requests are asked at the indices from this one on
abbrev pub AsksFrom : (ℕ → Request) → ℕ → ℕ → List Request → Type 0
AsksFrom asked place count requests = (i : ℕ) → i < count → get_or requests i Insert ≡ asked (place + i)

-- one step for some of the next keys in turn, as far as there are outcomes; the first key has the index `place`
abbrev pub InTurn : {S : Type 0} → (ℕ → List ℕ → List Outcome → S → S → Type 0) → ℕ → List ℕ → List (List Outcome) → S → S → Type 0
InTurn does place keys [] old new = new ≡ old
InTurn {S} does place keys (done ∷ more) old new = (next : S) × (length done ≤ length keys) × does place (take (length done) keys) done old next × InTurn does (place + length done) (drop (length done) keys) more next new

-- a user makes updates of some keys in one batch, those that are asked at the indices of the keys
pub record MakesSome (asked : ℕ → Request) (place : ℕ) (keys : List ℕ) (done : List Outcome) (old new : HandleFacts) : Type 0 where
  pub requests : List Request
  pub asks : AsksFrom asked place (length keys) requests
  pub makes : Makes (length keys) (DoesBatch requests keys done) old new

-- why updates that were begun have ended: all are made, or the next one was not, and then the user follows on what it knew
abbrev pub EndsAt : ℕ → ℕ → HandleFacts → HandleFacts → ℤ → Type 0
EndsAt all made last new code = ((code ≡ pos 0) × (made ≡ all) × (new ≡ last)) ⊎ (((code ≡ codes.again) ⊎ ((code ≡ codes.closed) × ShowsClosed new)) × (made < all) × Follows last new)

-- updates for the keys from the index on that the progress had come to, in batches: how far they came, what they came to, and why they ended
pub record MakesEach (asked : ℕ → Request) (keys : List ℕ) (before after : ArrayProgress) (old new : HandleFacts) (code : ℤ) : Type 0 where
  pub batches : List (List Outcome)
  pub last : HandleFacts
  pub in_turn : InTurn (MakesSome asked) before.made (drop before.made keys) batches old last
  pub made : after.made ≡ before.made + length (flat_map (λ done. done) batches)
  pub changed : after.changed ≡ before.changed + changes (flat_map (λ done. done) batches)
  pub ends : EndsAt (length keys) after.made last new code

-- there are as many weights as keys, no more of them than there are keys of so many bits, and the progress is one over them
abbrev pub HasLengths : ℕ → ℕ → ℕ → ArrayProgress → Type 0
HasLengths bits keys weights progress = (weights ≡ keys) × (keys ≤ 2 ^ bits) × (progress.made ≤ keys) × (progress.changed ≤ progress.made)

-- updates for an array by the access of a user: which lengths and keys are refused, so that nothing changes, and what is made otherwise
pub record UpdatesAllFree (asked : ℕ → Request) (keys : List ℕ) (weights : ℕ) (before after : ArrayProgress) (old new : HandleFacts) (code : ℤ) : Type 0 where
  pub bad_length : (¬ HasLengths old.half.round.bits (length keys) weights before) → (code ≡ codes.bad_length) × (new ≡ old) × (after ≡ before)
  pub bad_key : HasLengths old.half.round.bits (length keys) weights before → (¬ All (λ k. k < 2 ^ old.half.round.bits) keys) → (code ≡ codes.bad_key) × (new ≡ old) × (after ≡ before)
  pub makes : HasLengths old.half.round.bits (length keys) weights before → All (λ k. k < 2 ^ old.half.round.bits) keys → MakesEach asked keys before after old new code

-- updates for an array by a user
abbrev pub UpdatesAll : (ℕ → Request) → List ℕ → ℕ → ArrayProgress → ArrayProgress → RawHandle → RawHandle → ℤ → Type 0
UpdatesAll asked keys weights before after = UpdatesUser (UpdatesAllFree asked keys weights before after) (after ≡ before)

-- 1 or 0
abbrev pub bit_of : Bool → ℕ
bit_of true = 1
bit_of false = 0

-- each key's answer by the look's snapshot stands at the place with its index, and the places behind are as they were. Nothing that a later query could
-- see was changed
pub record AnswersEach {X : Type 0} (told : SetFacts → ℕ → X) (keys : List ℕ) (before after : List X) (old new : LookFacts) : Type 0 where
  pub written : after ≡ map (told (set_of_look old)) keys ++ drop (length keys) before
  pub most : ℕ
  pub asked : IsAsked span_of most old new

-- the queries of a look for an array, which are refused if there is too little room for the answers
pub record AnswersArray {X : Type 0} (told : SetFacts → ℕ → X) (keys : List ℕ) (before after : List X) (old new : LookFacts) (code : ℤ) : Type 0 where
  pub bad_length : length before < length keys → (code ≡ codes.bad_length) × (new ≡ old) × (after ≡ before)
  pub answers : length keys ≤ length before → (code ≡ pos 0) × AnswersEach told keys before after old new

-- the same of a user
abbrev pub AsksAll : {X : Type 0} → (SetFacts → ℕ → X) → List ℕ → List X → List X → RawHandle → RawHandle → ℤ → Type 0
AsksAll told keys before after = AsksUser (AnswersArray told keys before after) (after ≡ before)

-- the weights of pairs
abbrev pub weights_of : List (ℕ × ℕ) → List ℕ
weights_of pairs = map (λ p. p.1) pairs

-- the first of some values are written, as many as there is room for, and the places behind are as they were
pub record ListsMembers {X : Type 0} (members before after : List X) (count : ℕ) : Type 0 where
  pub counts : count ≡ min (length before) (length members)
  pub written : after ≡ take count members ++ drop count before

-- the first of some members of a look's snapshot are written, and the answer is how many
pub record ListsKeys (members : SetFacts → List (ℕ × ℕ)) (before after : List ℕ) (old new : LookFacts) (code : ℤ) : Type 0 where
  pub count : ℕ
  pub says : code ≡ pos count
  pub lists : ListsMembers (keys_of (members (set_of_look old))) before after count
  pub most : ℕ
  pub asked : IsAsked span_of most old new

-- and their weights as well, which is refused if there is not as much room for them
pub record ListsBoth (members : SetFacts → List (ℕ × ℕ)) (keys keys_after weights weights_after : List ℕ) (old new : LookFacts) (code : ℤ) : Type 0 where
  pub bad_length : length weights ≢ length keys → (code ≡ codes.bad_length) × (new ≡ old) × (keys_after ≡ keys) × (weights_after ≡ weights)
  pub lists : length weights ≡ length keys → (listed : ListsKeys members keys keys_after old new code) × ListsMembers (weights_of (members (set_of_look old))) weights weights_after listed.count

-- the same of a user
abbrev pub ListsAllBoth : (SetFacts → List (ℕ × ℕ)) → List ℕ → List ℕ → List ℕ → List ℕ → RawHandle → RawHandle → ℤ → Type 0
ListsAllBoth members keys keys_after weights weights_after = AsksUser (ListsBoth members keys keys_after weights weights_after) ((keys_after ≡ keys) × (weights_after ≡ weights))
