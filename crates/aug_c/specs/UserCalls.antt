-- What the calls on a user do to it, and what they answer. `UpdatesKey` has the exact condition of `bad_key`; an update that was not made left the set
-- as it was. A query answers by the snapshot that the look shows (`Asks`) and changes nothing that a later one could see. In the example an insertion
-- of 0 answers 1, one of 1 answers 0, and one of 4 answers -3; in a look a rank of 3 answers 1, `aug_select` of 5 answers -1, and `aug_range` from 1 to
-- 4 answers 2 and writes the sum 4 and the bounds 1 and 3; an insertion of 2 beside the look answers 1, and the rank of 3 is 1 still, until `aug_look_again`
-- answers 0 and it is 2; a second look answers -12, and a rank -13 after the look is done. Of 64 updates that the lane of a new user has, `aug_try_room`
-- tells 64, and 62 after the first two insertions.
use Rattle.std.specs.Prelude.{◌≡◌, ◌≢◌, ◌⊎◌, ℕ, ◌^◌, ◌≤◌, ◌↔◌, ℤ, pos, Bool, true, false, Option, Some, None, Result, Ok, Err, IfOk, IfErr, IsErrOf, List, length, ⊤}
use Rattle.aug_monoid.specs.Sum.{sum_parts}
use Rattle.aug_monoid.specs.Extent.{extent_parts}
use Rattle.aug_monoid.specs.declared.sum.Sum.{Sum}
use Rattle.aug_monoid.specs.declared.extent.Extent.{Extent}
use Rattle.aug_model.specs.Folds.{summary_of}
use Rattle.aug_model.specs.Keys.{SetFacts}
use Rattle.aug_model.specs.Queries.{weighted_range_of}
use Rattle.aug_model.specs.declared.summary.Summary.{Summary}
use Rattle.aug_trie.specs.Updates.{Updates}
use Rattle.aug_model.specs.declared.outcome.Outcome.{Outcome}
use Rattle.aug_model.specs.declared.outcome.Outcome.TheVariants.{Accepted, Replaced, Refused, Unchanged, TooGreat, TooLittle}
use Rattle.aug_trie.specs.declared.updates.request.Request.{Request}
use Rattle.aug_trie.specs.declared.updates.request.Request.TheVariants.{Insert}
use Rattle.aug_trie.specs.declared.updates.told.Told.{Told}
use Rattle.aug_live.specs.LiveHandles.{HandleFacts, LookFacts, Follows, IsRoom, OpensLook, LooksAgain, Makes, IsAsked, set_of_look}
use Rattle.aug_live.specs.LiveErrors.{RefusesCall}
use Rattle.aug_live.specs.declared.error.LiveError.{LiveError}
use Rattle.aug_c.specs.declared.refusal.CallRefusal.{CallRefusal}
use Rattle.aug_c.specs.declared.refusal.CallRefusal.TheVariants.{BadKey, Again, Closed}
use Rattle.aug_c.specs.declared.raw_handle.RawHandle.{RawHandle}
use Rattle.aug_c.specs.declared.queries.Span.{Span}
use Rattle.aug_c.specs.declared.updates.WeightsTold.{WeightsTold}
use Rattle.aug_c.specs.Codes as codes
use Rattle.aug_c.specs.Handles.{AsksUser, HandleCall, OnUser, UpdatesUser}
use Rattle.aug_c.specs.Users.{UserFacts}

-- the number of the keys, the sum of their weights, and the least and the greatest of them
abbrev pub span_of : List (ℕ × ℕ) → Summary Sum Extent
span_of pairs = summary_of sum_parts extent_parts pairs

-- the code of a refusal
abbrev pub refusal_code : CallRefusal → ℤ
refusal_code BadKey = codes.bad_key
refusal_code Again = codes.again
refusal_code Closed = codes.closed

-- what an update answers: 1 if the key went in or out, 2 if a member has a new weight, 3 if an amount is 0, and 0 if it was refused
abbrev pub outcome_code : Outcome → ℤ
outcome_code Accepted = pos 1
outcome_code Replaced = pos 2
outcome_code Refused = pos 0
outcome_code Unchanged = pos 3
outcome_code TooGreat = codes.too_great
outcome_code TooLittle = codes.too_little

abbrev pub update_code : Result Told CallRefusal → ℤ
update_code (Ok told) = outcome_code told.outcome
update_code (Err cause) = refusal_code cause

-- a number if there is one
abbrev pub found : Option ℕ → ℤ
found (Some n) = pos n
found None = codes.none

-- what an update that was made tells of its key is written, with -1 where it is no member, and else nothing
abbrev pub told_in : Result Told CallRefusal → WeightsTold → WeightsTold → Type 0
told_in (Ok told) before after = (after.before ≡ found told.before) × (after.now ≡ found told.now)
told_in (Err cause) before after = after ≡ before

-- 1 or 0
abbrev pub truth : Bool → ℤ
truth true = pos 1
truth false = pos 0

-- a user's access shows why it is told that the trie is closed: nothing works there, or another access has its lane, or no round can follow
abbrev pub ShowsClosed : HandleFacts → Type 0
ShowsClosed access = (cause : LiveError) × RefusesCall access cause

-- an update of a key by a user's access: if the key is none of the trie, nothing changes; and else it is made, or the user follows on what it
-- knew. What it tells is written to a place with these weights before and after the call
pub record UpdatesFree (asked : Request) (key : ℕ) (before after : WeightsTold) (old new : HandleFacts) (code : ℤ) : Type 0 where
  pub answer : Result Told CallRefusal
  pub says : code ≡ update_code answer
  pub tells : told_in answer before after
  pub bad_key : IsErrOf answer BadKey ↔ (2 ^ old.half.round.bits ≤ key)
  pub same : IsErrOf answer BadKey → new ≡ old
  pub made : IfOk answer (λ told. Makes 1 (λ a b. Updates asked key told a.knows b.knows) old new)
  pub not_made : IfErr answer (λ _. Follows old new)
  pub closed : IsErrOf answer Closed → ShowsClosed new

-- an update of a key by a user
abbrev pub UpdatesKey : Request → ℕ → WeightsTold → WeightsTold → RawHandle → RawHandle → ℤ → Type 0
UpdatesKey asked key before after = UpdatesUser (UpdatesFree asked key before after) (after ≡ before)

-- a user is told how many updates are left to its lane in this round, and makes none of them
pub record TellsRoom (old new : HandleFacts) (code : ℤ) : Type 0 where
  pub follows : Follows old new
  pub told : ((left : ℕ) × (code ≡ pos left) × IsRoom left new.half) ⊎ (code ≡ codes.again) ⊎ ((code ≡ codes.closed) × ShowsClosed new)

abbrev pub AsksRoom : RawHandle → RawHandle → ℤ → Type 0
AsksRoom = UpdatesUser TellsRoom ⊤

-- an insertion, which does not tell what its key weighed
abbrev pub InsertsKey : ℕ → RawHandle → RawHandle → ℤ → Type 0
InsertsKey key = UpdatesUser (λ old new code. (told : WeightsTold × WeightsTold) × UpdatesFree Insert key told.0 told.1 old new code) ⊤

-- a user that has no look takes one, or follows on what it knew. It is not told that it has one
pub record TakesFirst (old : HandleFacts) (new : UserFacts) (code : ℤ) : Type 0 where
  pub looks : code ≡ pos 0 → (look : LookFacts) × (new.look ≡ Some look) × OpensLook old new.access look
  pub refused : code ≢ pos 0 → (new.look ≡ None) × Follows old new.access × (code ≡ codes.closed → ShowsClosed new.access)
  pub others : (code ≡ pos 0) ⊎ (code ≡ codes.again) ⊎ (code ≡ codes.closed)

-- a user with such an access takes a look, unless it has one
abbrev pub TakesLook : HandleFacts → Option LookFacts → UserFacts → ℤ → Type 0
TakesLook access (Some look) new code = (new ≡ record { access = access; look = Some look }) × (code ≡ codes.looking)
TakesLook access None new code = TakesFirst access new code

abbrev pub TakesALook : RawHandle → RawHandle → ℤ → Type 0
TakesALook = HandleCall (OnUser (λ old new code. TakesLook old.access old.look new code) ⊤)

-- a look takes a newer snapshot: 0 if it is of the same round, and 1 if it is of a later one. Or it shows what it showed, and its user follows on what it knew
pub record ShowsNewer (access access' : HandleFacts) (old new : LookFacts) (code : ℤ) : Type 0 where
  pub same_round : code ≡ pos 0 → LooksAgain true old new access access'
  pub other_round : code ≡ pos 1 → LooksAgain false old new access access'
  pub refused : code ≢ pos 0 → code ≢ pos 1 → (new ≡ old) × Follows access access' × (code ≡ codes.closed → ShowsClosed access')
  pub others : (code ≡ pos 0) ⊎ (code ≡ pos 1) ⊎ (code ≡ codes.again) ⊎ (code ≡ codes.closed)

-- a user with such an access takes a newer snapshot in its look
abbrev pub TakesNewer : HandleFacts → Option LookFacts → UserFacts → ℤ → Type 0
TakesNewer access (Some old) new code = (access' : HandleFacts) × (look : LookFacts) × (new ≡ record { access = access'; look = Some look }) × ShowsNewer access access' old look code
TakesNewer access None new code = (new ≡ record { access = access; look = None }) × (code ≡ codes.not_looking)

abbrev pub LooksAnew : RawHandle → RawHandle → ℤ → Type 0
LooksAnew = HandleCall (OnUser (λ old new code. TakesNewer old.access old.look new code) ⊤)

-- a user with such an access ends its look
abbrev pub EndsLook : HandleFacts → Option LookFacts → UserFacts → ℤ → Type 0
EndsLook access (Some look) new code = (new ≡ record { access = access; look = None }) × (code ≡ pos 0)
EndsLook access None new code = (new ≡ record { access = access; look = None }) × (code ≡ codes.not_looking)

abbrev pub LooksDone : RawHandle → RawHandle → ℤ → Type 0
LooksDone = HandleCall (OnUser (λ old new code. EndsLook old.access old.look new code) ⊤)

-- a query of a look answers only by its snapshot, and changes nothing that a later one could see
pub record AsksLook (told : SetFacts → ℤ) (old new : LookFacts) (code : ℤ) : Type 0 where
  pub says : code ≡ told (set_of_look old)
  pub most : ℕ
  pub asked : IsAsked span_of most old new

-- a query of a user
abbrev pub Asks : (SetFacts → ℤ) → RawHandle → RawHandle → ℤ → Type 0
Asks told = AsksUser (AsksLook told) ⊤

-- the bounds of some keys: 0 if there are none
abbrev pub least_of : Option (ℕ × ℕ) → ℕ
least_of (Some bounds) = bounds.0
least_of None = 0

abbrev pub greatest_of : Option (ℕ × ℕ) → ℕ
greatest_of (Some bounds) = bounds.1
greatest_of None = 0

-- the span has the fields of the summary of a range
pub record IsSpan (told : Summary Sum Extent) (span : Span) : Type 0 where
  pub count : span.count ≡ told.count
  pub sum : span.sum ≡ told.a
  pub least : span.least ≡ least_of told.b
  pub greatest : span.greatest ≡ greatest_of told.b

-- a query of a range, whose summary is written
pub record AsksRange (from to : ℕ) (span : Span) (old new : LookFacts) (code : ℤ) : Type 0 where
  pub asks : AsksLook (λ set. pos (length (weighted_range_of set.pairs from to))) old new code
  pub is : IsSpan (span_of (weighted_range_of (set_of_look old).pairs from to)) span
