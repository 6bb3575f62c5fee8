-- What one call of a pass does to what it knows. An insertion of 1 into the example is refused because of the serial 1 that was there. A put of 1
-- with the weight 5 is a `ReplacedUpdate`: the changes of key 1 to serial 2 and, with the weight 5, to serial 3 are both accepted, and no cut shows
-- the serial 2. An addition of 5 to 1 is a `Reckoned` one: no cut shows the serial 1 of key 1 with another weight than 1, so the weight is 6 then.
use Rattle.std.specs.Prelude.{◌≡◌, ◌≢◌, ℕ, ◌+◌, ◌%◌, ◌^◌, ◌<◌, ◌≤◌, ◌⊎◌, true, List, [], ◌∷◌, ◌++◌, All}
use Rattle.aug_core.specs.Counts.{change}
use Rattle.aug_core.specs.Cuts.{Cut, serial_of, weight_at}
use Rattle.aug_core.specs.Prefixes.{IsPrefix}
use Rattle.aug_trie.specs.History.{last_cut}
use Rattle.aug_trie.specs.Knowledge.{Knowledge, StandsIn, insertion, removal}
use Rattle.aug_trie.specs.LeafWords.{serial_in_word, weight_in_word}
use Rattle.aug_trie.specs.Requests.{changes_by, goes_from, outcome_from, weight_told, word_left}
use Rattle.aug_model.specs.declared.outcome.Outcome.{Outcome}
use Rattle.aug_model.specs.declared.outcome.Outcome.TheVariants as outcome
use Rattle.aug_trie.specs.declared.updates.request.Request.{Request}
use Rattle.aug_trie.specs.declared.updates.told.Told.{Told}
use Rattle.aug_trie.specs.declared.updates.request.Request.TheVariants as request

-- an accepted update of the key: its serial is new, it shows now with its weight, and it is one more accepted change. An insertion's
-- weight is the key, a removal's 0
pub record AcceptedUpdate (parity key weight : ℕ) (old new : Knowledge) : Type 0 where
  pub goes_on : IsPrefix old.history new.history
  pub number : ℕ
  pub suits : number % 2 ≡ parity
  pub is_new : serial_of (last_cut old.history) key < number
  pub shows : StandsIn (last_cut new.history) (change key number weight)
  pub adds : new.accepted ≡ old.accepted ++ change key number weight ∷ []

-- a refused update of the key: its serial prevented the update at the start, or the key got another serial meanwhile
pub record RefusedUpdate (parity key : ℕ) (old new : Knowledge) : Type 0 where
  pub goes_on : IsPrefix old.history new.history
  pub stood : (serial_of (last_cut old.history) key % 2 ≡ parity) ⊎ (serial_of (last_cut old.history) key < serial_of (last_cut new.history) key)
  pub same_changes : new.accepted ≡ old.accepted

-- a replacement of the weight of the key: a removal and the insertion behind it are new, the insertion shows now with its weight, no cut ever
-- shows the removal, and both are accepted changes
pub record ReplacedUpdate (key weight : ℕ) (old new : Knowledge) : Type 0 where
  pub goes_on : IsPrefix old.history new.history
  pub number : ℕ
  pub suits : (number + 1) % 2 ≡ insertion
  pub is_new : serial_of (last_cut old.history) key < number
  pub shows : StandsIn (last_cut new.history) (change key (number + 1) weight)
  pub never_shown : All (λ cut. serial_of cut key ≢ number) new.history
  pub adds : new.accepted ≡ old.accepted ++ change key number 0 ∷ change key (number + 1) weight ∷ []

-- the cuts that show the key with this serial show it with this weight
abbrev pub WeighsWith : ℕ → ℕ → ℕ → List Cut → Type 0
WeighsWith key serial weight history = All (λ cut. serial_of cut key ≡ serial → weight_at cut key ≡ weight) history

-- a replacement whose weight is reckoned from the one before, which is what the key weighs with the serial just before the new ones. The last cut is past
-- that serial, so no cut of the round, whoever takes it, shows it with another weight
pub record Reckoned (key before after : ℕ) (old new : Knowledge) : Type 0 where
  pub replaced : ReplacedUpdate key after old new
  pub last : ℕ
  pub next : replaced.number ≡ last + 1
  pub was : WeighsWith key last before new.history

-- a removal of a key that had just this weight, with the serial just before the new one
pub record UsedUp (key weight : ℕ) (old new : Knowledge) : Type 0 where
  pub removed : AcceptedUpdate removal key 0 old new
  pub last : ℕ
  pub next : removed.number ≡ last + 1
  pub was : WeighsWith key last weight new.history

-- an update that stored nothing because of what the key weighed: between then and now the key had this serial and this weight, and these were as said. A
-- key that is no member weighs nothing
pub record Prevented (key : ℕ) (by : ℕ → ℕ → Type 0) (old new : Knowledge) : Type 0 where
  pub goes_on : IsPrefix old.history new.history
  pub serial : ℕ
  pub weight : ℕ
  pub not_before : serial_of (last_cut old.history) key ≤ serial
  pub not_after : serial ≤ serial_of (last_cut new.history) key
  pub was : WeighsWith key serial weight new.history
  pub none_if_even : serial % 2 ≡ removal → weight ≡ 0
  pub prevents : by serial weight
  pub same_changes : new.accepted ≡ old.accepted

-- a put that was refused, or an addition, a subtraction or a take: another change of the key came between then and now
pub record RefusedPut (key : ℕ) (old new : Knowledge) : Type 0 where
  pub goes_on : IsPrefix old.history new.history
  pub rises : serial_of (last_cut old.history) key < serial_of (last_cut new.history) key
  pub same_changes : new.accepted ≡ old.accepted

-- the result of an update with this request
abbrev pub ComesTo : Request → ℕ → Outcome → Knowledge → Knowledge → Type 0
ComesTo request.Insert key outcome.Accepted old new = AcceptedUpdate insertion key key old new
ComesTo request.Insert key outcome.Refused old new = RefusedUpdate insertion key old new
ComesTo request.Remove key outcome.Accepted old new = AcceptedUpdate removal key 0 old new
ComesTo request.Remove key outcome.Refused old new = RefusedUpdate removal key old new
ComesTo (request.Put weight) key outcome.Accepted old new = AcceptedUpdate insertion key weight old new
ComesTo (request.Put weight) key outcome.Replaced old new = ReplacedUpdate key weight old new
ComesTo (request.Put weight) key outcome.Refused old new = RefusedPut key old new
ComesTo (request.Add amount) key outcome.Accepted old new = AcceptedUpdate insertion key amount old new
ComesTo (request.Add amount) key outcome.Replaced old new = (before : ℕ) × (before + amount < 2 ^ 32) × Reckoned key before (before + amount) old new
ComesTo (request.Add amount) key outcome.Refused old new = RefusedPut key old new
ComesTo (request.Add amount) key outcome.Unchanged old new = Prevented key (λ serial weight. amount ≡ 0) old new
ComesTo (request.Add amount) key outcome.TooGreat old new = Prevented key (λ serial weight. 2 ^ 32 ≤ weight + amount) old new
ComesTo (request.Sub amount) key outcome.Accepted old new = UsedUp key amount old new
ComesTo (request.Sub amount) key outcome.Replaced old new = (after : ℕ) × (1 ≤ after) × Reckoned key (after + amount) after old new
ComesTo (request.Sub amount) key outcome.Refused old new = RefusedPut key old new
ComesTo (request.Sub amount) key outcome.Unchanged old new = Prevented key (λ serial weight. amount ≡ 0) old new
ComesTo (request.Sub amount) key outcome.TooLittle old new = Prevented key (λ serial weight. weight < amount) old new
ComesTo (request.Take weight) key outcome.Accepted old new = UsedUp key weight old new
ComesTo (request.Take weight) key outcome.Refused old new = RefusedPut key old new ⊎ Prevented key (λ serial had. (serial % 2 ≡ removal) ⊎ (had ≢ weight)) old new
ComesTo asked key done old new = ⊥

-- an update would have gone on from the word that it found, but another change of the key came first
pub record IsLost (request : Request) (key found : ℕ) (done : Outcome) (new : Knowledge) : Type 0 where
  pub refused : done ≡ outcome.Refused
  pub was_to_go_on : goes_from request found ≡ true
  pub rises : serial_in_word found < serial_of (last_cut new.history) key

-- what an update tells of its key: the weights in the word that it found there, between then and now, and in the one that it left. No cut shows the serial in the
-- word found with another weight; what the update came to and what it stored is what the request makes of that word, unless another change came first. So an
-- update of a key of which it tells the weight 100 does not say that 5 was too much to take from it. The word is taken with its whole serial, of which the leaf
-- has the last 32 bits: in a round these are all
pub record Tells (request : Request) (key : ℕ) (told : Told) (old new : Knowledge) : Type 0 where
  pub found : ℕ
  pub comes_to : (told.outcome ≡ outcome_from request found) ⊎ IsLost request key found told.outcome new
  pub not_before : serial_of (last_cut old.history) key ≤ serial_in_word found
  pub not_after : serial_in_word found ≤ serial_of (last_cut new.history) key
  pub was : WeighsWith key (serial_in_word found) (weight_in_word found) new.history
  pub stored : new.accepted ≡ old.accepted ++ changes_by request key found told.outcome
  pub before : told.before ≡ weight_told found
  pub now : told.now ≡ weight_told (word_left request key found told.outcome)

-- an update by one call: what it comes to, and what it tells
abbrev pub Updates : Request → ℕ → Told → Knowledge → Knowledge → Type 0
Updates request key told old new = ComesTo request key told.outcome old new × Tells request key told old new

-- a snapshot is the last cut of the history as it is known then
pub record TakesSnapshot (old new : Knowledge) (snapshot : Cut) : Type 0 where
  pub goes_on : IsPrefix old.history new.history
  pub same_changes : new.accepted ≡ old.accepted
  pub is_last : snapshot ≡ last_cut new.history
