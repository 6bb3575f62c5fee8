-- The records of a lane as its pass keeps them, in a table that uses records again: first those that it may write, then those that it replaced since it last
-- retired any, and then those that wait until no reservation holds them. In a table of 1 bit and two lanes with the records of three updates each, lane 1
-- opens with the records 5, 6 and 7, all of which it may write. Once it published 7 in place of the root's record 1, it may write 5 and 6, and the third is 1.
use Rattle.std.specs.Prelude.{◌≡◌, ◌≢◌, ◌⊎◌, ℕ, suc, zero, ◌+◌, ◌-◌, ◌*◌, ◌/◌, ◌%◌, ◌^◌, ◌<◌, ◌≤◌, max, min, true, false, List, [], ◌∷◌, ◌++◌, length, slice_index, All}
use Rattle.aug_core.specs.Places.{Shape, record_count, record_words, era_place, reservation_place}
use Rattle.aug_core.specs.Addresses.{IsInner, left_of, right_of}
use Rattle.aug_core.specs.Book.{history_of, At, ArePrefixes, IsFresh, IsNewest, IsBook, IsLoaded}
use Rattle.aug_core.specs.Lanes.{first_record, lane_records}
use Rattle.aug_core.specs.Kinds.{load_node, load_era, load_reservation}
use Rattle.aug_core.specs.Records.{Lists, IsClosed, floor_of}
use Rattle.aug_core.specs.Effects.{HoldsOnly, MayStore, Covers, own_lane}
use Rattle.aug_core.specs.Reclaiming.{but_slot, holds_in}
use Rattle.aug_core.specs.declared.step.StepKind.TheVariants.{TryLeaf}
use Rattle.aug_core.specs.declared.step.StepTaken.{StepTaken}
use Rattle.aug_core.specs.declared.view.Entry.{Entry}
use Rattle.aug_core.specs.declared.view.Held.{Held}
use Rattle.aug_core.specs.declared.view.Owned.{Owned}
use Rattle.aug_core.specs.declared.view.Replaced.{Replaced}
use Rattle.aug_core.specs.declared.view.Reserved.{Reserved}
use Rattle.aug_core.specs.declared.view.SeatView.{SeatView}
use Rattle.aug_words.specs.Reservations.{LoadsEra}

-- the word that names a record where records are used again, by its birth and its number; and these two by the word
abbrev pub naming : ℕ → ℕ → ℕ
naming birth number = birth * 2 ^ 24 + number

abbrev pub number_in_word : ℕ → ℕ
number_in_word word = word % 2 ^ 24

abbrev pub birth_in_word : ℕ → ℕ
birth_in_word word = word / 2 ^ 24

-- a stock: the words that name its records, for each that waits the era in which it was retired, how many it may write, how many were replaced and not
-- retired yet, and what is reserved, or 0
pub record StockFacts : Type 0 where
  pub words : List ℕ
  pub deaths : List ℕ
  pub free : ℕ
  pub replaced : ℕ
  pub era : ℕ

-- a lane is as it was handed out, and nothing is reserved
pub record OpensStock (v : SeatView) : Type 0 where
  pub lane : Held
  pub only : HoldsOnly v lane
  pub owns : (k : ℕ) → k < lane_records v.shape → MayStore v (first_record v.shape lane.lane + k)
  pub replaced : lane.replaced ≡ []
  pub none : v.reserved ≡ []

-- the record was replaced from the lane, which does not own it yet
pub record HasReplaced (s : Shape) (h : Held) (word : ℕ) : Type 0 where
  pub entry : Replaced
  pub listed : Lists h.replaced entry
  pub named : word ≡ naming entry.birth entry.number
  pub exists : entry.number < record_count s

-- the lane owns the record, which was retired in this era
pub record HasWaiting (s : Shape) (h : Held) (word death : ℕ) : Type 0 where
  pub own : Owned
  pub listed : Lists h.owned own
  pub named : word ≡ naming own.life.birth own.number
  pub died : death ≡ own.life.death
  pub exists : own.number < record_count s
  pub long : length own.words ≡ record_words
  pub scanned : own.life.scanned ≤ s.reservations

-- what the reservation with this place among all holds, or 0
pub record ReservesAt (reserved : List Reserved) (slot era : ℕ) : Type 0 where
  pub held : 0 < era → (x : Reserved) × Lists reserved x × (x.slot ≡ slot) × (x.era ≡ era)
  pub one : (x : Reserved) → Lists reserved x → x.slot ≡ slot → (x.era ≡ era) × (0 < era)

-- the stock is that of the view's lane
pub record Stocks (v : SeatView) (k : StockFacts) : Type 0 where
  pub lane : Held
  pub only : HoldsOnly v lane
  pub used : 0 < v.shape.reservations
  pub numbers : record_count v.shape ≤ 2 ^ 24
  pub era : ReservesAt v.reserved lane.lane k.era
  -- each of its records is one of the lane's
  pub free : (i : ℕ) → i < k.free → MayStore v (number_in_word (slice_index k.words i))
  pub replaced : (i : ℕ) → k.free ≤ i → i < k.free + k.replaced → HasReplaced v.shape lane (slice_index k.words i)
  pub waits : (i : ℕ) → k.free + k.replaced ≤ i → i < length k.words → HasWaiting v.shape lane (slice_index k.words i) (slice_index k.deaths i)
  -- all that were replaced are there
  pub counted : length lane.replaced ≡ k.replaced
  -- and each is there once
  pub once : (i j : ℕ) → i < length k.words → j < length k.words → number_in_word (slice_index k.words i) ≡ number_in_word (slice_index k.words j) → i ≡ j

-- the steps that load the first reservations
abbrev pub scan_steps : Shape → (ℕ → ℕ) → ℕ → List StepTaken
scan_steps s eras zero = []
scan_steps s eras (suc n) = scan_steps s eras n ++ load_reservation (reservation_place s n) (eras n) ∷ []

-- a record that was made and retired in these eras is held by a reservation of this one
abbrev pub IsHeld : ℕ → ℕ → ℕ → Type 0
IsHeld era birth death = holds_in era (record { birth = birth; death = death; scanned = 0 }) ≡ true

-- all reservations were loaded. What still waits is held by one that was found
pub record Scans (v : SeatView) (k : StockFacts) (w : SeatView) (after : StockFacts) : Type 0 where
  pub eras : ℕ → ℕ
  pub steps : w.steps ≡ v.steps ++ scan_steps v.shape eras v.shape.reservations
  pub same : w ≡ record v { held = w.held; steps = w.steps }
  -- the lane has the same changes, and what it replaced is the same
  pub lane : (h : Held) → HoldsOnly v h → (h' : Held) × HoldsOnly w h' × (h'.lane ≡ h.lane) × (h'.changes ≡ h.changes) × (h'.replaced ≡ h.replaced)
  pub frees : k.free ≤ after.free
  pub keeps : (length after.words ≡ length k.words) × (after.replaced ≡ k.replaced) × (after.era ≡ k.era)
  pub held : (i : ℕ) → after.free ≤ i → i < length after.words → (slot : ℕ) × (slot < v.shape.reservations) × IsHeld (eras slot) (birth_in_word (slice_index after.words i)) (slice_index after.deaths i)

-- a reservation of the era that was found: no era is before 1, to which the first who finds 0 moves it on
abbrev pub that_era : ℕ → ℕ
that_era found = max found 1

-- and of that era, or the last for which there is room in a word, and all later ones
abbrev pub later_eras : ℕ → ℕ
later_eras found = 2 ^ 63 + min found (2 ^ 40 - 1)

-- the view loaded the era and reserved what this makes of it, by at most so many steps
pub record ReservesAnew (word : ℕ → ℕ) (most : ℕ) (v w : SeatView) (era : ℕ) : Type 0 where
  pub now : Reserved
  pub same : w ≡ record v { reserved = now ∷ but_slot (own_lane v.held) v.reserved; reached = w.reached; steps = w.steps }
  pub found : ℕ
  pub more : List StepTaken
  pub steps : w.steps ≡ v.steps ++ load_era (era_place v.shape) found ∷ more
  pub few : length more + 1 ≤ most
  pub no_try : All (λ taken. taken.kind ≢ TryLeaf) more
  pub era_found : era ≡ word found
  pub slot : now.slot ≡ own_lane v.held
  pub era_is : now.era ≡ era
  pub closed : IsClosed v.shape v.seen (floor_of now)

-- the era that was found is too great for the word that names a record, and nothing more was done
pub record IsLate (v w : SeatView) : Type 0 where
  pub found : ℕ
  pub loaded : LoadsEra v found w
  pub late : 2 ^ 40 ≤ found

-- the reservation holds the entry i of a node
abbrev pub CoversBy : Reserved → ℕ → ℕ → Entry → Type 0
CoversBy x q i e = (e.birth ≤ x.era) × (floor_of x q ≤ i)

-- the view made at most so many steps, none of which tried a leaf. It has seen more, and what it reserved may be another; nothing else in it changed
pub record GoesBy (most : ℕ) (v w : SeatView) : Type 0 where
  pub same : w ≡ record v { seen = w.seen; reserved = w.reserved; reached = w.reached; steps = w.steps }
  pub later : ArePrefixes v.seen w.seen
  pub fresh : IsFresh v.shape w.seen v.seen
  pub more : List StepTaken
  pub steps : w.steps ≡ v.steps ++ more
  pub few : length more ≤ most
  pub no_try : All (λ taken. taken.kind ≢ TryLeaf) more

-- the view has seen a node's record that was born later than this
pub record HasSeenLater (v : SeatView) (q era : ℕ) : Type 0 where
  pub inner : IsInner v.shape q
  pub index : ℕ
  pub entry : Entry
  pub at : At v.seen q index entry
  pub later : era < entry.birth

-- it has seen one of a node or of one of its children
abbrev pub HasSeenLaterOver : SeatView → ℕ → ℕ → Type 0
HasSeenLaterOver v q era = HasSeenLater v q era ⊎ (HasSeenLater v (left_of v.shape q) era ⊎ HasSeenLater v (right_of v.shape q) era)

-- this entry of a place is no older than the newest one that the view has seen
abbrev pub IsNoOlder : SeatView → ℕ → ℕ → Type 0
IsNoOlder v q i = length (history_of v.seen q) ≤ i + 1

module _ (face : ℕ → ℕ → List (ℕ × ℕ) → List ℕ) where
  -- the words of a node and of its two children were loaded, the node's first
  pub record LoadsThree (s : Shape) (v : SeatView) (q : ℕ) (r : ℕ × ℕ × ℕ) (w : SeatView) : Type 0 where
    pub book : IsBook face s w.seen
    pub is_loaded : IsLoaded s w.seen q r.0
    pub left_named : r.1 ≡ is_loaded.left.word
    pub right_named : r.2 ≡ is_loaded.right.word
    pub no_older : IsNoOlder v q is_loaded.index
    pub left_no_older : IsNoOlder v (left_of s q) is_loaded.left_index
    pub right_no_older : IsNoOlder v (right_of s q) is_loaded.right_index

  -- and the reservation of this era holds the records that they name
  pub record HoldsThree (s : Shape) (era : ℕ) (v : SeatView) (q : ℕ) (r : ℕ × ℕ × ℕ) (w : SeatView) : Type 0 where
    pub loads : LoadsThree s v q r w
    pub by : Reserved
    pub listed : Lists w.reserved by
    pub era_is : by.era ≡ era
    pub covers : CoversBy by q loads.is_loaded.index loads.is_loaded.from
    pub left_covers : IsInner s (left_of s q) → CoversBy by (left_of s q) loads.is_loaded.left_index loads.is_loaded.left
    pub right_covers : IsInner s (right_of s q) → CoversBy by (right_of s q) loads.is_loaded.right_index loads.is_loaded.right

  -- within so many steps
  pub record LoadsOver (most era : ℕ) (v : SeatView) (q : ℕ) (r : ℕ × ℕ × ℕ) (w : SeatView) : Type 0 where
    pub goes : GoesBy most v w
    pub holds : HoldsThree w.shape era v q r w

  -- the word of a node was loaded by the last of at most so many steps, and what is reserved holds the record that it names
  pub record LoadsHeld (most : ℕ) (v : SeatView) (q r : ℕ) (w : SeatView) : Type 0 where
    pub goes : GoesBy most v w
    pub before : List StepTaken
    pub last : w.steps ≡ v.steps ++ (before ++ load_node q r ∷ [])
    pub book : IsBook face w.shape w.seen
    pub index : ℕ
    pub entry : Entry
    pub newest : IsNewest w.seen q index entry
    pub found : r ≡ entry.word
    pub shown : entry.passed ≡ false
    pub covers : Covers w q index entry
    -- from each that it holds it holds those below
    pub closed : (x : Reserved) → Lists w.reserved x → IsClosed w.shape w.seen (floor_of x)
