-- What the fields of a table, of a lead and of a pass keep.
use Rattle.std.specs.Prelude.{◌≡◌, ◌≢◌, ◌⊎◌, ℕ, ◌+◌, ◌-◌, ◌*◌, ◌^◌, ◌<◌, ◌≤◌, true, Some, None, List, [], length, slice_index}
use Rattle.atomic_table.specs.Seated.{TableId}
use Rattle.aug_core.specs.Places.{Shape, lane_place, record_start, word_count}
use Rattle.aug_core.specs.Layout.{IsLayout}
use Rattle.aug_core.specs.Book.{At}
use Rattle.aug_core.specs.Effects.{Sat, HoldsOnly, KnowsBook}
use Rattle.aug_core.specs.Readers.{times_in}
use Rattle.aug_core.specs.Records.{Lists}
use Rattle.aug_core.specs.declared.opening.TableKey.{TableKey}
use Rattle.aug_core.specs.declared.view.Entry.{Entry}
use Rattle.aug_core.specs.declared.view.Held.{Held}
use Rattle.aug_core.specs.declared.view.SeatView.{SeatView}
use Rattle.aug_core.specs.declared.view.LaneState.TheVariants.{Taken}
use Rattle.aug_words.specs.Seats.{NamesRoot}
use Rattle.aug_words.specs.declared.parts.Parts.{Parts}
use Rattle.aug_words.specs.inside.Laying.{Drafts}

-- what a table's fields keep: it was made with this layout, of which one part or more has room there, and in each part lanes and records begin at these words
pub record IsStore (table : TableId) (made : TableKey) (layout : Shape) (lanes records : ℕ) : Type 0 where
  pub laid_out : IsLayout layout
  pub one_shape : made.opening.shape ≡ layout
  pub wide : word_count layout ≤ table.words
  pub few : table.words < 2 ^ 60
  pub no_slots : table.slots ≡ 0
  pub lanes_are : lanes ≡ lane_place layout 0
  pub records_are : records ≡ record_start layout 0

-- a seat works in the part of its table that begins at this word, and the parts lie one behind the other
pub record IsPlaced (table : TableId) (base : ℕ) (v : SeatView) : Type 0 where
  pub base_is : base ≡ v.base
  pub wide : v.base + word_count v.shape ≤ table.words
  pub few : table.words < 2 ^ 60
  pub part : ℕ
  pub starts : v.base ≡ part * word_count v.shape

-- a seat sits at its table, in whose part lanes and records begin at these words
pub record SitsAt (seat_table table : TableId) (base lanes records : ℕ) (v : SeatView) : Type 0 where
  pub seated : seat_table ≡ table
  pub placed : IsPlaced table base v
  pub lanes_are : lanes ≡ v.base + lane_place v.shape 0
  pub records_are : records ≡ v.base + record_start v.shape 0

-- the leaf has reached the serial
pub record HasReached (v : SeatView) (key serial : ℕ) : Type 0 where
  pub entry : Entry
  pub at : At v.seen key serial entry

-- what holds for the seat of a note: no other took it in, and it holds no lane and hands none out
pub record IsNoteSeat (me : Sat) : Type 0 where
  pub live : me.0.live ≡ true
  pub no_slot : me.1 ≡ []
  pub no_lane : me.0.held ≡ []
  pub follows : me.0.spare ≡ None

-- so many readers are counted: as many as there are, or the greatest number that a count has, of that many and more
abbrev pub IsCount : ℕ → ℕ → Type 0
IsCount counted many = (counted ≡ many) ⊎ ((counted ≡ 2 ^ 32 - 1) × (2 ^ 32 - 1 ≤ many))

-- a pass counts the readers for which it answers, all of which read in the part that begins at this word
pub record LendsHere (counted base : ℕ) (lent : List ℕ) : Type 0 where
  pub count : IsCount counted (length lent)
  pub few : counted ≤ 2 ^ 32 - 1
  pub here : (b : ℕ) → Lists lent b → b ≡ base

-- a lead counts the readers for which it answers in each part of its table, where `base` begins the one at work, and `other` the one that is laid out next
pub record ArePartsOf (table : TableId) (parts : Parts) (base other : ℕ) (s : Shape) (lent : List ℕ) : Type 0 where
  pub whole : table.words ≡ length parts.out.items * word_count s
  pub own : parts.own < length parts.out.items
  pub at_work : base ≡ parts.own * word_count s
  pub next : 2 ^ s.bits ≤ s.members → (parts.next < length parts.out.items) × (parts.next ≢ parts.own) × (other ≡ parts.next * word_count s)
  pub counted : (k : ℕ) → k < length parts.out.items → IsCount (slice_index parts.out.items k) (times_in (k * word_count s) lent)
  pub starts : (b : ℕ) → Lists lent b → (k : ℕ) × (k < length parts.out.items) × (b ≡ k * word_count s)

module _ (face : ℕ → ℕ → List (ℕ × ℕ) → List ℕ) where
  -- what holds for the seat of a pass: it has one lane, which is taken, hands none out, and knows its table
  pub record IsPassSeat (lane lent : ℕ) (me : Sat) : Type 0 where
    pub live : me.0.live ≡ true
    pub no_slot : me.1 ≡ []
    pub held : Held
    pub only : HoldsOnly me.0 held
    pub named : held.lane ≡ lane
    pub taken : held.state ≡ Taken
    pub exists : lane < me.0.shape.workers
    pub knows : KnowsBook face me.0
    pub follows : me.0.spare ≡ None
    pub lends : LendsHere lent me.0.base me.0.lent

  -- a pass's seat sits at its table, and has its lane
  pub record HasPassSeat (seat_table table : TableId) (base lanes records lane lent : ℕ) (me : Sat) : Type 0 where
    pub sits : SitsAt seat_table table base lanes records me.0
    pub seat : IsPassSeat lane lent me

  -- that of a pass without its table has its place and its lane
  pub record HasHalfSeat (table : TableId) (base lane lent : ℕ) (me : Sat) : Type 0 where
    pub placed : IsPlaced table base me.0
    pub seat : IsPassSeat lane lent me

  -- what holds for the seat of a reader: it has its place in its table, which it knows, reads, holds no lane and hands none out
  pub record IsReaderSeat (table : TableId) (base : ℕ) (me : Sat) : Type 0 where
    pub placed : IsPlaced table base me.0
    pub live : me.0.live ≡ true
    pub no_slot : me.1 ≡ []
    pub reads : me.0.reads ≡ true
    pub no_lane : me.0.held ≡ []
    pub follows : me.0.spare ≡ None
    pub keeps_records : me.0.shape.reservations ≡ 0
    pub knows : KnowsBook face me.0

  -- what holds for the seat of a lead: it hands out the lanes from the next one on, knows its table, and has the number of the root's newest record
  pub record IsLeadSeat (next root : ℕ) (me : Sat) : Type 0 where
    pub live : me.0.live ≡ true
    pub no_slot : me.1 ≡ []
    pub hands_out : me.0.spare ≡ Some next
    pub knows : KnowsBook face me.0
    pub names_root : NamesRoot me.0 root

  -- what holds for a lead: it works in a part of its table, has all words beside that, has noted what is laid out of the part that begins at `other`, and
  -- counts the readers of each
  abbrev pub IsLead : TableId → ℕ → ℕ → ℕ → ℕ → List ℕ → Parts → Sat → Type 0
  IsLead table base next root other shown parts me = IsPlaced table base me.0 × IsLeadSeat next root me × (length me.0.whole ≡ table.words) × Drafts face table other shown me.0 × ArePartsOf table parts base other me.0.shape me.0.lent
