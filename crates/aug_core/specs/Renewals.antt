-- What the steps show by which a table is renewed, and what the view is after them. A lead stores and loads any words beside the part at work (`rewrote`,
-- `reread`). If it holds all lanes which it handed out (`HoldsAll`), and the words of another part are those of an opening (`IsOpened`), a load opens the
-- table there, over the members of that opening, and shows the era's last book (`reopened`). A survey shows what a table comes to that stays at work.
use Rattle.std.specs.Prelude.{◌≡◌, ◌⊎◌, ℕ, ◌^◌, ◌+◌, ◌<◌, ◌≤◌, true, false, List, [], ◌∷◌, ◌++◌, length, slice_index, slice_set, All, Some, None}
use mathlib.Core.Option.{some}
use lib.ListN.{get_elem?}
use Rattle.atomic_table.specs.Table.{State, Step}
use Rattle.aug_model.specs.Keys.{IsKeySet, keys_of}
use Rattle.aug_monoid.specs.Weighted.{FitsPair}
use Rattle.aug_core.specs.Places.{lane_place, record_start, record_count, word_count, record_words}
use Rattle.aug_core.specs.Addresses.{place_count, IsInner, root_place}
use Rattle.aug_core.specs.Lanes.{word_of_state}
use Rattle.aug_core.specs.Opening.{Opening, IsIdle, opening_number, opening_words, shared_words, opening_book}
use Rattle.aug_core.specs.Rule.{Kept, no_beginning}
use Rattle.aug_core.specs.Effects.{Sat, opening_of, LoadsNode}
use Rattle.aug_core.specs.Eras.{opening_with, table_part, IsBeside}
use Rattle.aug_core.specs.declared.view.LaneState.TheVariants.{Free}
use Rattle.aug_core.specs.declared.view.SeatView.{SeatView}

-- the view holds as many lanes as it handed out
pub record HoldsAll (v : SeatView) : Type 0 where
  pub next : ℕ
  pub hands_out : v.spare ≡ Some next
  pub all : length v.held ≡ next

-- what the view of a lead is whose era is over, and whose table has these words. That era has the book that the view saw last
abbrev pub renewing : SeatView → List ℕ → SeatView
renewing v whole = record v {
  era = v.era + 1;
  past = v.past ++ record { members = v.members; book = v.seen } ∷ [];
  seen = [];
  also = [];
  told = None;
  held = [];
  spare = None;
  reads = false;
  whole = whole;
  reserved = [];
  reached = 0;
  began = no_beginning;
  steps = [];
}

-- the view after a store of any word
abbrev pub rewriting : SeatView → ℕ → ℕ → SeatView
rewriting v place value = record v { whole = slice_set v.whole place value }

abbrev pub rewrote : Step (Unit {0}) → Sat → ℕ → Sat → Type 0
rewrote st m r m' = (m'.1 ≡ []) × (m'.0 ≡ rewriting m.0 st.word st.first)

-- a load of any word, which is as the view has it
abbrev pub reread : Step (Unit {0}) → Sat → ℕ → Sat → Type 0
reread st m r m' = (m'.1 ≡ []) × (m'.0 ≡ m.0) × (r ≡ slice_index m.0.whole st.word)

module _ (face : ℕ → ℕ → List (ℕ × ℕ) → List ℕ) where
  -- a table of these words met the rule of this opening, with this view
  pub record EndWith (o : Opening) (v : SeatView) (words : List ℕ) : Type 0 where
    pub state : State (Unit {0}) SeatView
    pub kept : Kept face o state
    pub words_are : state.words ≡ words
    pub seat : ℕ
    pub view_is : get_elem? state.views seat ≡ some v

  -- a load of a node's word by a seat that stays at work shows it the book, and the table met the rule then, with its view and these words. If the seat
  -- is a lead that holds all lanes which it handed out, this is the last book of the round, and its account can be closed while its table is still there
  pub record Surveys (v : SeatView) (q r : ℕ) (w : SeatView) : Type 0 where
    pub loaded : LoadsNode face v q r w
    pub words : List ℕ
    pub wide : length words ≡ word_count v.shape
    pub ends : EndWith (opening_of w) w words

  abbrev pub surveyed : Step (Unit {0}) → Sat → ℕ → Sat → Type 0
  surveyed st m r m' = (m'.1 ≡ []) × (IsInner m.0.shape st.word → Surveys m.0 st.word r m'.0)

  -- the words are those of a table that opens so, whatever the records of its lanes hold
  pub record IsOpened (o : Opening) (words : List ℕ) : Type 0 where
    pub key_set : IsKeySet o.shape.bits (keys_of o.members)
    pub members_fit : All FitsPair o.members
    pub few : length (keys_of o.members) ≤ o.shape.members
    -- where records are used again, each node has one of its own
    pub room : (o.shape.reservations ≡ 0) ⊎ (2 ^ o.shape.bits ≤ o.shape.members)
    pub numbers : 0 < o.shape.reservations → record_count o.shape ≤ 2 ^ 24
    pub wide : length words ≡ word_count o.shape
    pub named : (q : ℕ) → q < place_count o.shape → slice_index words q ≡ opening_number o q
    pub records : (q k : ℕ) → IsInner o.shape q → k < record_words → slice_index words (record_start o.shape (opening_number o q) + k) ≡ slice_index (opening_words face o q) k
    pub shared : (level k : ℕ) → level < o.shape.bits → k < record_words → slice_index words (record_start o.shape level + k) ≡ slice_index (shared_words face level) k
    pub idle : (number k : ℕ) → IsIdle o number → k < record_words → slice_index words (record_start o.shape number + k) ≡ 0
    pub lanes : (lane : ℕ) → lane < o.shape.workers → slice_index words (lane_place o.shape lane) ≡ word_of_state Free

  -- the view of the seat that opened its table again, over these members, in the part that begins at this word
  abbrev pub reopening : List (ℕ × ℕ) → ℕ → SeatView → SeatView
  reopening members base v = record {
    live = true;
    era = v.era;
    past = v.past;
    shape = v.shape;
    base = base;
    members = members;
    seen = opening_book face (opening_with v.shape members);
    also = [];
    told = None;
    held = [];
    spare = Some 0;
    reads = false;
    lent = v.lent;
    words = table_part base (word_count v.shape) v.whole;
    whole = v.whole;
    reserved = [];
    reached = 0;
    began = no_beginning;
    steps = [];
  }

  -- the era is over, with the last book, as a load of the root would show it; the words of the part at work are the ones with which it ended, and those
  -- beside it are as the seat knew them; and the table is open over these members, in the part that begins at this word
  pub record Reopens (members : List (ℕ × ℕ)) (base : ℕ) (v w : SeatView) : Type 0 where
    pub root : ℕ
    pub last : SeatView
    pub loaded : LoadsNode face v (root_place v.shape) root last
    pub whole : List ℕ
    pub beside : IsBeside v.base (word_count v.shape) v.whole whole
    pub ends : EndWith (opening_of v) last (table_part v.base (word_count v.shape) whole)
    pub stepped : w ≡ reopening members base (renewing last whole)

  abbrev pub reopened : Step (Unit {0}) → Sat → ℕ → Sat → Type 0
  reopened st m r m' = (m'.1 ≡ []) × ((members : List (ℕ × ℕ)) → IsOpened (opening_with m.0.shape members) (table_part st.word (word_count m.0.shape) m.0.whole) → Reopens members st.word m.0 m'.0)
