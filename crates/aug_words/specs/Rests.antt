-- A table at rest: its words, which meet the rule. They meet the rule together with what the lead knows, and the records of each lane that was joined
-- are as its pass left them. Once 0 was put into the example and the pass was joined, the words at 4, 5 and 6 are 5, 3 and 6.
use Rattle.std.specs.Prelude.{◌≡◌, ℕ, ◌+◌, ◌<◌, List, slice_index}
use mathlib.Core.Option.{some}
use lib.ListN.{get_elem?}
use Rattle.aug_core.specs.Places.{Shape, lane_place, record_start, record_words, word_count}
use Rattle.aug_core.specs.Addresses.{IsInner, root_place}
use Rattle.aug_core.specs.Lanes.{word_of_state}
use Rattle.aug_core.specs.Book.{At, IsNewest}
use Rattle.aug_core.specs.Prefixes.{IsPrefix}
use Rattle.aug_core.specs.Opening.{Opening, IsIdle, opening_number, opening_words, shared_words}
use Rattle.aug_core.specs.Effects.{LoadsNode, Owns, opening_of}
use Rattle.aug_core.specs.declared.view.Owned.{Owned}
use Rattle.aug_core.specs.Eras.{table_part}
use Rattle.aug_core.specs.Renewals.{EndWith, renewing, reopening}
use Rattle.aug_core.specs.declared.view.Entry.{Entry}
use Rattle.aug_core.specs.declared.view.Held.{Held}
use Rattle.aug_core.specs.declared.view.SeatView.{SeatView}

-- opaque: the words of a table that no seat steps on any more
pub record AtRest : Type 0 where
  pub shape : Shape
  pub words : List ℕ

module _ (face : ℕ → ℕ → List (ℕ × ℕ) → List ℕ) (o : Opening) (v : SeatView) (words : List ℕ) where
  -- what a reader of the words learns
  pub record ShowAll : Type 0 where
    -- the words of a node's opening record, its own one or the empty one of its level, say what was there below it at the opening
    pub opening_records : (q field : ℕ) → IsInner o.shape q → field < record_words → slice_index words (record_start o.shape (opening_number o q) + field) ≡ slice_index (opening_words face o q) field
    -- so do the words of each level's empty record, even if no node opened with it: it counts nothing
    pub shared_records : (level field : ℕ) → level < o.shape.bits → field < record_words → slice_index words (record_start o.shape level + field) ≡ slice_index (shared_words face level) field
    -- and the words of an own opening record that no node opened with are zeros
    pub idle_records : (number field : ℕ) → IsIdle o number → field < record_words → slice_index words (record_start o.shape number + field) ≡ 0
    -- the words of every record that the view has seen are its entry's
    pub seen_records : (q i field : ℕ) (e : Entry) → IsInner o.shape q → At v.seen q i e → field < record_words → slice_index words (record_start o.shape e.number + field) ≡ slice_index e.words field
    -- a lane of the view is as the view has it
    pub lanes : (a : ℕ) (h : Held) → get_elem? v.held a ≡ some h → slice_index words (lane_place o.shape h.lane) ≡ word_of_state h.state
    -- and so is each word of the records that it owns
    pub records : (number field : ℕ) (x : Owned) → Owns v number x → field < record_words → slice_index words (record_start o.shape number + field) ≡ slice_index x.words field

module _ (face : ℕ → ℕ → List (ℕ × ℕ) → List ℕ) where
  -- a lead that ends an era knows its last book, as a load of the root would show it; and all words
  pub record ComesToRest (v idle : SeatView) : Type 0 where
    pub root : ℕ
    pub last : SeatView
    pub loaded : LoadsNode face v (root_place v.shape) root last
    pub idle_is : idle ≡ renewing last idle.whole
    pub rule : EndWith face (opening_of last) last (table_part v.base (word_count v.shape) idle.whole)

  -- a lead opens its table again in another part, over the members below the newest record of the root that it has seen; before that it loads records
  pub record OpensAgain (v w : SeatView) : Type 0 where
    pub prepared : SeatView
    pub prepared_is : prepared ≡ record v { whole = prepared.whole; steps = prepared.steps }
    pub steps : IsPrefix v.steps prepared.steps
    pub idle : SeatView
    pub rests : ComesToRest prepared idle
    pub index : ℕ
    pub entry : Entry
    pub newest : IsNewest v.seen (root_place v.shape) index entry
    pub base : ℕ
    pub before : SeatView
    pub opened : w ≡ reopening face entry.pairs base before
    pub next : (before.era ≡ idle.era) × (before.past ≡ idle.past) × (before.shape ≡ v.shape)
