-- What contracts see of a table, of a lead and of a pass, and what a call of a pass asks. A pass is a table and a view, and each call's clause is a
-- definition of `Effects` over that view: in the example `load_leaf` asks for a key below 4, and its clause is `LoadsLeaf`.
use Rattle.std.specs.Prelude.{◌≡◌, ℕ, ◌+◌, ◌<◌, ◌⊎◌, ◌↔◌, Bool, IsTrue, List, Some}
use Rattle.atomic_table.specs.Seated.{TableId}
use Rattle.aug_core.specs.Places.{Shape, record_start, record_count}
use Rattle.aug_core.specs.Addresses.{root_place}
use Rattle.aug_core.specs.Book.{IsNewest, word_of_node}
use Rattle.aug_core.specs.Kinds.{load_record_word}
use Rattle.aug_core.specs.Effects.{stepping, GuardsRecord, MayStore, Says, SaysOwn, IsAdvance, KnowsSerial, old_word, new_word, TriesLeaf, IsFilled, TriesNode}
use Rattle.aug_core.specs.declared.view.Advance.{Advance}
use Rattle.aug_core.specs.declared.view.Entry.{Entry}
use Rattle.aug_core.specs.declared.view.SeatView.{SeatView}

-- a table, and how it is laid out. It is the same in each of its eras
pub record Store : Type 0 where
  pub table : TableId
  pub shape : Shape

-- a seat: its table, and what it knows of it
pub record Known : Type 0 where
  pub table : TableId
  pub view : SeatView

-- the seat is one of the table's
pub record AreTogether (store : Store) (known : Known) : Type 0 where
  pub one_table : known.table ≡ store.table
  pub one_shape : known.view.shape ≡ store.shape

-- the seat stays at its table, and this is what becomes of its view
pub record StaysAt (old new : Known) (told : Type 0) : Type 0 where
  pub table : new.table ≡ old.table
  pub view : told

-- the pass is one of the lead's: it sits at the same table
pub record IsOfLead (lead pass : Known) : Type 0 where
  pub one_table : pass.table ≡ lead.table
  pub one_shape : pass.view.shape ≡ lead.view.shape

-- the view hands lanes out, and this is the next one
pub record IsNextLane (v : SeatView) (lane : ℕ) : Type 0 where
  pub next : v.spare ≡ Some lane
  pub exists : lane < v.shape.workers

-- the record is one that the view guards, or its own
abbrev pub MayLoad : SeatView → ℕ → Type 0
MayLoad v number = GuardsRecord v number ⊎ MayStore v number

-- a word of a record was loaded
pub record LoadsRecordWord (v : SeatView) (number field r : ℕ) (w : SeatView) : Type 0 where
  pub stepped : w ≡ stepping v (load_record_word (record_start v.shape number + field) r)
  pub known : Says v number field r
  pub own : SaysOwn v number field r

-- an exchange of the leaf's word for another is one of those that there are, and the leaf is known to have had the first
pub record MayAdvance (v : SeatView) (key old new : ℕ) : Type 0 where
  pub advance : Advance
  pub is_advance : IsAdvance advance
  pub from : old ≡ old_word advance
  pub to : new ≡ new_word advance
  pub known : KnowsSerial v key advance

-- the word names the newest record of the root that the view has seen
pub record NamesRoot (v : SeatView) (number : ℕ) : Type 0 where
  pub index : ℕ
  pub entry : Entry
  pub newest : IsNewest v.seen (root_place v.shape) index entry
  pub named : number ≡ entry.word

module _ (face : ℕ → ℕ → List (ℕ × ℕ) → List ℕ) where
  -- the answer says whether the leaf's word was the old one
  pub record TriedLeaf (v : SeatView) (key old new : ℕ) (done : Bool) (w : SeatView) : Type 0 where
    pub found : ℕ
    pub decided : IsTrue done ↔ (found ≡ old)
    pub told : (a : Advance) → IsAdvance a → KnowsSerial v key a → old ≡ old_word a → new ≡ new_word a → TriesLeaf face v key a found w

  -- the word names a record of the view's own, which was filled from what was loaded of the node and of its children
  pub record NamesOwn (v : SeatView) (q old new : ℕ) : Type 0 where
    pub birth : ℕ
    pub number : ℕ
    pub named : new ≡ word_of_node v.shape birth number
    pub own : MayStore v number
    pub filled : IsFilled face v q old birth number

  -- the answer says whether the node's word was the old one
  pub record TriedNode (v : SeatView) (q old new : ℕ) (done : Bool) (w : SeatView) : Type 0 where
    pub found : ℕ
    pub decided : IsTrue done ↔ (found ≡ old)
    pub told : (birth number : ℕ) → number < record_count v.shape → new ≡ word_of_node v.shape birth number → TriesNode face v q old number new found w
