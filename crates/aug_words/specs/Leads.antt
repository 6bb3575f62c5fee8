-- What it does to what is known that a lane is handed out, and that it is taken back. Both load the root. And when the next era can begin: in the example, once
-- nobody reads in the table's other part.
use Rattle.std.specs.Prelude.{◌≡◌, ℕ, ◌⊎◌, ◌+◌, ◌-◌, ◌*◌, ◌^◌, ◌≤◌, List, Result, IfErr, IfOk}
use Rattle.aug_core.specs.Places.{word_count}
use Rattle.aug_core.specs.Readers.{IsAside, taking_reader, times_in}
use Rattle.aug_core.specs.Records.{Lists}
use Rattle.aug_core.specs.Addresses.{root_place}
use Rattle.aug_core.specs.Book.{GoesOnFromBoth}
use Rattle.aug_core.specs.Prefixes.{IsPrefix}
use Rattle.aug_core.specs.Effects.{LoadsNode, handing_out, handed_out, taking, finishing, taking_back, own_lane_place}
use Rattle.aug_core.specs.declared.view.SeatView.{SeatView}
use Rattle.aug_words.specs.Seats.{Known}

-- there is a part of the table aside of the one at work, in which nobody reads for whom the lead answers
pub record MayOpen (lead : Known) : Type 0 where
  pub part : ℕ
  pub inside : part * word_count lead.view.shape + word_count lead.view.shape ≤ lead.table.words
  pub aside : IsAside (word_count lead.view.shape) lead.view.base (part * word_count lead.view.shape)
  pub free : (b : ℕ) → Lists lead.view.lent b → IsAside (word_count lead.view.shape) (part * word_count lead.view.shape) b

-- the view answers for no reader where this one reads, or for more than are counted
abbrev pub IsNotTaken : SeatView → SeatView → Type 0
IsNotTaken v reader = (Lists v.lent reader.base → ⊥) ⊎ (2 ^ 32 - 1 ≤ times_in reader.base v.lent)

-- a reader of the table is taken back, or comes back because it is not to be taken
pub record TakesReader (old new reader : Known) (result : Result (Unit {0}) Known) : Type 0 where
  pub table : new.table ≡ old.table
  pub taken : IfOk result (λ _. new.view ≡ taking_reader old.view reader.view)
  pub same : IfErr result (λ r. (r ≡ reader) × (new ≡ old))
  pub refused : IfErr result (λ _. IsNotTaken old.view reader.view)

module _ (face : ℕ → ℕ → List (ℕ × ℕ) → List ℕ) where
  -- the lead loads the root; a view with the next lane is split off, which knows what the lead then knows; and takes that lane
  pub record HandsLaneOut (lead after pass : SeatView) : Type 0 where
    pub found : ℕ
    pub between : SeatView
    pub loaded : LoadsNode face lead (root_place lead.shape) found between
    pub lead_is : after ≡ handing_out between
    pub pass_is : pass ≡ taking (handed_out between) (own_lane_place (handed_out between))

  -- the lead loads the root, and then words of records that it has seen. It stores words of the part in which the next era begins
  pub record Prepares (lead after : SeatView) : Type 0 where
    pub found : ℕ
    pub between : SeatView
    pub loaded : LoadsNode face lead (root_place lead.shape) found between
    pub lead_is : after ≡ record between { whole = after.whole; steps = after.steps }
    pub steps : IsPrefix between.steps after.steps

  -- the pass ends its lane; the lead takes it in, with all that it knew; and loads the root, by which it knows more than both knew
  pub record TakesLaneBack (lead pass after : SeatView) : Type 0 where
    pub found : ℕ
    pub loaded : LoadsNode face (taking_back lead (finishing pass (own_lane_place pass))) (root_place lead.shape) found after
    pub of_both : GoesOnFromBoth lead.seen pass.seen after.seen
