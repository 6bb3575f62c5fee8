-- What it does to what is known that a note is taken in. It loads the root too. If a pass of the example put 0 in and made a note, a pass that takes
-- the note in has seen the entries 0 and 1 of leaf 0. If the table was renewed in between, it knows that leaf 0 of the era before had both.
use Rattle.std.specs.Prelude.{◌≡◌, ℕ, List}
use Rattle.aug_core.specs.Addresses.{root_place}
use Rattle.aug_core.specs.Book.{GoesOnFromBoth}
use Rattle.aug_core.specs.Effects.{LoadsNode, noted}
use Rattle.aug_core.specs.Pasts.{IsLearnt, learnt_of}
use Rattle.aug_core.specs.Learning.{learning}
use Rattle.aug_core.specs.declared.view.SeatView.{SeatView}
use Rattle.aug_words.specs.Seats.{Known}

-- a note says what a seat has seen, which stays as it is
pub record MakesNote (old new made : Known) : Type 0 where
  pub same : new ≡ old
  pub table : made.table ≡ old.table
  pub note : made.view ≡ noted old.view

module _ (face : ℕ → ℕ → List (ℕ × ℕ) → List ℕ) where
  -- the view takes in a note, and loads the root. What the note tells of the eras before is so; and where it is of the view's era, the view then knows
  -- more than it and the note knew
  pub record LearnsNote (v note : SeatView) (found : ℕ) (after : SeatView) : Type 0 where
    pub loaded : LoadsNode face (learning v note) (root_place v.shape) found after
    pub told : IsLearnt v.shape v.era v.past v.members (learnt_of note)
    pub of_both : note.era ≡ v.era → GoesOnFromBoth v.seen note.seen after.seen
