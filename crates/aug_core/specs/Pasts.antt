-- The eras of a table that are over, and what is known of them. A view of an earlier era knows a part of that era's last book (`IsEarlier`). What a
-- note tells is of this era and agrees, or of one that is over (`IsLearnt`). In the example, once 0 was put in and the table renewed, a view of era 0
-- that had seen only the opening knows a part of that era's last book, where leaf 0 has two entries.
use Rattle.std.specs.Prelude.{◌≡◌, ℕ, ◌<◌, ◌≤◌, List, ◌∷◌, ◌++◌}
use Rattle.aug_core.specs.Places.{Shape}
use Rattle.aug_core.specs.Book.{Book, ArePrefixes}
use Rattle.aug_core.specs.declared.view.Learnt.{Learnt}
use Rattle.aug_core.specs.declared.view.PastEra.{PastEra}
use Rattle.aug_core.specs.declared.view.SeatView.{SeatView}

-- of these eras one follows upon `past`. It began with these members, and its book ended as one that `seen` is a beginning of
pub record IsEarlier (past : List PastEra) (members : List (ℕ × ℕ)) (seen : Book) (all : List PastEra) : Type 0 where
  pub book : Book
  pub later : List PastEra
  pub goes_on : all ≡ past ++ record { members = members; book = book } ∷ later
  pub saw : ArePrefixes seen book

-- what a note tells is so for who knows the eras before a table's present one: it is of this era, and agrees, or of one that is over
pub record IsLearnt (shape : Shape) (era : ℕ) (past : List PastEra) (members : List (ℕ × ℕ)) (note : Learnt) : Type 0 where
  pub one_shape : note.shape ≡ shape
  pub not_later : note.era ≤ era
  pub agrees : note.era ≡ era → (note.past ≡ past) × (note.members ≡ members)
  pub earlier : note.era < era → IsEarlier note.past note.members note.seen past

-- what a view's note tells
abbrev pub learnt_of : SeatView → Learnt
learnt_of v = record { era = v.era; shape = v.shape; past = v.past; members = v.members; seen = v.seen }
