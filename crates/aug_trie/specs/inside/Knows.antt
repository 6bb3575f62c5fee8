-- What a view knows of a round: the cuts that the root's entries show, and the changes of the view's lanes.
use Rattle.std.specs.Prelude.{ℕ, List, length, map}
use Rattle.std.specs.List.{range_with_len}
use Rattle.aug_core.specs.Places.{Shape}
use Rattle.aug_core.specs.Addresses.{root_place}
use Rattle.aug_core.specs.Book.{Book, history_of}
use Rattle.aug_core.specs.Counts.{changes_of}
use Rattle.aug_core.specs.Cuts.{Cut}
use Rattle.aug_core.specs.inside.RootCuts.{root_cut}
use Rattle.aug_core.specs.declared.view.SeatView.{SeatView}
use Rattle.aug_trie.specs.Knowledge.{Knowledge, IsKnowledge}

-- the cuts of all entries of the root
abbrev pub root_history : Shape → Book → List Cut
root_history s book = map (root_cut s book) (range_with_len 0 (length (history_of book (root_place s))))

-- what names the root's records, one for each of these cuts: in a round their numbers
abbrev pub root_numbers : Shape → Book → List ℕ
root_numbers s book = map (λ entry. entry.word) (history_of book (root_place s))

-- what a view knows
abbrev pub knows : SeatView → Knowledge
knows v = record { history = root_history v.shape v.seen; accepted = changes_of v.held }

-- it is knowledge of the round that the view's table was opened for
abbrev pub KnowsRound : SeatView → Type 0
KnowsRound v = IsKnowledge v.shape.bits v.members (knows v)
