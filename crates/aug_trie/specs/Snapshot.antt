-- Which snapshots are a pass's, and which cut and which set each shows. In the example the root's first entry has the number 4, and the one after 0
-- was put in 6: a snapshot with the number 6 shows the second cut.
use Rattle.std.specs.Prelude.{ℕ, ◌<◌, List, [], length, slice_index_or, unwrap_or}
use Rattle.std.specs.Path.{rfind_below}
use Rattle.aug_core.specs.Cuts.{Cut, pairs_of_cut}
use Rattle.aug_model.specs.Keys.{SetFacts}
use Rattle.aug_trie.specs.Pass.{PassFacts}
use Rattle.aug_trie.specs.declared.queries.snapshot.Snapshot.{Snapshot}

-- the index of the root's entry that a snapshot shows, by the records' numbers: the newest with the snapshot's, which its pass guards, or past the end
abbrev pub index_in : List ℕ → Snapshot → ℕ
index_in numbers s = unwrap_or (rfind_below s.number numbers (length numbers)) (length numbers)

-- the snapshot is the pass's: its number is that of one of the pass's cuts
abbrev pub HasSnapshot : PassFacts → Snapshot → Type 0
HasSnapshot pass s = index_in pass.numbers s < length pass.numbers

-- the cut that a snapshot shows: the one of the pass's history that has its number
abbrev pub snapshot_cut : PassFacts → Snapshot → Cut
snapshot_cut pass s = slice_index_or pass.knows.history (index_in pass.numbers s) []

-- the set that a snapshot of the pass shows, with its bits
abbrev pub set_at : PassFacts → Snapshot → SetFacts
set_at pass s = record { bits = pass.round.bits; pairs = pairs_of_cut (snapshot_cut pass s) }
