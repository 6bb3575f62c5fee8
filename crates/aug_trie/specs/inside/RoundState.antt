-- The table of a round, and the round of a view of it.
use Rattle.std.specs.Prelude.{◌≡◌, ℕ, List, map}
use Rattle.atomic_table.specs.Seated.{TableId}
use Rattle.aug_words.specs.Seats.{Store}
use Rattle.aug_core.specs.Places.{Shape}
use Rattle.aug_core.specs.declared.view.PastEra.{PastEra}
use Rattle.aug_core.specs.declared.view.SeatView.{SeatView}
use Rattle.aug_trie.specs.Chains.{Chapter}
use Rattle.aug_trie.specs.Round.{TableFacts, RoundFacts}
use Rattle.aug_trie.specs.inside.Knows.{root_history}

-- the era of a view, and those before it
abbrev pub eras_of : SeatView → ℕ × List PastEra
eras_of v = (v.era, v.past)

-- the rounds of eras that are over
abbrev pub past_rounds : Shape → List PastEra → List Chapter
past_rounds s past = map (λ era. record { members = era.members; history = root_history s era.book }) past

-- the round that a view of a table is of
abbrev pub round_of : TableId → SeatView → RoundFacts
round_of table v = record { table = table; era = v.era; bits = v.shape.bits; members = v.members; workers = v.shape.workers; updates = v.shape.updates; room = v.shape.members }

-- what a round's fields keep: its layout is that of its table, which uses no record again
pub record KeepsLayout (layout : Shape) (store : Store) : Type 0 where
  pub laid_out : layout ≡ store.shape
  pub keeps_records : store.shape.reservations ≡ 0

-- the table itself
abbrev pub facts_of : Store → TableFacts
facts_of store = record { table = store.table; bits = store.shape.bits; workers = store.shape.workers; updates = store.shape.updates; room = store.shape.members }
