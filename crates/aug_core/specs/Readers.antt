-- A reader is a seat without a lane that may load words of the records that it has seen for as long as it lives: beside all passes, and also once its era
-- is over and the next one is at work in another part of the table. Who holds a lane or hands lanes out lends it and answers for it: `lent` has the first
-- word of the part where it reads. Who takes in that seat answers from then on, in the end the one that hands lanes out; it stores no word of a part for
-- which a reader is out, and opens none there. In the example the one pass lends a reader and is joined, and the lead begins era 1 in the table's other
-- part. The reader still finds the root's record, and until it is taken back nothing is laid out where it reads.
use Rattle.std.specs.Prelude.{◌≡◌, ◌⊎◌, ℕ, ◌+◌, ◌<◌, ◌≤◌, ◌==◌, if◌then◌else◌, true, List, [], ◌∷◌, slice_index}
use Rattle.aug_core.specs.Places.{Shape, record_start, record_words, word_count}
use Rattle.aug_core.specs.Addresses.{IsInner}
use Rattle.aug_core.specs.Book.{At}
use Rattle.aug_core.specs.Effects.{noted}
use Rattle.aug_core.specs.declared.view.Entry.{Entry}
use Rattle.aug_core.specs.declared.view.SeatView.{SeatView}

-- the sum over a list
abbrev pub total : {A : Type 0} → (A → ℕ) → List A → ℕ
total f [] = 0
total f (x ∷ xs) = f x + total f xs

-- how often a number stands in a list
abbrev pub times_in : ℕ → List ℕ → ℕ
times_in number numbers = total (λ x. if x == number then 1 else 0) numbers

-- the view counts as one reader in the part where it reads
abbrev pub reads_at : ℕ → SeatView → ℕ
reads_at base v = if v.reads then (if v.base == base then 1 else 0) else 0

-- in each part there are no more readers than these views answer for
abbrev pub AreLent : List SeatView → Type 0
AreLent views = (base : ℕ) → total (reads_at base) views ≤ total (λ v. times_in base v.lent) views

-- a part of a table lies aside of another, which begins at `base`
abbrev pub IsAside : ℕ → ℕ → ℕ → Type 0
IsAside size base other = (other + size ≤ base) ⊎ (base + size ≤ other)

-- the records that a view has seen are in its part as they were published
abbrev pub FindsRecords : Shape → List ℕ → SeatView → Type 0
FindsRecords s words v = (q i k : ℕ) (e : Entry) → IsInner s q → At v.seen q i e → k < record_words
    → (record_start s e.number + k < word_count s) × (slice_index words (v.base + (record_start s e.number + k)) ≡ slice_index e.words k)

-- what a reader can count on while a part is at work in this era: it reads there, or it is of an earlier era and reads aside
pub record ReadsOn (s : Shape) (era base : ℕ) (words : List ℕ) (v : SeatView) : Type 0 where
  pub now : v.era ≡ era → v.base ≡ base
  pub before : v.era < era → IsAside (word_count s) base v.base × FindsRecords s words v

-- the view that lends a reader, after it
abbrev pub lending : SeatView → SeatView
lending v = record v { lent = v.base ∷ v.lent }

-- the new view that is the reader: it has seen what the other had seen, holds no lane, and made no step
abbrev pub reader_of : SeatView → SeatView
reader_of v = record (noted v) { reads = true }

-- a list without the first of these numbers
abbrev pub without : ℕ → List ℕ → List ℕ
without number [] = []
without number (x ∷ xs) = if x == number then xs else x ∷ without number xs

-- the view that takes a reader back, after it
abbrev pub taking_reader : SeatView → SeatView → SeatView
taking_reader v w = record v { lent = without w.base v.lent }
