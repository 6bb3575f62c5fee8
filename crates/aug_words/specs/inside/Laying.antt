-- How the part of a table beside the one at work is laid out for the next opening, in which each node has a record of its own, by what its lead has seen.
-- A node is laid out as a record by which its word was once named, when all that is below it there is as an opening over that record's set demands. If 0
-- was put into the example, its root is laid out as its newest record once the part is as a table opens with 0, 1 and 3.
use Rattle.std.specs.Prelude.{◌≡◌, ℕ, ◌⊎◌, ◌+◌, ◌-◌, ◌*◌, ◌/◌, ◌%◌, ◌^◌, ◌<◌, ◌≤◌, ◌==◌, nat_lt, if◌then◌else◌, true, Some, List, [], ◌∷◌, length, slice_index, slice_set}
use Rattle.atomic_table.specs.Seated.{TableId}
use Rattle.aug_core.specs.inside.OwnNumbers.{own_number}
use Rattle.aug_core.specs.Places.{Shape, lane_place, record_start, record_words, word_count}
use Rattle.aug_core.specs.Prefixes.{IsPrefix}
use Rattle.aug_core.specs.Book.{Book, At}
use Rattle.aug_core.specs.Cuts.{pairs_of_cut, Cut}
use Rattle.aug_core.specs.Effects.{Sat}
use Rattle.aug_core.specs.Effects.{KnowsBook}
use Rattle.aug_core.specs.Eras.{table_part, IsBeside, opening_with}
use Rattle.aug_core.specs.Addresses.{place_count, IsInner, level_of, place_on, left_of, right_of}
use Rattle.aug_core.specs.Lanes.{word_of_state}
use Rattle.aug_core.specs.inside.EntryCuts.{IsPartOfCut}
use Rattle.aug_core.specs.inside.WordPlaces.{IsWord}
use Rattle.aug_core.specs.declared.view.Entry.{Entry}
use Rattle.aug_core.specs.declared.view.LaneState.TheVariants.{Free}
use Rattle.aug_core.specs.declared.view.SeatView.{SeatView}
use Rattle.aug_core.specs.Opening.{shared_words}
use Rattle.aug_core.specs.Renewals.{IsOpened}
use Rattle.aug_core.specs.Readers.{IsAside}
use Rattle.aug_core.specs.inside.ClearParts.{IsClear, IsClearPart}
use Rattle.aug_words.specs.inside.Builds.{AreWords, WritesFive, IsReady}

-- the word q is that of a leaf or a node of a chunk: of the node at the place `chunk` on the level `height`, or of one below that
pub record InChunk (s : Shape) (height chunk q : ℕ) : Type 0 where
  pub level : ℕ
  pub place : ℕ
  pub here : IsWord s level place q
  pub low : level ≤ height
  pub from_first : chunk * 2 ^ (height - level) ≤ place
  pub to_last : place < (chunk + 1) * 2 ^ (height - level)

-- the word of a leaf or a node, and those of its own record, stay
pub record IsKept (s : Shape) (old new : List ℕ) (q : ℕ) : Type 0 where
  pub word : slice_index new q ≡ slice_index old q
  pub own_record : (k : ℕ) → IsInner s q → k < record_words → slice_index new (record_start s (own_number s q) + k) ≡ slice_index old (record_start s (own_number s q) + k)

-- a node's own record and then its word were stored
pub record LaysNode (s : Shape) (q : ℕ) (five old new : List ℕ) : Type 0 where
  pub mid : List ℕ
  pub writes : WritesFive old mid (record_start s (own_number s q)) five
  pub is : new ≡ slice_set mid q (own_number s q)

-- a chunk may have changed, and all other leaves and nodes stay, and so do the words of the lanes and the records that levels share
pub record KeepsRest (s : Shape) (height chunk : ℕ) (old new : List ℕ) : Type 0 where
  pub long : length new ≡ length old
  pub others : (q : ℕ) → q < place_count s → (InChunk s height chunk q → ⊥) → IsKept s old new q
  pub between : (i : ℕ) → place_count s ≤ i → i < record_start s s.bits → slice_index new i ≡ slice_index old i

-- the word with which a leaf opens, by one that names an entry of it: its serials begin again, with 1 for a member and else with 0
abbrev pub renewed_word : ℕ → ℕ
renewed_word word = if word / 2 ^ 32 % 2 == 1 then 2 ^ 32 + word % 2 ^ 32 else 0

-- the word with which a leaf or a node opens there
abbrev pub next_word : Shape → ℕ → ℕ → ℕ
next_word s q word = if nat_lt q (2 ^ s.bits) then renewed_word word else own_number s q

-- the words of a node's own record, by those of the record as which it is laid out
abbrev pub next_record : Shape → ℕ → List ℕ → List ℕ
next_record s q five = next_word s (left_of s q) (slice_index five 0) ∷ next_word s (right_of s q) (slice_index five 1) ∷ slice_index five 2 ∷ slice_index five 3 ∷ slice_index five 4 ∷ []

-- the word names an entry of the leaf or node q that was seen
pub record NamesEntry (book : Book) (q word : ℕ) : Type 0 where
  pub index : ℕ
  pub entry : Entry
  pub at : At book q index entry
  pub named : entry.word ≡ word

module _ (face : ℕ → ℕ → List (ℕ × ℕ) → List ℕ) (s : Shape) (book : Book) where
  -- a chunk is as an opening demands over the set of each cut below which the entry i of its node stands
  abbrev pub IsLaid : ℕ → ℕ → ℕ → ℕ → List ℕ → Type 0
  IsLaid height chunk q i words = (cut : Cut) → IsPartOfCut s book cut height chunk q i → (r : ℕ) → InChunk s height chunk r → IsReady face (opening_with s (pairs_of_cut cut)) words r

  -- a leaf or a node is laid out as the entry that this word names
  pub record IsLaidAs (q word : ℕ) (words : List ℕ) : Type 0 where
    pub names : NamesEntry book q word
    pub laid : IsLaid (level_of s q) (place_on s q) q names.index words

  -- what is noted of the nodes of a chunk is so
  abbrev pub ShownBelow : List ℕ → List ℕ → ℕ → ℕ → Type 0
  ShownBelow words shown height chunk = (q number : ℕ) → IsInner s q → InChunk s height chunk q → slice_index shown (q - 2 ^ s.bits) ≡ number + 1 → IsLaidAs q number words

  -- words of a chunk were stored, and what is noted of its nodes afterwards is so
  pub record Brings (height chunk : ℕ) (old new shown shown' : List ℕ) : Type 0 where
    pub keeps : KeepsRest s height chunk old new
    pub noted : length shown' ≡ length shown
    pub others : (q : ℕ) → IsInner s q → (InChunk s height chunk q → ⊥) → slice_index shown' (q - 2 ^ s.bits) ≡ slice_index shown (q - 2 ^ s.bits)
    pub below : ShownBelow new shown' height chunk

-- the words of the first lanes are those of free ones, and no others have changed
pub record FreesLanes (s : Shape) (lanes : ℕ) (old new : List ℕ) : Type 0 where
  pub long : length new ≡ length old
  pub free : (lane : ℕ) → lane < lanes → slice_index new (lane_place s lane) ≡ word_of_state Free
  pub before : (i : ℕ) → i < lane_place s 0 → slice_index new i ≡ slice_index old i
  pub others : (i : ℕ) → lane_place s lanes ≤ i → slice_index new i ≡ slice_index old i

-- the records that the first levels share in other tables were filled, and no other word has changed
pub record SharesRecords (face : ℕ → ℕ → List (ℕ × ℕ) → List ℕ) (s : Shape) (levels : ℕ) (old new : List ℕ) : Type 0 where
  pub long : length new ≡ length old
  pub shared : (level : ℕ) → level < levels → AreWords new (record_start s level) (shared_words face level)
  pub others : (i : ℕ) → (i < record_start s 0) ⊎ (record_start s levels ≤ i) → slice_index new i ≡ slice_index old i

-- the words of the part of a table that begins at this word, as a view knows them
abbrev pub words_in : ℕ → Shape → SeatView → List ℕ
words_in base s v = table_part base (word_count s) v.whole

-- words of that part were stored, and the view has not changed otherwise
pub record ChangesPart (base : ℕ) (s : Shape) (old new : SeatView) : Type 0 where
  pub view_is : new ≡ record old { whole = new.whole }
  pub beside : IsBeside base (word_count s) old.whole new.whole

-- one word was
pub record PutsWord (base : ℕ) (s : Shape) (place value : ℕ) (old new : SeatView) : Type 0 where
  pub changes : ChangesPart base s old new
  pub puts : words_in base s new ≡ slice_set (words_in base s old) place value

-- a seat that hands lanes out of another part
pub record LeadsBeside (base : ℕ) (s : Shape) (v : SeatView) : Type 0 where
  pub next : ℕ
  pub leads : v.spare ≡ Some next
  pub live : v.live ≡ true
  pub apart : (base + word_count s ≤ v.base) ⊎ (v.base + word_count v.shape ≤ base)
  -- where nobody reads for whom it answers
  pub clear : (place : ℕ) → place < word_count s → IsClear (word_count v.shape) v.lent (base + place)

-- a seat may lay a part out: it leads in another part, and knows all words beside that
pub record MayLay (seat_table table : TableId) (base : ℕ) (s : Shape) (me : Sat) : Type 0 where
  pub seated : seat_table ≡ table
  pub no_slot : me.1 ≡ []
  pub long : length me.0.whole ≡ table.words
  pub inside : base + word_count s ≤ table.words
  pub few : table.words < 2 ^ 60
  pub leads : LeadsBeside base s me.0

-- words of that part were stored and others loaded, and the view has not changed otherwise
pub record StepsBeside (base : ℕ) (s : Shape) (old new : SeatView) : Type 0 where
  pub view_is : new ≡ record old { whole = new.whole; steps = new.steps }
  pub beside : IsBeside base (word_count s) old.whole new.whole
  pub steps : IsPrefix old.steps new.steps

-- and it may load the records that it has seen, the words of which begin here
pub record MayBring (face : ℕ → ℕ → List (ℕ × ℕ) → List ℕ) (seat_table table : TableId) (records base : ℕ) (s : Shape) (me : Sat) : Type 0 where
  pub may : MayLay seat_table table base s me
  pub shaped : me.0.shape ≡ s
  pub wide : me.0.base + word_count me.0.shape ≤ table.words
  pub records_are : records ≡ me.0.base + record_start me.0.shape 0
  pub keeps_records : me.0.shape.reservations ≡ 0
  pub knows : KnowsBook face me.0
  pub room : 2 ^ s.bits ≤ s.members

-- what is noted of a part of a table that is being laid out beside the one at work, if each node has a record of its own
pub record IsDraft (face : ℕ → ℕ → List (ℕ × ℕ) → List ℕ) (table : TableId) (base : ℕ) (shown : List ℕ) (v : SeatView) : Type 0 where
  pub inside : base + word_count v.shape ≤ table.words
  pub apart : (base + word_count v.shape ≤ v.base) ⊎ (v.base + word_count v.shape ≤ base)
  pub noted : length shown ≡ 2 ^ v.shape.bits
  pub below : ShownBelow face v.shape v.seen (words_in base v.shape v) shown v.shape.bits 0

-- a table without such room has none
abbrev pub Drafts : (ℕ → ℕ → List (ℕ × ℕ) → List ℕ) → TableId → ℕ → List ℕ → SeatView → Type 0
Drafts face table base shown v = 2 ^ v.shape.bits ≤ v.shape.members → IsDraft face table base shown v

-- another part is as it opens over the set of the last cut that this view knew, and nobody reads there
pub record OpensOver (face : ℕ → ℕ → List (ℕ × ℕ) → List ℕ) (base : ℕ) (v : SeatView) : Type 0 where
  pub members : List (ℕ × ℕ)
  pub opened : IsOpened face (opening_with v.shape members) (words_in base v.shape v)
  pub aside : IsAside (word_count v.shape) v.base base
  pub inside : base + word_count v.shape ≤ length v.whole
  pub clear : IsClearPart (word_count v.shape) v.lent base
