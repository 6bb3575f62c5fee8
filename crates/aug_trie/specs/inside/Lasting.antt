-- A pass over the stock of its lane: what an update keeps on its way to the root.
use Rattle.std.specs.Prelude.{◌≡◌, ◌≢◌, ◌⊎◌, ℕ, ◌+◌, ◌*◌, ◌^◌, ◌<◌, ◌≤◌, Bool, true, false, max, if◌then◌else◌, List, [], ◌∷◌, ◌++◌, length, slice_index}
use Rattle.aug_core.specs.Places.{Shape}
use Rattle.aug_core.specs.Addresses.{place_count, root_place, IsInner, left_of, right_of}
use Rattle.aug_core.specs.Book.{history_of, At, ArePrefixes}
use Rattle.aug_core.specs.Counts.{changes_of}
use Rattle.aug_core.specs.Records.{Lists, first_era}
use Rattle.aug_core.specs.inside.Refreshes.{Refreshed, NewestCovers}
use Rattle.aug_core.specs.inside.Shows.{above, Lifts}
use Rattle.aug_core.specs.Effects.{HoldsOnly, KnowsBook}
use Rattle.aug_core.specs.declared.step.StepTaken.{StepTaken}
use Rattle.aug_core.specs.declared.view.Change.{Change}
use Rattle.aug_core.specs.declared.view.Entry.{Entry}
use Rattle.aug_core.specs.declared.view.Held.{Held}
use Rattle.aug_core.specs.declared.view.Replaced.{Replaced}
use Rattle.aug_core.specs.declared.view.SeatView.{SeatView}
use Rattle.aug_words.specs.Reservations.{HasReservations}
use Rattle.aug_words.specs.Seats.{Known, Store, AreTogether}
use Rattle.aug_words.specs.Stocks.{StockFacts, Stocks, IsHeld, LoadsHeld, birth_in_word, scan_steps}
use Rattle.aug_trie.specs.declared.updates.request.Request.{Request}
use Rattle.aug_trie.specs.declared.updates.told.LeafUpdate.{LeafUpdate}
use Rattle.aug_trie.specs.LastingTable.{look_steps}
use Rattle.aug_trie.specs.inside.Batching.{Raises}
use Rattle.aug_trie.specs.inside.Climbing.{CameBy, ChangesLeaf}
use Rattle.aug_trie.specs.inside.Goes.{Goes, TookBetween, part_steps, part_words, try_steps}

-- no record has this number or a greater one. So what goes from here on tells nothing of the lane's records, of which its stock tells
abbrev pub all_records : ℕ
all_records = 2 ^ 24

-- how many steps a try takes at most: 11 more than one in a round, since it may load its three words three times and reserve anew between
abbrev pub most_try_steps : ℕ → ℕ
most_try_steps part = try_steps part + 11

-- the birth of a record over two children with these words
abbrev pub birth_from : ℕ → Bool → ℕ → ℕ → ℕ
birth_from era over_leaves left right = max (max (first_era era) (if over_leaves then 0 else birth_in_word left)) (if over_leaves then 0 else birth_in_word right)

-- the word is not on the way of a key above this level
abbrev pub IsOff : Shape → ℕ → ℕ → ℕ → Type 0
IsOff s key level q = (l : ℕ) → level < l → l ≤ s.bits → q ≢ above s key l

-- what was replaced from the lane is older than what the nodes show: each shows an entry over those that its children show, but for those on the way of a key above this level, which may stand
-- over older ones
pub record ShowsBelow (v : SeatView) (key level : ℕ) : Type 0 where
  pub lane : Held
  pub only : HoldsOnly v lane
  pub from : ℕ → ℕ
  pub reached : (q : ℕ) → q < place_count v.shape → from q < length (history_of v.seen q)
  pub over : (q : ℕ) → IsInner v.shape q → IsOff v.shape key level q → (e : Entry) × At v.seen q (from q) e × (from (left_of v.shape q) ≤ e.left) × (from (right_of v.shape q) ≤ e.right)
  pub past : (c : Replaced) → Lists lane.replaced c → c.index < from c.place

-- at most one more entry was replaced from the lane, at the node, and the node shows a later one
abbrev pub ReplacesAt : Held → ℕ → SeatView → Held → Type 0
ReplacesAt h q w h' = (h'.replaced ≡ h.replaced) ⊎ ((c : Replaced) × (h'.replaced ≡ h.replaced ++ c ∷ []) × (c.place ≡ q) × (c.index + 1 < length (history_of w.seen q)))

module _ (face : ℕ → ℕ → List (ℕ × ℕ) → List ℕ) where
  -- a pass at its table, and the stock that tells of its lane's records
  pub record KeepsStock (store : Store) (p : Known) (k : StockFacts) : Type 0 where
    pub together : AreTogether store p
    pub slots : HasReservations p.view
    pub knows_table : KnowsBook face p.view
    pub stocks : Stocks p.view k

  -- one try
  pub record TriedBy (v : SeatView) (q : ℕ) (done : Bool) (w : SeatView) : Type 0 where
    pub goes : Goes face all_records [] v w
    pub took : TookBetween v w 0 (most_try_steps (part_steps v.shape (left_of v.shape q)))
    pub refreshed : Refreshed v.shape v.seen q done w.seen
    pub hit : done ≡ true → (h : Held) → HoldsOnly v h → (h' : Held) × HoldsOnly w h' × ReplacesAt h q w h'
    pub miss : done ≡ false → (h : Held) → HoldsOnly v h → (h' : Held) × HoldsOnly w h' × (h'.replaced ≡ h.replaced)

  -- one or two
  pub record CoveredBy (v : SeatView) (q : ℕ) (w : SeatView) : Type 0 where
    pub goes : Goes face all_records [] v w
    pub took : TookBetween v w 0 (2 * most_try_steps (part_steps v.shape (left_of v.shape q)))
    pub covers : NewestCovers v.shape v.seen w.seen q
    pub replaces : (h : Held) → HoldsOnly v h → (h' : Held) × HoldsOnly w h' × ReplacesAt h q w h'

  -- all nodes above a leaf up to a level
  pub record LiftedTo (key : ℕ) (v : SeatView) (level : ℕ) (w : SeatView) : Type 0 where
    pub goes : Goes face all_records [] v w
    pub took : TookBetween v w 0 (level * (2 * most_try_steps part_words))
    pub lifts : Lifts v.shape v.seen w.seen key level
    pub raises : Raises key v level w
    pub shows : ShowsBelow w key level

  -- steps that gained these changes, at most so many
  pub record WorksBy (most : ℕ) (gained : List Change) (v w : SeatView) : Type 0 where
    pub goes : Goes face all_records gained v w
    pub more : List StepTaken
    pub steps : w.steps ≡ v.steps ++ more
    pub few : length more ≤ most

  -- a whole update, from when an era was reserved, and what it comes to between an earlier view and a later one
  pub record UpdatedOver (v : SeatView) (key : ℕ) (request : Request) (made : LeafUpdate) (w : SeatView) : Type 0 where
    pub gained : List Change
    pub works : WorksBy (v.shape.bits * (2 * most_try_steps part_words) + 3) gained v w
    pub at_leaf : ChangesLeaf request key made
    pub came : (u z : SeatView) → u.shape ≡ v.shape → ArePrefixes u.seen v.seen → ArePrefixes w.seen z.seen → Goes face all_records gained u z → CameBy face all_records u key request z made.found made.outcome

  -- with what it reserved and let go of
  pub record UpdatedHeld (v : SeatView) (key : ℕ) (request : Request) (made : LeafUpdate) (w : SeatView) : Type 0 where
    pub gained : List Change
    pub works : WorksBy (v.shape.bits * (2 * most_try_steps part_words) + 7) gained v w
    pub at_leaf : ChangesLeaf request key made
    pub came : (u z : SeatView) → u.shape ≡ v.shape → ArePrefixes u.seen v.seen → ArePrefixes w.seen z.seen → Goes face all_records gained u z → CameBy face all_records u key request z made.found made.outcome

  -- the root was looked at within so many steps, and what is reserved holds the record of its newest entry
  pub record LooksAt (v : SeatView) (r : ℕ) (w : SeatView) : Type 0 where
    pub works : WorksBy look_steps [] v w
    pub loads : LoadsHeld face look_steps v (root_place v.shape) r w

  -- the era was moved on
  pub record MovesOn (v w : SeatView) : Type 0 where
    pub works : WorksBy 2 [] v w
    pub same : w ≡ record v { reached = w.reached; steps = w.steps }

  -- the era was moved on, and then all reservations were loaded
  pub record IsScanned (v : SeatView) (k : StockFacts) (w : SeatView) (after : StockFacts) : Type 0 where
    pub works : WorksBy (v.shape.reservations + 2) [] v w
    pub before : List StepTaken
    pub eras : ℕ → ℕ
    pub scans : w.steps ≡ v.steps ++ before ++ scan_steps v.shape eras v.shape.reservations
    pub same : (w.seen ≡ v.seen) × (changes_of w.held ≡ changes_of v.held)
    pub size : length after.words ≡ length k.words
    pub held : (i : ℕ) → after.free ≤ i → i < length after.words → (slot : ℕ) × (slot < v.shape.reservations) × IsHeld (eras slot) (birth_in_word (slice_index after.words i)) (slice_index after.deaths i)
