-- What the steps of a pass leave of what it knew, and what they add.
use Rattle.std.specs.Prelude.{◌≡◌, ◌⊎◌, ℕ, ◌+◌, ◌-◌, ◌*◌, ◌^◌, ◌<◌, ◌≤◌, Bool, false, nat_lt, if◌then◌else◌, List, ◌++◌, length}
use Rattle.aug_monoid.specs.Parts.{Parts}
use Rattle.aug_monoid.specs.Fold.{fold_of}
use Rattle.aug_core.specs.Places.{Shape, record_words}
use Rattle.aug_core.specs.Book.{At, ArePrefixes, IsFresh}
use Rattle.aug_core.specs.Counts.{changes_of}
use Rattle.aug_core.specs.Records.{Lists, IsClosed, floor_of}
use Rattle.aug_core.specs.Addresses.{IsInner}
use Rattle.aug_core.specs.Effects.{HoldsOnly, MayStore, Covers, own_lane, KnowsBook}
use Rattle.aug_core.specs.inside.Refreshes.{Refreshed}
use Rattle.aug_core.specs.declared.step.StepTaken.{StepTaken}
use Rattle.aug_core.specs.declared.view.Change.{Change}
use Rattle.aug_core.specs.declared.view.Entry.{Entry}
use Rattle.aug_core.specs.declared.view.Held.{Held}
use Rattle.aug_core.specs.declared.view.Reserved.{Reserved}
use Rattle.aug_core.specs.declared.view.SeatView.{SeatView}
use Rattle.aug_trie.specs.inside.RoundState.{eras_of}
use Rattle.aug_trie.specs.Pass.{TryNoLeaf}

-- the view holds one lane
abbrev pub HoldsOne : SeatView → Type 0
HoldsOne v = (h : Held) × HoldsOnly v h

-- and it owns `records` records from the record `next` on, in a table that uses none again
pub record HasRoom (v : SeatView) (next records : ℕ) : Type 0 where
  pub keeps_records : v.shape.reservations ≡ 0
  pub holds : HoldsOne v
  pub owns : (n : ℕ) → next ≤ n → n < next + records → MayStore v n

-- the view made `n` more steps, and no exchange of a leaf
pub record Took (v w : SeatView) (n : ℕ) : Type 0 where
  pub more : List StepTaken
  pub steps : w.steps ≡ v.steps ++ more
  pub count : length more ≡ n
  pub no_try : TryNoLeaf more

-- the same for at least `least` and at most `most` steps
pub record TookBetween (v w : SeatView) (least most : ℕ) : Type 0 where
  pub steps : ℕ
  pub least_steps : least ≤ steps
  pub most_steps : steps ≤ most
  pub took : Took v w steps

-- the view made at most `most` more steps, and nothing else in it changed
pub record Looks (most : ℕ) (v w : SeatView) : Type 0 where
  pub more : List StepTaken
  pub is : w ≡ record v { steps = v.steps ++ more }
  pub few : length more ≤ most

module _ (face : ℕ → ℕ → List (ℕ × ℕ) → List ℕ) where
  -- what was known grows, the changes gain these, the lane is held still, and so are the records from `used` on that it owned
  pub record Goes (used : ℕ) (gained : List Change) (v w : SeatView) : Type 0 where
    pub later : ArePrefixes v.seen w.seen
    pub fresh : IsFresh v.shape w.seen v.seen
    pub knows_table : KnowsBook face w
    pub shaped : w.shape ≡ v.shape
    pub same_members : w.members ≡ v.members
    pub same_eras : eras_of w ≡ eras_of v
    pub lane : own_lane w.held ≡ own_lane v.held
    pub changes : changes_of w.held ≡ changes_of v.held ++ gained
    pub holds : HoldsOne v → HoldsOne w
    pub still_owned : (n : ℕ) → used ≤ n → MayStore v n → MayStore w n

-- one try at a node, which leaves the view its record if it failed
pub record Tries (v : SeatView) (q number : ℕ) (done : Bool) (w : SeatView) : Type 0 where
  pub refreshed : Refreshed v.shape v.seen q done w.seen
  pub again : done ≡ false → MayStore v number → MayStore w number

-- the view knows its table, and may read all records that it has seen, since none is used again
pub record KnowsRecords (face : ℕ → ℕ → List (ℕ × ℕ) → List ℕ) (v : SeatView) : Type 0 where
  pub knows_table : KnowsBook face v
  pub keeps_records : v.shape.reservations ≡ 0

-- the view knows its table, may read the records below each entry that it covers, and numbers records by the words that name them
pub record ReadsBelow (face : ℕ → ℕ → List (ℕ × ℕ) → List ℕ) (number : ℕ → ℕ) (v : SeatView) : Type 0 where
  pub knows_table : KnowsBook face v
  pub closed : (v.shape.reservations ≡ 0) ⊎ ((x : Reserved) → Lists v.reserved x → IsClosed v.shape v.seen (floor_of x))
  pub numbered : (q i : ℕ) (e : Entry) → IsInner v.shape q → At v.seen q i e → number e.word ≡ e.number

-- the table has `leaves` leaves
pub record HasLeaves (s : Shape) (leaves : ℕ) : Type 0 where
  pub are : leaves ≡ 2 ^ s.bits
  pub few : leaves ≤ 65536

-- and the view knows the table
pub record KnowsLeaves (face : ℕ → ℕ → List (ℕ × ℕ) → List ℕ) (v : SeatView) (many : ℕ) : Type 0 where
  pub leaves : HasLeaves v.shape many
  pub knows : KnowsBook face v

-- how many words of a record tell what is below its node: a count and two folds
abbrev pub part_words : ℕ
part_words = 3

-- how many loads a child's part takes
abbrev pub part_steps : Shape → ℕ → ℕ
part_steps s place = if nat_lt place (2 ^ s.bits) then 0 else part_words

-- how many steps bring a record into the table once its words are known: a store of each, and an exchange of the node's word for its number
abbrev pub publish_steps : ℕ
publish_steps = record_words + 1

-- how many steps a try at a node takes, if the part of each child takes so many loads: it loads the words of the node and of its two children, then both
-- parts, and publishes
abbrev pub try_steps : ℕ → ℕ
try_steps part = 9 + 2 * part

-- how many steps two tries at a node take whose children are nodes
abbrev pub level_steps : ℕ
level_steps = 2 * try_steps part_words

-- the fewest steps from a leaf on at all nodes above it up to a level: one try at each; at the lowest the children are leaves
abbrev pub least_rise_steps : ℕ → ℕ
least_rise_steps level = 15 * level - 6

module _ {A B : Type 0} (parts_a : Parts A) (parts_b : Parts B) where
  -- a count and two folds of keys with their weights
  pub record IsPart (count : ℕ) (a : A) (b : B) (pairs : List (ℕ × ℕ)) : Type 0 where
    pub count_is : count ≡ length pairs
    pub a_is : a ≡ fold_of parts_a pairs
    pub b_is : b ≡ fold_of parts_b pairs

  -- what the entries of a place have that have this word, at a node those with this record that the view guards
  pub record IsPartOf (v : SeatView) (place word number count : ℕ) (a : A) (b : B) : Type 0 where
    pub of : (i : ℕ) (e : Entry) → At v.seen place i e → e.word ≡ word → (IsInner v.shape place → Covers v place i e × (e.number ≡ number)) → IsPart count a b e.pairs
