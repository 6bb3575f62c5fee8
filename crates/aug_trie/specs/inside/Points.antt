-- One try at a node, step by step: which part of it was done at each point.
use Rattle.std.specs.Prelude.{◌≡◌, ℕ, ◌+◌, ◌-◌, ◌*◌, ◌^◌, ◌<◌, ◌≤◌, Bool, nat_lt, if◌then◌else◌, List, [], ◌∷◌, ◌++◌, length, slice_index}
use Rattle.aug_monoid.specs.Parts.{Parts}
use Rattle.aug_core.specs.Places.{record_words}
use Rattle.aug_core.specs.Addresses.{IsInner, left_of, right_of}
use Rattle.aug_core.specs.Book.{ArePrefixes}
use Rattle.aug_core.specs.inside.Refreshes.{HasNewest, SaysLoaded, stored}
use Rattle.aug_core.specs.Effects.{Says, own_lane, KnowsBook}
use Rattle.aug_core.specs.declared.step.StepTaken.{StepTaken}
use Rattle.aug_core.specs.declared.view.SeatView.{SeatView}
use Rattle.aug_trie.specs.inside.RoundState.{eras_of}
use Rattle.aug_trie.specs.inside.Goes.{Goes, Took, HasLeaves, HasRoom, Tries, IsPart, part_words, part_steps, publish_steps, try_steps, Looks}
use Rattle.aug_trie.specs.inside.LeafPairs.{leaf_pairs}
use Rattle.aug_trie.specs.declared.turns.points.Reading.{Reading}
use Rattle.aug_trie.specs.declared.turns.points.Filling.{Filling}
use Rattle.aug_trie.specs.declared.turns.points.Point.{Point}
use Rattle.aug_trie.specs.declared.turns.points.Point.TheVariants.{Node, Left, Right, Part, Record}
use Rattle.aug_trie.specs.declared.turns.points.Advanced.{Advanced}
use Rattle.aug_trie.specs.declared.turns.points.Advanced.TheVariants.{To, Exchanged}

-- the view made one more step; what it saw grows, and its lane and table are the same
pub record OneStep (v w : SeatView) : Type 0 where
  pub taken : StepTaken
  pub steps : w.steps ≡ v.steps ++ taken ∷ []
  pub later : ArePrefixes v.seen w.seen
  pub shaped : w.shape ≡ v.shape
  pub same_members : w.members ≡ v.members
  pub same_eras : eras_of w ≡ eras_of v
  pub lane : own_lane w.held ≡ own_lane v.held

-- and its update has the same beginning as before
abbrev pub QuietStep : SeatView → SeatView → Type 0
QuietStep v w = OneStep v w × (w.began ≡ v.began)

-- how many words of the records of two children a try loads
abbrev pub reading_words : ℕ
reading_words = 2 * part_words

-- the child whose record's word is loaded after `k` others, and which word of that record it is
abbrev pub child_at : ℕ → ℕ → ℕ → ℕ
child_at left right k = if nat_lt k part_words then left else right

abbrev pub field_after : ℕ → ℕ
field_after k = if nat_lt k part_words then k + 2 else k - 1

module _ {A B : Type 0} (parts_a : Parts A) (parts_b : Parts B) where
  -- the words of a record over two children with these words, whose records' counts and folds are the words from 0 on and from 3 on
  abbrev pub five_over : ℕ → ℕ → (ℕ → ℕ) → List ℕ
  five_over left right word = left ∷ right ∷ (word 0 + word 3) ∷ parts_a.to_word (parts_a.join (parts_a.from_word (word 1)) (parts_a.from_word (word 4)))
      ∷ parts_b.to_word (parts_b.join (parts_b.from_word (word 2)) (parts_b.from_word (word 5))) ∷ []

  -- the words of a record over a leaf and the next one, with these words
  pub record IsOverLeaves (key left right : ℕ) (five : List ℕ) : Type 0 where
    pub m : ℕ
    pub k : ℕ
    pub a : A
    pub a' : A
    pub b : B
    pub b' : B
    pub left_part : IsPart parts_a parts_b m a b (leaf_pairs key left)
    pub right_part : IsPart parts_a parts_b k a' b' (leaf_pairs (key + 1) right)
    pub five_are : five ≡ left ∷ right ∷ (m + k) ∷ parts_a.to_word (parts_a.join a a') ∷ parts_b.to_word (parts_b.join b b') ∷ []

-- a try that began at the view v
module _ (face : ℕ → ℕ → List (ℕ × ℕ) → List ℕ) (v : SeatView) (q : ℕ) where
  -- a try may begin, for which the record with a number is free
  pub record MayRefresh (many number : ℕ) : Type 0 where
    pub leaves : HasLeaves v.shape many
    pub inner : IsInner v.shape q
    pub knows : KnowsBook face v
    pub room : HasRoom v number 1

  -- the node's word was loaded
  pub record AfterNode (from : ℕ) (w : SeatView) : Type 0 where
    pub goes : Goes face 0 [] v w
    pub took : Took v w 1
    pub at_node : HasNewest w.seen q from

  -- and then the left child's
  pub record AfterLeft (from left : ℕ) (w : SeatView) : Type 0 where
    pub first : SeatView
    pub node : AfterNode from first
    pub goes : Goes face 0 [] first w
    pub took : Took first w 1
    pub at_left : HasNewest w.seen (left_of v.shape q) left

  -- and then the right child's
  pub record AfterRight (from left right : ℕ) (w : SeatView) : Type 0 where
    pub second : SeatView
    pub lefts : AfterLeft from left second
    pub goes : Goes face 0 [] second w
    pub took : Took second w 1
    pub at_right : HasNewest w.seen (right_of v.shape q) right

  -- and then the first `r.count` words of their records
  pub record AfterWords (r : Reading) (w : SeatView) : Type 0 where
    pub third : SeatView
    pub loaded : AfterRight r.from r.left r.right third
    pub nodes : 2 ^ v.shape.bits ≤ left_of v.shape q
    pub few : r.count < reading_words
    pub six : length r.words ≡ reading_words
    pub looks : Looks r.count third w
    pub took : Took third w r.count
    pub says : (k : ℕ) → k < r.count → Says third (child_at r.left r.right k) (field_after k) (slice_index r.words k)

  -- the own record's words are known, and the first `r.count` of them were stored
  pub record AfterStores (number : ℕ) (r : Filling) (w : SeatView) : Type 0 where
    pub third : SeatView
    pub loaded : AfterRight r.from (slice_index r.five 0) (slice_index r.five 1) third
    pub told : SeatView
    pub goes : Goes face 0 [] third told
    pub took : Took third told (2 * part_steps v.shape (left_of v.shape q))
    pub says : SaysLoaded face told.shape told.seen q r.from r.five
    pub few : r.count ≤ record_words
    pub five : length r.five ≡ record_words
    pub stands : w ≡ stored told number r.five r.count

  -- what was done at a point
  abbrev pub IsAt : ℕ → Point → SeatView → Type 0
  IsAt number Node w = w ≡ v
  IsAt number (Left from) w = AfterNode from w
  IsAt number (Right from left) w = AfterLeft from left w
  IsAt number (Part r) w = AfterWords r w
  IsAt number (Record r) w = AfterStores number r w

  -- the try is at a point
  pub record TryAt (number : ℕ) (point : Point) (w : SeatView) : Type 0 where
    pub inner : IsInner v.shape q
    pub knows_table : KnowsBook face v
    pub room : HasRoom v number 1
    pub is_at : IsAt number point w

  -- the try is over
  pub record TryOver (number : ℕ) (done : Bool) (w : SeatView) : Type 0 where
    pub goes : Goes face (number + 1) [] v w
    pub took : Took v w (try_steps (part_steps v.shape (left_of v.shape q)))
    pub tries : Tries v q number done w

  -- the result of a step of the try
  abbrev pub Advances : ℕ → Advanced → SeatView → Type 0
  Advances number (To point) w = TryAt number point w
  Advances number (Exchanged done) w = TryOver number done w

-- how many steps of a try are left at a point, if reading a child's part takes `part` loads
abbrev pub point_turns : ℕ → Point → ℕ
point_turns part Node = try_steps part
point_turns part (Left from) = try_steps part - 1
point_turns part (Right from left) = try_steps part - 2
point_turns part (Part r) = reading_words + publish_steps - r.count
point_turns part (Record r) = publish_steps - r.count

-- a step leaves one less
abbrev pub Falls : ℕ → Point → Advanced → Type 0
Falls part point (To next) = point_turns part next + 1 ≡ point_turns part point
Falls part point (Exchanged done) = 1 ≡ point_turns part point
