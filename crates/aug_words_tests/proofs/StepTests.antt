-- What the test of two passes on one node needs: a table of 1 bit has the leaves 0 and 1, and the node 2 over them.
use Rattle.std.proofs.Common.{inl, inr, ◌≡◌, ℕ, Bool, true, false, ◌+◌, ◌-◌, ◌*◌, ◌/◌, ◌%◌, ◌^◌, ◌<◌, ◌≤◌, eqb, if◌then◌else◌, List, [], ◌∷◌, ◌++◌, get_or, refl, sym, ap, ◌∙◌, subst, arith}
use Rattle.aug_monoid.specs.Parts.{Parts}
use Rattle.aug_core.specs.Faces.{face}
use Rattle.aug_core.proofs.FaceLemmas.{left_in, right_in}
use Rattle.aug_core.specs.Places.{Shape, shape_of, own_records}
use Rattle.aug_core.specs.Addresses.{IsInner, left_of, right_of}
use Rattle.aug_core.specs.Book.{IsSerial, IsBook, IsNewest}
use Rattle.aug_core.specs.inside.Refreshes.{HasNewest, SaysLoaded}
use Rattle.aug_core.specs.Effects.{CoversUntil, MayStore, TriesLeaf, LoadsLeaf, BeginsAtLeaf, LoadsNode, IsFilled}
use Rattle.aug_core.specs.declared.view.Entry.{Entry}
use Rattle.aug_core.specs.declared.view.SeatView.{SeatView}
use Rattle.aug_core.proofs.Clients.{may_store_same, may_store_tried}
use Rattle.aug_core.proofs.Filling.{filled_view, is_filled}
use Rattle.aug_core.proofs.Refreshing.{is_loaded}
use mathlib.Core.Bool.{true≢false}
use Rattle.aug_words.specs.Seats.{MayAdvance, TriedLeaf}
use Rattle.aug_words_tests.proofs.LaneTests.{IsOfLane}
use Rattle.aug_core.proofs.PrefixLemmas.{book_refl}

abbrev pub small : Shape
small = shape_of 1 2 1 0

no_own : own_records 1 0 1 ≡ 0
unfolding own_records
no_own = refl

-- each lane has one record, behind the one of the opening
pub first_lane : (s : Shape) → s ≡ small → (lane : ℕ) → IsOfLane s lane (1 + lane)
first_lane s e lane = subst (λ (z : Shape). IsOfLane z lane (1 + lane)) (sym e) (let own = no_own in (0, omega arith, omega arith))

pub node_inner : (s : Shape) → s.bits ≡ 1 → IsInner s 2
node_inner s one = let e : 2 ^ s.bits ≡ 2 = ap (λ (b : ℕ). 2 ^ b) one in let f : 2 ^ (s.bits + 1) ≡ 4 = ap (λ (b : ℕ). 2 ^ (b + 1)) one in record { past_leaves = omega arith; inside = omega arith }

-- the pairs below a leaf of this word: its key with the weight in the lower half, where the serial in the upper half is odd
abbrev pub there : ℕ → ℕ → List (ℕ × ℕ)
there key word = if eqb (word / 2 ^ 32 % 2) 1 then (key, word % 2 ^ 32) ∷ [] else []

-- they are those of the entry that the word names
pub there_is : (key i word : ℕ) (e : Entry) → IsSerial key i e → e.word ≡ word → e.pairs ≡ there key word
there_is key i word e is named =
    let of_leaf = is.named in let fits = is.fits in let odd : i % 2 ≡ word / 2 ^ 32 % 2 = omega arith in let weight : e.weight ≡ word % 2 ^ 32 = omega arith in
    is.there_if_odd ∙ (λ j. if eqb (odd j) 1 then (key, weight j) ∷ [] else [])

-- the first two of five words over two children are those of the children
pub first_is : {A B : Type 0} (a : Parts A) (b : Parts B) (five : List ℕ) (left right : ℕ) (pairs : List (ℕ × ℕ)) → five ≡ face a b left right pairs → get_or five 0 0 ≡ left
first_is a b five left right pairs are = ap (λ (z : List ℕ). get_or z 0 0) are ∙ left_in a b left right pairs

pub second_is : {A B : Type 0} (a : Parts A) (b : Parts B) (five : List ℕ) (left right : ℕ) (pairs : List (ℕ × ℕ)) → five ≡ face a b left right pairs → get_or five 1 0 ≡ right
second_is a b five left right pairs are = ap (λ (z : List ℕ). get_or z 1 0) are ∙ right_in a b left right pairs

-- what the first load of an update allows
module _ (face : ℕ → ℕ → List (ℕ × ℕ) → List ℕ) (v w : SeatView) (key word : ℕ) (began : BeginsAtLeaf face v key word w) (inside : key < 2 ^ v.shape.bits) where
  of_leaf : IsSerial key began.index began.entry
  of_leaf = began.sees.book.serials key began.index began.entry inside began.newest.at

  -- the word has the lower bits of the newest serial, which is small
  pub serial_is : (word / 2 ^ 32 ≡ began.index % 2 ^ 32) × (v.shape.reservations ≡ 0 → began.index ≤ 1 + v.shape.workers * (2 * v.shape.updates))
  serial_is = let leaf = of_leaf in let found = began.found in let named = leaf.named in let fits = leaf.fits in let last = began.newest.last in (omega arith, λ off. let few = (began.sees.fits off).few key inside in omega arith)

  -- a key that is not there may come in
  pub may_insert : (weight : ℕ) → word / 2 ^ 32 % 2 ≡ 0 → weight < 2 ^ 32 → MayAdvance w key word ((word / 2 ^ 32 + 1) * 2 ^ 32 + weight)
  may_insert weight even fits = let leaf = of_leaf in let serial = serial_is.0 in record {
    advance = record { serial = began.index; weight = began.entry.weight; replaces = false; new_weight = weight };
    is_advance = record { fits = leaf.fits; new_fits = fits; from_there = λ e. absurd (true≢false (sym e)); weighs_nothing = λ _ odd. absurd (omega arith) };
    from = began.found ∙ leaf.named;
    to = let next : word / 2 ^ 32 + 1 ≡ (began.index + 1) % 2 ^ 32 = omega arith in ap (λ (z : ℕ). z * 2 ^ 32 + weight) next;
    known = record { entry = began.entry; at = began.newest.at; weighs = refl };
  }

  -- and one that is there may get another weight, in a table for one update
  pub may_replace : (weight : ℕ) → word / 2 ^ 32 % 2 ≡ 1 → v.shape.reservations ≡ 0 → v.shape.workers * (2 * v.shape.updates) ≡ 2 → weight < 2 ^ 32 → MayAdvance w key word ((word / 2 ^ 32 + 2) * 2 ^ 32 + weight)
  may_replace weight odd off few fits = let leaf = of_leaf in let serial = serial_is.0 in let low = serial_is.1 off in record {
    advance = record { serial = began.index; weight = began.entry.weight; replaces = true; new_weight = weight };
    is_advance = record { fits = leaf.fits; new_fits = fits; from_there = λ _. (let is : began.index % 2 ≡ 1 = omega arith in is); weighs_nothing = λ e. absurd (true≢false e) };
    from = began.found ∙ leaf.named;
    to = let next : word / 2 ^ 32 + 2 ≡ (began.index + 2) % 2 ^ 32 = omega arith in ap (λ (z : ℕ). z * 2 ^ 32 + weight) next;
    known = record { entry = began.entry; at = began.newest.at; weighs = refl };
  }

  -- and once it was tried, the pass has the records that it had
  module _ (x : SeatView) (new : ℕ) (done : Bool) (may : MayAdvance w key word new) (tried : TriedLeaf face w key word new done x) where
    told : TriesLeaf face w key may.advance tried.found x
    told = tried.told may.advance may.is_advance may.known may.from may.to

    pub shape_stays : x.shape ≡ v.shape
    shape_stays = told.shaped ∙ ap (λ (z : SeatView). z.shape) began.stepped

    pub stores_on : (number : ℕ) → MayStore v number → MayStore x number
    stores_on number own = may_store_tried face w x key may.advance tried.found number told (may_store_same v w number (ap (λ (z : SeatView). z.shape) began.stepped) (ap (λ (z : SeatView). z.held) began.stepped) own)

module _ (face : ℕ → ℕ → List (ℕ × ℕ) → List ℕ) (v v1 v2 v3 : SeatView) (from left right : ℕ) (one : v.shape.bits ≡ 1) (node : LoadsNode face v 2 from v1) (at_left : LoadsLeaf face v1 0 left v2) (at_right : LoadsLeaf face v2 1 right v3) where
  shape1 : v1.shape ≡ v.shape
  shape1 = ap (λ (z : SeatView). z.shape) node.stepped

  shape2 : v2.shape ≡ v.shape
  shape2 = ap (λ (z : SeatView). z.shape) at_left.stepped ∙ shape1

  pub shape3 : v3.shape ≡ v.shape
  shape3 = ap (λ (z : SeatView). z.shape) at_right.stepped ∙ shape2

  pub same_lane : v3.held ≡ v.held
  same_lane = ap (λ (z : SeatView). z.held) at_right.stepped ∙ ap (λ (z : SeatView). z.held) at_left.stepped ∙ ap (λ (z : SeatView). z.held) node.stepped

  pub same_reserved : v3.reserved ≡ v.reserved
  same_reserved = ap (λ (z : SeatView). z.reserved) at_right.stepped ∙ ap (λ (z : SeatView). z.reserved) at_left.stepped ∙ ap (λ (z : SeatView). z.reserved) node.stepped

  pub still_stores : (number : ℕ) → MayStore v number → MayStore v3 number
  still_stores number may = may_store_same v v3 number shape3 same_lane may

  book2 : IsBook face v.shape v2.seen
  book2 = subst (λ (z : Shape). IsBook face z v2.seen) shape1 at_left.sees.book

  book3 : IsBook face v.shape v3.seen
  book3 = subst (λ (z : Shape). IsBook face z v3.seen) shape2 at_right.sees.book

  abbrev has_node : HasNewest v1.seen 2 from
  has_node = record { index = node.index; entry = node.entry; newest = node.newest; named = sym node.found; shown = node.shown }

  -- five words over the two leaves may be published
  module _ (five : List ℕ) (are : five ≡ face left right (there 0 left ++ there 1 right)) (first : get_or five 0 0 ≡ left) (second : get_or five 1 0 ≡ right) where
    abbrev has_left : HasNewest v2.seen (left_of v.shape 2) (get_or five 0 0)
    has_left = record { index = at_left.index; entry = at_left.entry; newest = subst (λ (q : ℕ). IsNewest v2.seen q at_left.index at_left.entry) (λ i. 2 * (2 - 2 ^ sym one i)) at_left.newest; named = sym at_left.found ∙ sym first; shown = at_left.shown }

    abbrev has_right : HasNewest v3.seen (right_of v.shape 2) (get_or five 1 0)
    has_right = record { index = at_right.index; entry = at_right.entry; newest = subst (λ (q : ℕ). IsNewest v3.seen q at_right.index at_right.entry) (λ i. 2 * (2 - 2 ^ sym one i) + 1) at_right.newest; named = sym at_right.found ∙ sym second; shown = at_right.shown }

    below_left : at_left.entry.pairs ≡ there 0 left
    below_left = let e : 2 ^ v.shape.bits ≡ 2 = ap (λ (b : ℕ). 2 ^ b) one in there_is 0 at_left.index left at_left.entry (book2.serials 0 at_left.index at_left.entry (omega arith) at_left.newest.at) (sym at_left.found)

    below_right : at_right.entry.pairs ≡ there 1 right
    below_right = let e : 2 ^ v.shape.bits ≡ 2 = ap (λ (b : ℕ). 2 ^ b) one in there_is 1 at_right.index right at_right.entry (book3.serials 1 at_right.index at_right.entry (omega arith) at_right.newest.at) (sym at_right.found)

    abbrev says : SaysLoaded face v.shape v3.seen 2 from five
    says = record {
      is_loaded = is_loaded face v.shape v1.seen v2.seen v3.seen v3.seen 2 from (get_or five 0 0) (get_or five 1 0) (node_inner v.shape one) at_left.sees.later at_right.sees.later (book_refl v3.seen) has_node has_left has_right node.sees.book;
      left_named = has_left.named;
      right_named = has_right.named;
      five_are = are ∙ (λ i. face (sym first i) (sym second i) (sym below_left i ++ sym below_right i));
    }

    -- leaves were made in no era
    unborn : (at_left.entry.birth ≡ 0) × (at_right.entry.birth ≡ 0)
    unborn = let e : 2 ^ v.shape.bits ≡ 2 = ap (λ (b : ℕ). 2 ^ b) one in ((book2.serials 0 at_left.index at_left.entry (omega arith) at_left.newest.at).unborn, (book3.serials 1 at_right.index at_right.entry (omega arith) at_right.newest.at).unborn)

    pub may_publish : (birth number : ℕ) (may : MayStore v3 number) → CoversUntil v3 2 node.index node.entry birth → IsFilled face (filled_view v3 number five) 2 from birth number
    may_publish birth number may covers = let born = unborn in let a = born.0 in let b = born.1 in
        is_filled v3 number five may face 2 from birth (subst (λ (z : Shape). SaysLoaded face z v3.seen 2 from five) (sym shape3) says) covers (inr (omega arith)) (inr (omega arith))

  -- in a round there is nothing to ask
  pub covers_round : (birth : ℕ) → v.shape.reservations ≡ 0 → CoversUntil v3 2 node.index node.entry birth
  covers_round birth off = inl (ap (λ (z : Shape). z.reservations) shape3 ∙ off)
