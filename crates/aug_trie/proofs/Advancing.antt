-- A try at a node goes on by one step.
use Rattle.std.proofs.Common.{◌≡◌, ℕ, zero, suc, add-one, ◌+◌, ◌-◌, ◌*◌, ◌^◌, ◌<◌, ◌≤◌, Bool, true, false, ltb, lt-ltb, le-ltb, if◌then◌else◌, List, [], ◌∷◌, get_or, set, get_or-set_same, get_or-set_other, length-set, sym, refl, ap, ◌∙◌, subst, ⊎_elim, arith}
use Rattle.std.proofs.lemmas.Bool.{cases_eq}
use Rattle.std.proofs.lemmas.List.{append-nil}
use Rattle.aug_monoid.specs.Parts.{Parts}
use Rattle.aug_monoid.specs.inside.Laws.{IsMonoid}
use Rattle.aug_core.specs.Places.{Shape, record_start, record_words}
use Rattle.aug_core.specs.Faces.{face}
use Rattle.aug_core.specs.Addresses.{place_count, IsInner, left_of, right_of}
use Rattle.aug_core.specs.inside.Refreshes.{HasNewest, SaysLoaded, stored}
use Rattle.aug_core.specs.Effects.{GuardsRecord, Says, MayStore, IsFilled, TriesNode, storing, KnowsBook}
use Rattle.aug_core.specs.declared.view.SeatView.{SeatView}
use Rattle.aug_core.proofs.FaceLemmas.{left_in, right_in}
use Rattle.aug_core.proofs.Refreshing.{has_entry}
use Rattle.aug_core.proofs.Sizes.{twice}
use Rattle.aug_words.specs.Seats.{LoadsRecordWord, NamesOwn, TriedNode}
use Rattle.aug_trie.specs.inside.Goes.{HasRoom, Took, Goes, IsPartOf, part_steps, try_steps, Looks}
use Rattle.aug_trie.specs.inside.Points.{reading_words, child_at, field_after, five_over, IsOverLeaves, AfterLeft, AfterRight, AfterWords, AfterStores, TryAt, TryOver}
use Rattle.aug_trie.specs.declared.turns.points.Reading.{Reading}
use Rattle.aug_trie.specs.declared.turns.points.Filling.{Filling}
use Rattle.aug_trie.specs.declared.turns.points.Point.{Point}
use Rattle.aug_trie.specs.declared.turns.points.Point.TheVariants.{Node, Left, Right, Part, Record}
use Rattle.aug_trie.proofs.Going.{took_none, took_one, took_on, may_store_room, goes_self, goes_on, goes_storing, room_on}
use Rattle.aug_trie.proofs.Looking.{goes_looking}
use Rattle.aug_trie.proofs.Looked.{looks_on, looks_one, guards_looking, says_looking}
use Rattle.aug_trie.proofs.Publishing.{may_publish, published, goes_tried, own_again}
use Rattle.aug_words.proofs.Passes.{names_plainly, told_plainly}
use Rattle.aug_trie.proofs.Telling.{guards_named, held_plainly, part_of_leaf, part_of_node}
use Rattle.aug_trie.proofs.Whole.{says, tries, even, part_few}
use Rattle.aug_core.proofs.PrefixLemmas.{book_refl, book_trans}

-- ---- the views so far

module _ (f : ℕ → ℕ → List (ℕ × ℕ) → List ℕ) where
  goes_stored : (v : SeatView) (number : ℕ) (five : List ℕ) (k : ℕ) → KnowsBook f v → Goes f 0 [] v (stored v number five k)
  goes_stored v number five zero kn = goes_self f v kn
  goes_stored v number five (suc k) kn = let g = goes_stored v number five k kn in let w : SeatView = stored v number five k in
      goes_on f 0 0 0 [] v w (stored v number five (suc k)) (omega arith) (omega arith) g (goes_storing f w (stored v number five (suc k)) _ _ refl g.knows_table)

  took_stored : (v : SeatView) (number : ℕ) (five : List ℕ) (k : ℕ) → Took v (stored v number five k) k
  took_stored v number five zero = took_none v v refl
  took_stored v number five (suc k) = let w : SeatView = stored v number five k in
      took_on v w (stored v number five (suc k)) k 1 (suc k) (omega arith) (took_stored v number five k) (took_one w (stored v number five (suc k)) _ refl refl)

  module _ (v : SeatView) (q : ℕ) where
    goes_left : (from left : ℕ) (w : SeatView) → AfterLeft f v q from left w → Goes f 0 [] v w
    goes_left from left w a = goes_on f 0 0 0 [] v a.first w (omega arith) (omega arith) a.node.goes a.goes

    goes_right : (from left right : ℕ) (w : SeatView) → AfterRight f v q from left right w → Goes f 0 [] v w
    goes_right from left right w a = goes_on f 0 0 0 [] v a.second w (omega arith) (omega arith) (goes_left from left a.second a.lefts) a.goes

    took_right : (from left right : ℕ) (w : SeatView) → AfterRight f v q from left right w → Took v w 3
    took_right from left right w a = let l = a.lefts in
        took_on v a.second w 2 1 3 refl (took_on v l.first a.second 1 1 2 refl l.node.took l.took) a.took

    goes_words : (r : Reading) (w : SeatView) (a : AfterWords f v q r w) → Goes f 0 [] a.third w
    goes_words r w a = goes_looking f r.count a.third w a.looks (goes_right r.from r.left r.right a.third a.loaded).knows_table

    -- what was seen at a point goes on from the beginning
    pub goes_at : (number : ℕ) (point : Point) (w : SeatView) → TryAt f v q number point w → Goes f 0 [] v w
    goes_at number Node w t = subst (Goes f 0 [] v) (sym t.is_at) (goes_self f v t.knows_table)
    goes_at number (Left from) w t = t.is_at.goes
    goes_at number (Right from left) w t = goes_left from left w t.is_at
    goes_at number (Part r) w t = let a = t.is_at in goes_on f 0 0 0 [] v a.third w (omega arith) (omega arith) (goes_right r.from r.left r.right a.third a.loaded) (goes_words r w a)
    goes_at number (Record r) w t = let a = t.is_at in let g = goes_on f 0 0 0 [] v a.third a.told (omega arith) (omega arith) (goes_right r.from (get_or r.five 0 0) (get_or r.five 1 0) a.third a.loaded) a.goes in
        subst (Goes f 0 [] v) (sym a.stands) (goes_on f 0 0 0 [] v a.told (stored a.told number r.five r.count) (omega arith) (omega arith) g (goes_stored a.told number r.five r.count g.knows_table))

    -- ---- the three loads

    module _ (number : ℕ) (old w : SeatView) (r : ℕ) (goes : Goes f 0 [] old w) (took : Took old w 1) where
      pub node_on : TryAt f v q number Node old → HasNewest w.seen q r → TryAt f v q number (Left r) w
      node_on t at_node = let e : old ≡ v = t.is_at in record {
        inner = t.inner;
        knows_table = t.knows_table;
        room = t.room;
        is_at = record { goes = subst (λ (z : SeatView). Goes f 0 [] z w) e goes; took = subst (λ (z : SeatView). Took z w 1) e took; at_node = at_node };
      }

      pub left_on : (from : ℕ) → TryAt f v q number (Left from) old → HasNewest w.seen (left_of v.shape q) r → TryAt f v q number (Right from r) w
      left_on from t at_left = record {
        inner = t.inner;
        knows_table = t.knows_table;
        room = t.room;
        is_at = record { first = old; node = t.is_at; goes = goes; took = took; at_left = at_left };
      }

      pub right_on : (from left : ℕ) → TryAt f v q number (Right from left) old → HasNewest w.seen (right_of v.shape q) r → AfterRight f v q from left r w
      right_on from left t at_right = record { second = old; lefts = t.is_at; goes = goes; took = took; at_right = at_right }

    -- the children are nodes, and no word of their records was loaded
    pub to_words : (number from left right : ℕ) (old w : SeatView) (r : Reading) → r ≡ record { from = from; left = left; right = right; words = 0 ∷ 0 ∷ 0 ∷ 0 ∷ 0 ∷ 0 ∷ []; count = 0 } → 2 ^ v.shape.bits ≤ left_of v.shape q
        → TryAt f v q number (Right from left) old → AfterRight f v q from left right w → TryAt f v q number (Part r) w
    to_words number from left right old w r is nodes t a = subst (λ (z : Reading). TryAt f v q number (Part z) w) (sym is) record {
      inner = t.inner;
      knows_table = t.knows_table;
      room = t.room;
      is_at = record {
        third = w;
        loaded = a;
        nodes = nodes;
        few = omega arith;
        six = refl;
        looks = record { more = []; is = (λ i. record w { steps = sym (append-nil w.steps) i }); few = omega arith };
        took = took_none w w refl;
        says = λ k low. absurd (let e : k < 0 = low in omega arith);
      };
    }

    -- the words of the own record are known, and none was stored
    to_record : (number from left right n xa xb : ℕ) (point : Point) (old third told : SeatView) (r : Filling) → r.from ≡ from → r.five ≡ left ∷ right ∷ n ∷ xa ∷ xb ∷ [] → r.count ≡ 0 → TryAt f v q number point old
        → AfterRight f v q from left right third → Goes f 0 [] third told → Took third told (2 * part_steps v.shape (left_of v.shape q)) → SaysLoaded f told.shape told.seen q from (left ∷ right ∷ n ∷ xa ∷ xb ∷ []) → TryAt f v q number (Record r) told
    to_record number from left right n xa xb point old third told r ef e5 ec t a goes took says = subst (λ (z : Filling). TryAt f v q number (Record z) told) (sym (λ i. record { from = ef i; five = e5 i; count = ec i })) record {
      inner = t.inner;
      knows_table = t.knows_table;
      room = t.room;
      is_at = record { third = third; loaded = a; told = told; goes = goes; took = took; says = says; few = omega arith; five = refl; stands = refl };
    }

-- ---- what the children tell

-- all words of their records were loaded
pub record AllWords (left right : ℕ) (words : List ℕ) (third : SeatView) : Type 0 where
  pub says : (k : ℕ) → k < reading_words → Says third (child_at left right k) (field_after k) (get_or words k 0)

module _ {A B : Type 0} (parts_a : Parts A) (parts_b : Parts B) (laws_a : IsMonoid parts_a) (laws_b : IsMonoid parts_b) (v : SeatView) (q : ℕ) where
  abbrev both : ℕ → ℕ → List (ℕ × ℕ) → List ℕ
  both = face parts_a parts_b

  inside_left : IsInner v.shape q → left_of v.shape q < place_count v.shape
  inside_left inner = let past = inner.past_leaves in let inside = inner.inside in let t = twice v.shape.bits in omega arith

  same_shape : (from left right : ℕ) (third : SeatView) → AfterRight both v q from left right third → third.shape ≡ v.shape
  same_shape from left right third a = (goes_right both v q from left right third a).shaped

  -- the children are leaves
  pub leaves_told : (number from left right : ℕ) (old w : SeatView) (r : Filling) → r.from ≡ from → r.count ≡ 0 → 2 ^ v.shape.bits ≤ 65536 → left_of v.shape q < 2 ^ v.shape.bits → IsOverLeaves parts_a parts_b (left_of v.shape q) left right r.five
      → TryAt both v q number (Right from left) old → AfterRight both v q from left right w → TryAt both v q number (Record r) w
  leaves_told number from left right old w r ef ec few low over t a = let kn = (goes_right both v q from left right w a).knows_table in let shaped = same_shape from left right w a in
      let none : part_steps v.shape (left_of v.shape q) ≡ 0 = ap (λ (z : Bool). if z then 0 else 3) (lt-ltb (left_of v.shape q) (2 ^ v.shape.bits) low) in
      let low_right : right_of v.shape q < 2 ^ v.shape.bits = right_low v.shape q t.inner low in
      let at_w : (n : ℕ) → n < 2 ^ v.shape.bits → n < 2 ^ w.shape.bits = λ n x. subst (λ (z : Shape). n < 2 ^ z.bits) (sym shaped) x in
      let part_l = part_of_leaf parts_a parts_b laws_a laws_b w (left_of v.shape q) left left over.m over.a over.b kn (at_w (left_of v.shape q) low) over.left_part in
      let part_r = part_of_leaf parts_a parts_b laws_a laws_b w (right_of v.shape q) right right over.k over.a' over.b' kn (at_w (right_of v.shape q) low_right) over.right_part in
      let l = a.lefts in let self = goes_self both w kn in
      to_record both v q number from left right (over.m + over.k) _ _ (Right from left) old w w r ef over.five_are ec t a self (subst (Took w w) (let e : 0 ≡ 2 * part_steps v.shape (left_of v.shape q) = omega arith in e) (took_none w w refl))
      (says parts_a parts_b laws_a laws_b v l.first a.second w w w q from left right over.m over.k over.a over.a' over.b over.b' _ _ t.room.keeps_records t.inner few l.node.goes l.goes a.goes self self l.node.at_node l.at_left a.at_right part_l part_r refl refl)
    where
      right_low : (s : Shape) (p : ℕ) → IsInner s p → left_of s p < 2 ^ s.bits → right_of s p < 2 ^ s.bits
      right_low s p inner below = even s.bits (p - 2 ^ s.bits) below (let i = inner.inside in let t = twice s.bits in omega arith)

  -- the children are nodes: their parts, as their records' words tell
  module _ (from left right : ℕ) (words : List ℕ) (third : SeatView) (off : v.shape.reservations ≡ 0) (few : 2 ^ v.shape.bits ≤ 65536) (nodes : 2 ^ v.shape.bits ≤ left_of v.shape q) (inner : IsInner v.shape q) (a : AfterRight both v q from left right third) (all : AllWords left right words third) where
    kn_third : KnowsBook both third
    kn_third = (goes_right both v q from left right third a).knows_table

    off_third : third.shape.reservations ≡ 0
    off_third = ap (λ (z : Shape). z.reservations) (same_shape from left right third a) ∙ off

    few_third : 2 ^ third.shape.bits ≤ 65536
    few_third = subst (λ (z : Shape). 2 ^ z.bits ≤ 65536) (sym (same_shape from left right third a)) few

    inner_left : IsInner third.shape (left_of v.shape q)
    inner_left = subst (λ (z : Shape). IsInner z (left_of v.shape q)) (sym (same_shape from left right third a)) record { past_leaves = nodes; inside = inside_left inner }

    inner_right : IsInner third.shape (right_of v.shape q)
    inner_right = subst (λ (z : Shape). IsInner z (right_of v.shape q)) (sym (same_shape from left right third a))
        record { past_leaves = omega arith; inside = let past = inner.past_leaves in let inside = inner.inside in let t = twice v.shape.bits in omega arith }

    pub left_told : IsPartOf parts_a parts_b third (left_of v.shape q) left left (get_or words 0 0) (parts_a.from_word (get_or words 1 0)) (parts_b.from_word (get_or words 2 0))
    left_told = part_of_node parts_a parts_b laws_a laws_b third (left_of v.shape q) left left _ _ _ few_third kn_third inner_left (all.says 0 (omega arith)) (all.says 1 (omega arith)) (all.says 2 (omega arith))

    pub right_told : IsPartOf parts_a parts_b third (right_of v.shape q) right right (get_or words 3 0) (parts_a.from_word (get_or words 4 0)) (parts_b.from_word (get_or words 5 0))
    right_told = part_of_node parts_a parts_b laws_a laws_b third (right_of v.shape q) right right _ _ _ few_third kn_third inner_right (all.says 3 (omega arith)) (all.says 4 (omega arith)) (all.says 5 (omega arith))

    -- their counts are small
    pub counts_fit : get_or words 0 0 + get_or words 3 0 ≤ 131072
    counts_fit = let l = a.lefts in
        let e_l = has_entry both third.shape third.seen a.second.seen (left_of v.shape q) left a.goes.later l.at_left in
        let e_r = has_entry both third.shape third.seen third.seen (right_of v.shape q) right (book_refl third.seen) a.at_right in
        let x = part_few parts_a parts_b third.shape third (left_of v.shape q) left left _ _ _ refl few_third inner_left.inside kn_third e_l (held_plainly both third (left_of v.shape q) e_l.index left e_l.entry off_third kn_third e_l.at e_l.named) left_told in
        let y = part_few parts_a parts_b third.shape third (right_of v.shape q) right right _ _ _ refl few_third inner_right.inside kn_third e_r (held_plainly both third (right_of v.shape q) e_r.index right e_r.entry off_third kn_third e_r.at e_r.named) right_told in omega arith

    pub nodes_told : (number : ℕ) (point : Point) (old w : SeatView) (r : Filling) → r.from ≡ from → r.five ≡ five_over parts_a parts_b left right (λ k. get_or words k 0) → r.count ≡ 0 → TryAt both v q number point old → Goes both 0 [] third w → Took third w reading_words → TryAt both v q number (Record r) w
    nodes_told number point old w r ef e5 ec t goes took = let l = a.lefts in let self = goes_self both third kn_third in
        let three : part_steps v.shape (left_of v.shape q) ≡ 3 = ap (λ (z : Bool). if z then 0 else 3) (le-ltb (left_of v.shape q) (2 ^ v.shape.bits) nodes) in
        to_record both v q number from left right (get_or words 0 0 + get_or words 3 0) _ _ point old third w r ef e5 ec t a goes (subst (Took third w) (let e : reading_words ≡ 2 * part_steps v.shape (left_of v.shape q) = omega arith in e) took)
        (says parts_a parts_b laws_a laws_b v l.first a.second third third w q from left right _ _ _ _ _ _ _ _ off inner few l.node.goes l.goes a.goes self goes l.node.at_node l.at_left a.at_right left_told right_told refl refl)

  -- the record of the child whose word is next was seen
  pub child_guarded : (number : ℕ) (r : Reading) (old : SeatView) → TryAt both v q number (Part r) old → GuardsRecord old (child_at r.left r.right r.count)
  child_guarded number r old t = let a = t.is_at in let third = a.third in let loaded = a.loaded in
      let shaped = same_shape r.from r.left r.right third loaded in let off = ap (λ (z : Shape). z.reservations) shaped ∙ t.room.keeps_records in let kn = (goes_right both v q r.from r.left r.right third loaded).knows_table in
      let inner_l : IsInner third.shape (left_of v.shape q) = subst (λ (z : Shape). IsInner z (left_of v.shape q)) (sym shaped) record { past_leaves = a.nodes; inside = inside_left t.inner } in
      let inner_r : IsInner third.shape (right_of v.shape q) = subst (λ (z : Shape). IsInner z (right_of v.shape q)) (sym shaped)
      record { past_leaves = let n = a.nodes in omega arith; inside = let past = t.inner.past_leaves in let inside = t.inner.inside in let w = twice v.shape.bits in omega arith } in
      let e_l = has_entry both third.shape third.seen loaded.second.seen (left_of v.shape q) r.left loaded.goes.later loaded.lefts.at_left in
      let e_r = has_entry both third.shape third.seen third.seen (right_of v.shape q) r.right (book_refl third.seen) loaded.at_right in
      guards_looking r.count third old (child_at r.left r.right r.count) a.looks
      (either (ltb r.count 3) (guards_named both third (left_of v.shape q) r.left off kn inner_l e_l) (guards_named both third (right_of v.shape q) r.right off kn inner_r e_r))
    where
      either : (low : Bool) → GuardsRecord t.is_at.third r.left → GuardsRecord t.is_at.third r.right → GuardsRecord t.is_at.third (if low then r.left else r.right)
      either true x y = x
      either false x y = y

-- ---- a word of a child's record

module _ (f : ℕ → ℕ → List (ℕ × ℕ) → List ℕ) {v : SeatView} {q number : ℕ} {r : Reading} {old w : SeatView} {place field x : ℕ} (t : TryAt f v q number (Part r) old) (is_field : field ≡ field_after r.count) (is_place : place ≡ child_at r.left r.right r.count)
    (l : LoadsRecordWord old place field x w) where
  abbrev a : AfterWords f v q r old
  a = t.is_at

  abbrev words_now : List ℕ
  words_now = set r.words r.count x

  looks_now : Looks (r.count + 1) a.third w
  looks_now = looks_on r.count 1 (r.count + 1) a.third old w (omega arith) a.looks (looks_one old w _ l.stepped)

  took_now : Took a.third w (r.count + 1)
  took_now = took_on a.third old w r.count 1 (r.count + 1) refl a.took (took_one old w _ refl (ap (λ (z : SeatView). z.steps) l.stepped))

  pub goes_all : Goes f 0 [] a.third w
  goes_all = goes_looking f (r.count + 1) a.third w looks_now (goes_right f v q r.from r.left r.right a.third a.loaded).knows_table

  said : (k : ℕ) → k < r.count + 1 → Says a.third (child_at r.left r.right k) (field_after k) (get_or words_now k 0)
  said k low = ⊎_elim
      (λ (same : k ≡ r.count). subst (λ (z : ℕ). Says a.third (child_at r.left r.right z) (field_after z) (get_or words_now z 0)) (sym same)
      (subst (Says a.third (child_at r.left r.right r.count) (field_after r.count)) (sym (get_or-set_same r.words r.count x 0 (let six = a.six in let few = a.few in omega arith)))
      (subst (λ (z : ℕ × ℕ). Says a.third z.0 z.1 x) (λ i. (is_place i, is_field i)) (says_looking r.count a.third old place field x a.looks l.known))))
      (λ other. subst (Says a.third (child_at r.left r.right k) (field_after k)) (sym (get_or-set_other r.words r.count k x 0 other)) (a.says k (omega arith)))
      (cases_eq k r.count)

  -- there is another to load
  pub part_on : (next : Reading) → next ≡ record { from = r.from; left = r.left; right = r.right; words = words_now; count = r.count + 1 } → r.count + 1 < reading_words → TryAt f v q number (Part next) w
  part_on next is few = subst (λ (z : Reading). TryAt f v q number (Part z) w) (sym is) record {
    inner = t.inner;
    knows_table = t.knows_table;
    room = t.room;
    is_at = record { third = a.third; loaded = a.loaded; nodes = a.nodes; few = few; six = length-set r.words r.count x ∙ a.six; looks = looks_now; took = took_now; says = said };
  }

  -- all were loaded
  pub all_on : r.count + 1 ≡ reading_words → AllWords r.left r.right words_now a.third
  all_on full = record { says = λ k low. said k (omega arith) }

  pub took_all : r.count + 1 ≡ reading_words → Took a.third w reading_words
  took_all full = subst (Took a.third w) full took_now

-- ---- the own record

module _ {A B : Type 0} (parts_a : Parts A) (parts_b : Parts B) (v : SeatView) (q number : ℕ) (r : Filling) (old : SeatView) (t : TryAt (face parts_a parts_b) v q number (Record r) old) where
  abbrev f : ℕ → ℕ → List (ℕ × ℕ) → List ℕ
  f = face parts_a parts_b

  abbrev held : AfterStores f v q number r old
  held = t.is_at

  g_right : Goes f 0 [] v held.third
  g_right = goes_right f v q r.from (get_or r.five 0 0) (get_or r.five 1 0) held.third held.loaded

  g_told : Goes f 0 [] v held.told
  g_told = goes_on f 0 0 0 [] v held.third held.told (omega arith) (omega arith) g_right held.goes

  g_old : Goes f 0 [] v old
  g_old = goes_at f v q number (Record r) old t

  -- the record may be stored
  pub room_old : HasRoom old number 1
  room_old = room_on f [] v old number 1 g_old t.room

  pub may_store_word : MayStore old number
  may_store_word = may_store_room old number room_old

  pub knows_old : KnowsBook f old
  knows_old = g_old.knows_table

  -- one more word was stored
  pub record_on : (w : SeatView) (offset : ℕ) (next : Filling) → next ≡ record { from = r.from; five = r.five; count = r.count + 1 } → offset ≡ r.count → r.count + 1 ≤ record_words → w ≡ storing old (record_start old.shape number + offset) (get_or r.five r.count 0) → TryAt f v q number (Record next) w
  record_on w offset next is at few stored_is = subst (λ (z : Filling). TryAt f v q number (Record z) w) (sym is) record {
    inner = t.inner;
    knows_table = t.knows_table;
    room = t.room;
    is_at = record {
      third = held.third;
      loaded = held.loaded;
      told = held.told;
      goes = held.goes;
      took = held.took;
      says = held.says;
      few = few;
      five = held.five;
      stands = stored_is ∙ ap (λ (z : ℕ). storing old (record_start old.shape number + z) (get_or r.five r.count 0)) at ∙ ap (λ (z : SeatView). storing z (record_start z.shape number + r.count) (get_or r.five r.count 0)) held.stands
          ∙ ap (stored held.told number r.five) (sym (add-one r.count));
    };
  }

  -- all five were stored
  module _ (full : r.count ≡ record_words) where
    is_full : old ≡ stored held.told number r.five record_words
    is_full = held.stands ∙ ap (stored held.told number r.five) full

    room_told : HasRoom held.told number 1
    room_told = room_on f [] v held.told number 1 g_told t.room

    pub may_try : NamesOwn f old q r.from number
    may_try = names_plainly room_old.keeps_records may_store_word (subst (λ (z : SeatView). IsFilled f z q r.from 0 number) (sym is_full) (may_publish f held.told number r.five (may_store_room held.told number room_told) q r.from room_told.keeps_records held.says))

    -- and the node's word exchanged, or not
    pub try_over : (w : SeatView) (done : Bool) → TriedNode f old q r.from number done w → TryOver f v q number done w
    try_over w done told = let found : ℕ = told.found in let decided = told.decided in let tried = told_plainly room_old.keeps_records may_store_word told in let l = held.loaded.lefts in let first = l.first in let second = held.loaded.second in
        let gw = goes_tried f old w q r.from number number found done decided tried knows_old in
        let p = published f held.told number r.five (may_store_room held.told number room_told) w q r.from number found done (subst (λ (z : Shape). IsInner z q) (sym g_told.shaped) t.inner) (left_in parts_a parts_b) (right_in parts_a parts_b) decided
        (subst (λ (z : SeatView). TriesNode f z q r.from number number found w) is_full tried) in
        let g_filled : Goes f 0 [] held.told old = subst (Goes f 0 [] held.told) (sym held.stands) (goes_stored f held.told number r.five r.count g_told.knows_table) in
        let to_w = goes_on f 0 (number + 1) (number + 1) [] held.told old w (omega arith) (omega arith) g_filled gw in
        let n : ℕ = part_steps v.shape (left_of v.shape q) in
        let took_told = took_on v held.third held.told 3 (2 * n) (3 + 2 * n) refl (took_right f v q r.from (get_or r.five 0 0) (get_or r.five 1 0) held.third held.loaded) held.took in
        let took_old : Took held.told old record_words = subst (Took held.told old) full (subst (λ (z : SeatView). Took held.told z r.count) (sym held.stands) (took_stored f held.told number r.five r.count)) in record {
          goes = goes_on f 0 (number + 1) (number + 1) [] v old w (omega arith) (omega arith) g_old gw;
          took = took_on v old w (8 + 2 * n) 1 (try_steps n) (omega arith) (took_on v held.told old (3 + 2 * n) record_words (8 + 2 * n) (omega arith) took_told took_old) (took_one old w _ refl tried.stepped);
          tries = tries f v first second held.third held.told w q r.from (get_or r.five 0 0) (get_or r.five 1 0) number done t.inner g_told.shaped
              l.node.goes.later l.goes.later held.loaded.goes.later (book_trans held.goes.later to_w.later) l.node.at_node l.at_left held.loaded.at_right p
              (λ bad. own_again f old w q r.from number number found done decided tried knows_old bad (may_store_room old number room_old));
        }
