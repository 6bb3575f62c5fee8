-- The words of a table are filled node by node.

use Rattle.std.proofs.Common.{true, false, ◌≡◌, ℕ, zero, suc, ◌+◌, ◌-◌, ◌*◌, ◌%◌, ◌^◌, ◌<◌, ◌≤◌, ◌≢◌, ◌⊎◌, inl, inr, max, Bool, ◌||◌, eqb, eq-eqb, ne_eqb, leb, le-leb, le-ltb, lt-ltb, if◌then◌else◌, List, [], ◌∷◌, ◌++◌, length, get_or, set, take, replicate, All, refl, sym, ap, ◌∙◌, subst, ⊎_elim, arith, length-set, length-append, get_or-set_other, get_or-set_same}
use Rattle.aug_core.specs.Layout.{IsLayout}
use Rattle.std.proofs.lemmas.Bool.{cases_eq, cases_lt, lt-leb}
use Rattle.std.proofs.lemmas.List.{take_all, take_more, take-append-le, get_or-append_right, get_or_read}
use Rattle.std.proofs.lemmas.List.Elements.{All-filter, All-contains}
use Rattle.std.proofs.lemmas.List.Folds.{list_any_at, list_any-append}
use Rattle.std.specs.List.Sorted.{IsStrictlyIncreasing}
use Rattle.aug_monoid.specs.Fold.{fold_of}
use Rattle.aug_monoid.specs.inside.Laws.{IsMonoid}
use Rattle.aug_monoid.specs.Parts.{Parts}
use Rattle.aug_monoid.proofs.FoldLemmas.{fold_of-append, fold_of-is_proper}
use Rattle.aug_monoid.specs.Weighted.{FitsPair}
use Rattle.aug_model.specs.Keys.{is_member, keys_of, IsKeySet}
use Rattle.aug_model.specs.Queries.{range_of, weight_in}
use Rattle.aug_model.proofs.Membership.{is_member-iff_Contains}
use Rattle.aug_model.proofs.Pairs.{key_at, length-keys_of, keys_of-range, weight_at_place, weight_fits, weight-none}
use Rattle.aug_model.proofs.Ranges.{Rises, rises_from, all_below_from, count_few, range_le, range_of_key}
use Rattle.aug_core.specs.Places.{Shape, own_records, lane_place, record_start, word_count, level_start, record_words}
use Rattle.aug_core.specs.Addresses.{place_count, IsInner, left_of, right_of, level_of, place_on}
use Rattle.aug_core.specs.inside.WordPlaces.{IsWord}
use Rattle.aug_core.specs.Book.{word_of_leaf}
use Rattle.aug_core.specs.Opening.{Opening, opening_leaf_word, has_members, has_room, owns, own_before, number_at, opening_pairs, opening_number, opening_words, shared_words}
use Rattle.aug_model.specs.NodeKeys.{keys_below, pairs_below}
use Rattle.aug_core.specs.Faces.{face}
use Rattle.aug_core.proofs.FaceLemmas.{face_is}
use Rattle.aug_core.proofs.Sizes.{twice, own_more}
use Rattle.aug_core.proofs.Levels.{level_rises, room_above, above, inner_word, left_word, right_word}
use Rattle.aug_core.proofs.Below.{owns_some, owns_none, own_room, own_rises, number_own, number_shared, number_low, number_below, number_is, pairs_are, below_both, true_or_false, pairs_over, pairs_of_leaf, number_of_leaf}
use Rattle.aug_core.specs.Rule.{newcomer}
use Rattle.aug_core.specs.Eras.{Ruled, table_part}
use Rattle.aug_core.specs.Renewals.{IsOpened}
use Rattle.atomic_table.specs.Table.{opening}
use Rattle.aug_core.proofs.Renewals.{first_opening}
use Rattle.aug_words.specs.declared.building.Plan.{Plan}
use Rattle.aug_words.specs.inside.Builds.{IsPadded, laid_pairs, WritesFive, MarksMembers, IsMarked, next_own, IsOwn, HasRecord, IsReady, IsBuilt, IsNextNode}

-- ---- the members below a place

-- they and their weights have 32 bits
pub pairs_fit : (o : Opening) → All FitsPair o.members → (q : ℕ) → All FitsPair (opening_pairs o q)
pairs_fit o fit q = All-filter _ FitsPair o.members fit

-- as many pairs as keys
pub count_same : (o : Opening) (l p : ℕ) → length (pairs_below o.members l p) ≡ length (keys_below (keys_of o.members) l p)
count_same o l p = sym (length-keys_of (pairs_below o.members l p)) ∙ ap length (keys_of-range o.members (p * 2 ^ l) ((p + 1) * 2 ^ l))

module _ (o : Opening) (set : IsKeySet o.shape.bits (keys_of o.members)) where
  pub rises : Rises (keys_of o.members)
  rises = rises_from (keys_of o.members) set.rising

  -- no more than there are keys
  pub few_pairs : (q : ℕ) → length (opening_pairs o q) ≤ 2 ^ o.shape.bits
  few_pairs q = let all = count_few (2 ^ o.shape.bits) (keys_of o.members) rises (all_below_from (2 ^ o.shape.bits) (keys_of o.members) set.below) in let w : ℕ = 2 ^ level_of o.shape q in
      let some = range_le (keys_of o.members) (place_on o.shape q * w) ((place_on o.shape q + 1) * w) in let as_many = count_same o (level_of o.shape q) (place_on o.shape q) in omega arith

-- ---- the words of a record

module _ {A B : Type 0} (parts_a : Parts A) (parts_b : Parts B) where
  module _ (laws_a : IsMonoid parts_a) (laws_b : IsMonoid parts_b) (o : Opening) (set : IsKeySet o.shape.bits (keys_of o.members)) (fit : All FitsPair o.members) where
    -- what is read of a record that is ready
    pub a_read : (q : ℕ) → parts_a.from_word (parts_a.to_word (fold_of parts_a (opening_pairs o q))) ≡ fold_of parts_a (opening_pairs o q)
    a_read q = laws_a.round_trip _ (fold_of-is_proper laws_a (opening_pairs o q) (pairs_fit o fit q))

    pub b_read : (q : ℕ) → parts_b.from_word (parts_b.to_word (fold_of parts_b (opening_pairs o q))) ≡ fold_of parts_b (opening_pairs o q)
    b_read q = laws_b.round_trip _ (fold_of-is_proper laws_b (opening_pairs o q) (pairs_fit o fit q))

    -- what the children tell is what the record says
    pub five_are : (q n x y : ℕ) → IsInner o.shape q → n ≡ length (opening_pairs o (left_of o.shape q)) + length (opening_pairs o (right_of o.shape q))
        → x ≡ parts_a.to_word (parts_a.join (fold_of parts_a (opening_pairs o (left_of o.shape q))) (fold_of parts_a (opening_pairs o (right_of o.shape q))))
        → y ≡ parts_b.to_word (parts_b.join (fold_of parts_b (opening_pairs o (left_of o.shape q))) (fold_of parts_b (opening_pairs o (right_of o.shape q))))
        → opening_number o (left_of o.shape q) ∷ opening_number o (right_of o.shape q) ∷ n ∷ x ∷ y ∷ [] ≡ opening_words (face parts_a parts_b) o q
    five_are q n x y inner en ex ey =
        let ls : List (ℕ × ℕ) = opening_pairs o (left_of o.shape q) in let rs : List (ℕ × ℕ) = opening_pairs o (right_of o.shape q) in
        let fit_l = pairs_fit o fit (left_of o.shape q) in let fit_r = pairs_fit o fit (right_of o.shape q) in
        let is : opening_pairs o q ≡ ls ++ rs = pairs_over o (rises o set) q inner in
        face_is parts_a parts_b (opening_number o (left_of o.shape q)) (opening_number o (right_of o.shape q)) n x y (opening_pairs o q)
        (en ∙ sym (length-append ls rs) ∙ ap length (sym is))
        (ex ∙ ap parts_a.to_word (sym (fold_of-append laws_a ls rs fit_l fit_r)) ∙ ap (λ (z : List (ℕ × ℕ)). parts_a.to_word (fold_of parts_a z)) (sym is))
        (ey ∙ ap parts_b.to_word (sym (fold_of-append laws_b ls rs fit_l fit_r)) ∙ ap (λ (z : List (ℕ × ℕ)). parts_b.to_word (fold_of parts_b z)) (sym is))

-- ---- one node more

own_later : (o : Opening) (l p n : ℕ) → p ≤ n → own_before o l p ≤ own_before o l n
own_later o l p zero le = let e : p ≡ 0 = omega arith in let f = ap (own_before o l) e in omega arith
own_later o l p (suc n) le = ⊎_elim (λ (lt : p < suc n). let h = own_later o l p n (omega arith) in omega arith) (λ (ge : suc n ≤ p). let e : p ≡ suc n = omega arith in let f = ap (own_before o l) e in omega arith) (cases_lt p (suc n))

own_after : (o : Opening) (l p : ℕ) → owns o l p ≡ true → own_before o l (suc p) ≡ own_before o l p + 1
own_after o l p has = ap (λ (z : Bool). own_before o l p + (if z then 1 else 0)) has

-- a node's own record has a greater number than those of all nodes before it
pub number_rises : (o : Opening) → Rises (keys_of o.members) → length (keys_of o.members) ≤ o.shape.members → (q r l p k n : ℕ) → IsWord o.shape (suc l) p q → IsWord o.shape (suc k) n r → q < r → owns o (suc k) n ≡ true → number_at o (suc l) p < number_at o (suc k) n
number_rises o up fit q r l p k n a b lt has = let e = number_own o k n has in let low_a = a.level_fits in let low_b = b.level_fits in ⊎_elim
    (λ own. let f = number_own o l p own in let room = own_room o up fit (suc l) p a.place_fits own in ⊎_elim
    (λ (below : l < k). let u = own_rises o.shape.bits o.shape.members (suc l) k (omega arith) in let m = own_more o.shape.bits o.shape.members l in omega arith)
    (λ (level : k ≤ l). ⊎_elim
    (λ (higher : k < l). let w = level_rises o.shape (suc k) (suc l) (omega arith) low_a in let x = a.is in let y = b.is in let z = b.place_fits in absurd (omega arith))
    (λ (lower : l ≤ k). let same : l ≡ k = omega arith in let x = a.is in let y = b.is in let g : level_start o.shape (suc l) ≡ level_start o.shape (suc k) = ap (λ (z : ℕ). level_start o.shape (suc z)) same in
    let before = own_later o (suc l) (suc p) n (omega arith) in let step = own_after o (suc l) p own in let h : own_before o (suc l) n ≡ own_before o (suc k) n = ap (λ (z : ℕ). own_before o (suc z) n) same in
    let i : own_records o.shape.bits o.shape.members l ≡ own_records o.shape.bits o.shape.members k = ap (own_records o.shape.bits o.shape.members) same in omega arith) (cases_lt k l)) (cases_lt l k))
    (λ none. let f = number_shared o l p none in omega arith) (true_or_false (owns o (suc l) p))

-- where no member is below a node, none is below its children
no_keys : (o : Opening) (l p : ℕ) → has_members o l p ≡ false → length (keys_below (keys_of o.members) l p) ≡ 0
no_keys o l p none = ⊎_elim (λ (lt : 0 < length (keys_below (keys_of o.members) l p)). let clash : false ≡ true = sym none ∙ lt-ltb 0 (length (keys_below (keys_of o.members) l p)) lt in cc) (λ (z : length (keys_below (keys_of o.members) l p) ≤ 0). omega arith) (cases_lt 0 (length (keys_below (keys_of o.members) l p)))

pub none_there : (o : Opening) (l p : ℕ) → length (keys_below (keys_of o.members) l p) ≡ 0 → has_members o l p ≡ false
none_there o l p none = le-ltb 0 (length (keys_below (keys_of o.members) l p)) (omega arith)

pub has_there : (o : Opening) (l p : ℕ) → 0 < length (keys_below (keys_of o.members) l p) → has_members o l p ≡ true
has_there o l p lt = lt-ltb 0 (length (keys_below (keys_of o.members) l p)) lt

some_keys : (o : Opening) (l p : ℕ) → has_members o l p ≡ true → 0 < length (keys_below (keys_of o.members) l p)
some_keys o l p some = ⊎_elim (λ (lt : 0 < length (keys_below (keys_of o.members) l p)). lt) (λ (z : length (keys_below (keys_of o.members) l p) ≤ 0). let clash : true ≡ false = sym some ∙ le-ltb 0 (length (keys_below (keys_of o.members) l p)) z in cc)
    (cases_lt 0 (length (keys_below (keys_of o.members) l p)))

no_pairs : (pairs : List (ℕ × ℕ)) → length pairs ≡ 0 → pairs ≡ []
no_pairs [] none = refl
no_pairs (p ∷ ps) none = absurd (omega arith)

-- the members at a leaf
below_leaf : (o : Opening) → Rises (keys_of o.members) → (p : ℕ) → keys_below (keys_of o.members) 0 p ≡ (if is_member (keys_of o.members) p then p ∷ [] else [])
below_leaf o up p = (let e : p * 1 ≡ p = omega arith in let f : (p + 1) * 1 ≡ p + 1 = omega arith in λ i. range_of (keys_of o.members) (e i) (f i)) ∙ range_of_key (keys_of o.members) p up

-- a leaf without a member has the word 0
leaf_word : (members : List (ℕ × ℕ)) (key : ℕ) → (if is_member (keys_of members) key then opening_leaf_word members key else 0) ≡ opening_leaf_word members key
leaf_word members key = either (is_member (keys_of members) key) (weight-none members key)
  where
    either : (b : Bool) → (b ≡ false → weight_in members key ≡ 0)
        → (if b then word_of_leaf (if b then 1 else 0) (weight_in members key) else 0) ≡ word_of_leaf (if b then 1 else 0) (weight_in members key)
    either true weighs = refl
    either false weighs = let zero_weight = weighs refl in omega arith

-- the word of a place with no members below, in a table without room for all keys
number_none : (o : Opening) → has_room o ≡ false → Rises (keys_of o.members) → (l p : ℕ) → length (keys_below (keys_of o.members) l p) ≡ 0 → number_at o l p ≡ l - 1
number_none o no_room up zero p none = leaf_none (is_member (keys_of o.members) p) (let e = ap length (below_leaf o up p) in omega arith) (weight-none o.members p)
  where
    leaf_none : (b : Bool) → length (if b then p ∷ [] else []) ≡ 0 → (b ≡ false → weight_in o.members p ≡ 0) → word_of_leaf (if b then 1 else 0) (weight_in o.members p) ≡ 0 - 1
    leaf_none true e weighs = absurd (omega arith)
    leaf_none false e weighs = let zero_weight = weighs refl in omega arith
number_none o no_room up (suc l) p none = number_shared o l p (owns_some o (suc l) p no_room ∙ none_there o (suc l) p none) ∙ (let e : l ≡ suc l - 1 = omega arith in e)

-- a word tells whether there are members below: a leaf's by having a serial, and a node's by being no number of a shared record
pub number_tells : (o : Opening) → has_room o ≡ false → Rises (keys_of o.members) → (l p least : ℕ) → l ≤ o.shape.bits → (l ≡ 0 → least ≡ 2 ^ 32) → (l ≢ 0 → least ≡ o.shape.bits)
    → ((0 < length (keys_below (keys_of o.members) l p)) × (least ≤ number_at o l p)) ⊎ ((length (keys_below (keys_of o.members) l p) ≡ 0) × (number_at o l p < least))
number_tells o no_room up zero p least few leaf node = of_leaf (is_member (keys_of o.members) p) (below_leaf o up p) refl (weight-none o.members p)
  where
    of_leaf : (b : Bool) → keys_below (keys_of o.members) 0 p ≡ (if b then p ∷ [] else []) → number_at o 0 p ≡ word_of_leaf (if b then 1 else 0) (weight_in o.members p) → (b ≡ false → weight_in o.members p ≡ 0)
        → ((0 < length (keys_below (keys_of o.members) 0 p)) × (least ≤ number_at o 0 p)) ⊎ ((length (keys_below (keys_of o.members) 0 p) ≡ 0) × (number_at o 0 p < least))
    of_leaf true is e weighs = let serial = leaf refl in let n = ap length is in inl (omega arith, omega arith)
    of_leaf false is e weighs = let serial = leaf refl in let n = ap length is in let zero_weight = weighs refl in inr (omega arith, omega arith)
number_tells o no_room up (suc l) p least few leaf node = let is : least ≡ o.shape.bits = node (λ e. omega arith) in ⊎_elim
    (λ some. let e = number_own o l p some in inl (some_keys o (suc l) p (sym (owns_some o (suc l) p no_room) ∙ some), omega arith))
    (λ none. let e = number_shared o l p none in inr (no_keys o (suc l) p (sym (owns_some o (suc l) p no_room) ∙ none), omega arith)) (true_or_false (owns o (suc l) p))

-- a node has members below where the greater of its children's words tells so, in a table without room for all keys
pub has_by_children : (o : Opening) → has_room o ≡ false → Rises (keys_of o.members) → (l p least x y : ℕ) → suc l ≤ o.shape.bits → (l ≡ 0 → least ≡ 2 ^ 32) → (l ≢ 0 → least ≡ o.shape.bits)
    → x ≡ number_at o l (2 * p) → y ≡ number_at o l (2 * p + 1) → leb least (max x y) ≡ has_members o (suc l) p
has_by_children o no_room up l p least x y few leaf node ex ey =
    let both = ap length (below_both o up l p) in let sum = length-append (keys_below (keys_of o.members) l (2 * p)) (keys_below (keys_of o.members) l (2 * p + 1)) in ⊎_elim
    (λ left. le-leb least (max x y) (omega (arith, left.1, ex)) ∙ sym (has_there o (suc l) p (omega (arith, left.0, both, sum))))
    (λ left. ⊎_elim
    (λ right. le-leb least (max x y) (omega (arith, right.1, ey)) ∙ sym (has_there o (suc l) p (omega (arith, right.0, both, sum))))
    (λ right. lt-leb least (max x y) (omega (arith, left.1, right.1, ex, ey)) ∙ sym (none_there o (suc l) p (omega (arith, left.0, right.0, both, sum))))
    (number_tells o no_room up l (2 * p + 1) least (omega arith) leaf node)) (number_tells o no_room up l (2 * p) least (omega arith) leaf node)

module _ (face : ℕ → ℕ → List (ℕ × ℕ) → List ℕ) (o : Opening) (up : Rises (keys_of o.members)) where
  -- the record that a level's nodes share is that of each without one of its own
  pub shared_is : (q l p : ℕ) → IsWord o.shape (suc l) p q → owns o (suc l) p ≡ false → shared_words face l ≡ opening_words face o q
  shared_is q l p a none = let neither = owns_none o (suc l) p none in let zero_all = no_keys o (suc l) p neither.1 in
      let split = ap length (below_both o up l p) in let sum = length-append (keys_below (keys_of o.members) l (2 * p)) (keys_below (keys_of o.members) l (2 * p + 1)) in
      let left = number_is o (left_of o.shape q) l (2 * p) (left_word o.shape l p q a) ∙ number_none o neither.0 up l (2 * p) (omega arith) in
      let right = number_is o (right_of o.shape q) l (2 * p + 1) (right_word o.shape l p q a) ∙ number_none o neither.0 up l (2 * p + 1) (omega arith) in
      let pairs = pairs_are o q (suc l) p a ∙ no_pairs (pairs_below o.members (suc l) p) (count_same o (suc l) p ∙ zero_all) in
      λ i. face (sym left i) (sym right i) (sym pairs i)

  -- one node more, whose record is there
  pub node_more : (q n : ℕ) (words : List ℕ) → IsInner o.shape q → n ≡ opening_number o q → IsBuilt face o o.shape.bits q words → HasRecord face o words q → IsBuilt face o o.shape.bits (q + 1) (set words q n)
  node_more q n words inner is built has =
      let t = twice o.shape.bits in let inside = inner.inside in let past = inner.past_leaves in
      let stays : (i : ℕ) → i ≢ q → get_or (set words q n) i 0 ≡ get_or words i 0 = λ i ne. get_or-set_other words q i n 0 ne in record {
        long = length-set words q n ∙ built.long;
        named = λ r low. ⊎_elim
            (λ same. subst (λ (z : ℕ). get_or (set words q n) z 0 ≡ opening_number o z) (sym same) (get_or-set_same words q n 0 (let w = built.long in omega arith) ∙ is))
            (λ other. stays r other ∙ built.named r (omega arith)) (cases_eq r q);
        shared = λ level low k small. stays (record_start o.shape level + k) (λ e. omega arith) ∙ built.shared level low k small;
        records = λ r past' low k small. stays (record_start o.shape (opening_number o r) + k) (λ e. omega arith) ∙ ⊎_elim
            (λ same. subst (HasRecord face o words) (sym same) has k small)
            (λ other. built.records r past' (omega arith) k small) (cases_eq r q);
        idle = λ number k unused small. stays (record_start o.shape number + k) (λ e. omega arith) ∙ built.idle number k unused small;
        lanes = λ lane low. stays (lane_place o.shape lane) (λ e. omega arith) ∙ built.lanes lane low;
        blank = λ i high. stays i (λ e. omega arith) ∙ built.blank i high;
      }

  -- a node without one of its own has the record that its level shares
  pub node_shared : (q l p : ℕ) (words : List ℕ) → IsWord o.shape (suc l) p q → owns o (suc l) p ≡ false → IsBuilt face o o.shape.bits q words → IsBuilt face o o.shape.bits (q + 1) (set words q l)
  node_shared q l p words a none built = let e : opening_number o q ≡ l = number_is o q (suc l) p a ∙ number_shared o l p none in node_more q l words (inner_word o.shape l p q a) (sym e) built
      (λ k small. ap (λ (z : ℕ). get_or words (record_start o.shape z + k) 0) e ∙ built.shared l (let up = a.level_fits in omega arith) k small ∙ ap (λ (z : List ℕ). get_or z k 0) (shared_is q l p a none))

  -- and any other has one of its own
  pub node_own : length (keys_of o.members) ≤ o.shape.members → (q l p n : ℕ) (old mid five : List ℕ) → IsWord o.shape (suc l) p q → owns o (suc l) p ≡ true → IsBuilt face o o.shape.bits q old → n ≡ number_at o (suc l) p
      → WritesFive old mid (record_start o.shape n) five → five ≡ opening_words face o q → IsBuilt face o o.shape.bits (q + 1) (set mid q n)
  node_own fit q l p n old mid five a has built is writes words = let inner = inner_word o.shape l p q a in let inside = inner.inside in let t = twice o.shape.bits in let past = inner.past_leaves in
      let e : opening_number o q ≡ n = number_is o q (suc l) p a ∙ sym is in let low = number_low o up fit l p a.level_fits a.place_fits in let own = number_own o l p has in
      node_more q n mid inner (sym e) record {
        long = writes.long ∙ built.long;
        named = λ r before. writes.before r (omega arith) ∙ built.named r before;
        shared = λ level small k few. writes.before (record_start o.shape level + k) (omega arith) ∙ built.shared level small k few;
        records = λ r past' before k small. let b = above o.shape r record { past_leaves = past'; inside = omega arith } in let g = number_is o r (suc b.level) b.place b.here in
            let later = number_rises o up fit r q b.level b.place l p b.here a before has in writes.before (record_start o.shape (opening_number o r) + k) (omega arith) ∙ built.records r past' before k small;
        idle = λ number k unused small. ⊎_elim
            (λ (lt : number < n). writes.before (record_start o.shape number + k) (omega arith) ∙ built.idle number k unused small)
            (λ (ge : n ≤ number). writes.behind (record_start o.shape number + k) (let other : n ≢ number = λ same. unused.unnamed q inner (e ∙ same) in omega (arith, other, ge)) ∙ built.idle number k unused small)
            (cases_lt number n);
        lanes = λ lane small. writes.before (lane_place o.shape lane) (omega arith) ∙ built.lanes lane small;
        blank = λ i high. writes.behind i (omega arith) ∙ built.blank i high;
      } (λ k small. ap (λ (z : ℕ). get_or mid (record_start o.shape z + k) 0) e ∙ writes.written k small ∙ ap (λ (z : List ℕ). get_or z k 0) words)

  -- one shared record more
  pub shared_more : (l : ℕ) (old new five : List ℕ) → l < o.shape.bits → IsBuilt face o l (2 ^ o.shape.bits) old → WritesFive old new (record_start o.shape l) five → five ≡ shared_words face l → IsBuilt face o (l + 1) (2 ^ o.shape.bits) new
  shared_more l old new five few built writes is = let t = twice o.shape.bits in record {
    long = writes.long ∙ built.long;
    named = λ q low. writes.before q (omega arith) ∙ built.named q low;
    shared = λ i low k small. ⊎_elim
        (λ same. subst (λ (z : ℕ). get_or new (record_start o.shape z + k) 0 ≡ get_or (shared_words face z) k 0) (sym same) (writes.written k small ∙ ap (λ (z : List ℕ). get_or z k 0) is))
        (λ other. writes.before (record_start o.shape i + k) (omega arith) ∙ built.shared i (omega arith) k small) (cases_eq i l);
    records = λ q past low. absurd (omega arith);
    idle = λ number k unused small. let own = unused.own in writes.behind (record_start o.shape number + k) (omega arith) ∙ built.idle number k unused small;
    lanes = λ lane low. writes.before (lane_place o.shape lane) (omega arith) ∙ built.lanes lane low;
    blank = λ i high. writes.behind i (omega arith) ∙ built.blank i high;
  }

  -- the members' leaves are set
  pub built_none : (words : List ℕ) → ((key : ℕ) → is_member (keys_of o.members) key ≡ true → key < 2 ^ o.shape.bits) → IsMarked o.shape o.members words → IsBuilt face o 0 (2 ^ o.shape.bits) words
  built_none words below marks =
      let t = twice o.shape.bits in
      let free : (i : ℕ) → 2 ^ o.shape.bits ≤ i → get_or words i 0 ≡ 0 = λ i past. marks.marked i ∙ unmarked (is_member (keys_of o.members) i) (opening_leaf_word o.members i) (λ e. let low = below i e in absurd (omega arith)) in record {
        long = marks.long;
        named = λ q low. marks.marked q ∙ leaf_word o.members q ∙ sym (number_of_leaf o q low);
        shared = λ i none. absurd (omega arith);
        records = λ q past low. absurd (omega arith);
        idle = λ number k unused small. free (record_start o.shape number + k) (omega arith);
        lanes = λ lane low. free (lane_place o.shape lane) (omega arith);
        blank = λ i high. free i (omega arith);
      }
    where
      unmarked : (b : Bool) (x : ℕ) → (b ≡ true → ⊥) → (if b then x else 0) ≡ 0
      unmarked true x ne = absurd (ne refl)
      unmarked false x ne = refl

-- ---- the members

-- the words of the first members' leaves are set, and all others as they were
pub record MarksFirst (old new : List ℕ) (members : List (ℕ × ℕ)) (n : ℕ) : Type 0 where
  pub marked : (i : ℕ) → get_or new i 0 ≡ (if is_member (take n (keys_of members)) i then opening_leaf_word members i else get_or old i 0)
  pub long : length new ≡ length old

-- the word of a member's leaf
pub member_word : (members : List (ℕ × ℕ)) (i : ℕ) → IsStrictlyIncreasing (keys_of members) → i < length members → opening_leaf_word members (get_or members i (0, 0)).0 ≡ 2 ^ 32 + (get_or members i (0, 0)).1
member_word members i up low =
    let key : ℕ = (get_or members i (0, 0)).0 in let weighs = weight_at_place members i up low in
    let there : is_member (keys_of members) key ≡ true = list_any_at (λ x. eqb x key) (keys_of members) i 0 (let long = length-keys_of members in omega arith) (eq-eqb _ key (key_at members i (0, 0) low)) in
    ap (λ (z : Bool). word_of_leaf (if z then 1 else 0) (weight_in members key)) there ∙ (let is : 1 * 2 ^ 32 + weight_in members key ≡ 2 ^ 32 + (get_or members i (0, 0)).1 = omega arith in is)

-- one member more is marked
pub marks_more : (old words : List ℕ) (members : List (ℕ × ℕ)) (i word : ℕ) → IsStrictlyIncreasing (keys_of members) → i < length members → get_or (keys_of members) i 0 < length old
    → word ≡ 2 ^ 32 + (get_or members i (0, 0)).1 → MarksFirst old words members i → MarksFirst old (set words (get_or members i (0, 0)).0 word) members (i + 1)
marks_more old words members i word up low inside is marks =
    let k : ℕ = (get_or members i (0, 0)).0 in let l = marks.long in let at : get_or (keys_of members) i 0 ≡ k = key_at members i (0, 0) low in
    let more : (j : ℕ) → is_member (take (i + 1) (keys_of members)) j ≡ (is_member (take i (keys_of members)) j || (eqb k j || false)) = λ j.
    ap (λ (z : List ℕ). is_member z j) (take_more (keys_of members) i 0 (let long = length-keys_of members in omega arith)) ∙ list_any-append (λ x. eqb x j) (take i (keys_of members)) (get_or (keys_of members) i 0 ∷ [])
    ∙ ap (λ (z : ℕ). is_member (take i (keys_of members)) j || (eqb z j || false)) at in record {
      marked = λ j. ⊎_elim
          (λ (same : k ≡ j). subst (λ (z : ℕ). get_or (set words k word) z 0 ≡ opening_leaf_word members z) same (get_or-set_same words k word 0 (omega arith) ∙ is ∙ sym (member_word members i up low))
          ∙ sym (ap (λ (z : Bool). if z then opening_leaf_word members j else get_or old j 0) (more j ∙ ap (λ (z : Bool). is_member (take i (keys_of members)) j || (z || false)) (eq-eqb k j same) ∙ or_true (is_member (take i (keys_of members)) j))))
          (λ (other : k ≢ j). get_or-set_other words k j word 0 (λ e. other (sym e)) ∙ marks.marked j
          ∙ sym (ap (λ (z : Bool). if z then opening_leaf_word members j else get_or old j 0) (more j ∙ ap (λ (z : Bool). is_member (take i (keys_of members)) j || (z || false)) (ne_eqb k j other) ∙ or_no (is_member (take i (keys_of members)) j)))) (cases_eq k j);
      long = length-set words k word ∙ marks.long;
    }
  where
    or_true : (b : Bool) → (b || true) ≡ true
    or_true true = refl
    or_true false = refl

    or_no : (b : Bool) → (b || false) ≡ b
    or_no true = refl
    or_no false = refl

-- and then all are
pub marks_all : (old words : List ℕ) (members : List (ℕ × ℕ)) (n : ℕ) → length members ≤ n → MarksFirst old words members n → MarksMembers old words members
marks_all old words members n past marks = let all : take n (keys_of members) ≡ keys_of members = take_all n (keys_of members) (let long = length-keys_of members in omega arith) in record {
  marked = λ i. marks.marked i ∙ ap (λ (z : List ℕ). if is_member z i then opening_leaf_word members i else get_or old i 0) all;
  long = marks.long;
}

-- a member is a key
pub members_below_keys : (s : Shape) (members : List ℕ) → IsKeySet s.bits members → (key : ℕ) → is_member members key ≡ true → key < 2 ^ s.bits
members_below_keys s members set key e = All-contains (λ k. k < 2 ^ s.bits) members key set.below ((is_member-iff_Contains members key).0 e)

-- the leaves of the members are words of the table
pub members_inside : (s : Shape) (members : List (ℕ × ℕ)) → IsKeySet s.bits (keys_of members) → (i : ℕ) → i < length members → get_or (keys_of members) i 0 < word_count s
members_inside s members set i low = let long = length-keys_of members in let key : get_or (keys_of members) i 0 < 2 ^ s.bits = set.below i 0 (omega arith) in let t = twice s.bits in omega arith

-- ---- for the answers

-- a place below the nodes that are built is ready
pub built_ready : (face : ℕ → ℕ → List (ℕ × ℕ) → List ℕ) (o : Opening) (levels done q : ℕ) (words : List ℕ) → IsBuilt face o levels done words → q < done → q < place_count o.shape → IsReady face o words q
built_ready face o levels done q words built low inside = record { inside = inside; long = built.long; word = built.named q low; node = λ past. built.records q past low }

-- a word that is read of a node that is ready
pub ready_word : (face : ℕ → ℕ → List (ℕ × ℕ) → List ℕ) (o : Opening) (words : List ℕ) (q k x start leaves : ℕ) → IsReady face o words q → leaves ≤ q → k < record_words → leaves ≡ 2 ^ o.shape.bits
    → start ≡ record_start o.shape (opening_number o q) → start + record_words ≤ length words → x ≡ get_or words (start + k) x → x ≡ get_or (opening_words face o q) k 0
ready_word face o words q k x start leaves ready past small begin first inside is =
    let at : start + k ≡ record_start o.shape (opening_number o q) + k = omega arith in
    get_or_read words (start + k) x (omega arith) is 0 ∙ ap (λ (i : ℕ). get_or words i 0) at ∙ ready.node (omega arith) k small

-- the word of a place that is ready
pub ready_number : (face : ℕ → ℕ → List (ℕ × ℕ) → List ℕ) (o : Opening) (words : List ℕ) (q x : ℕ) → IsReady face o words q → x ≡ get_or words q x → x ≡ opening_number o q
ready_number face o words q x ready is = let t = twice o.shape.bits in let long = ready.long in let inside = ready.inside in get_or_read words q x (omega arith) is 0 ∙ ready.word

-- the record of a node that is ready lies in the table
pub record_inside_words : (face : ℕ → ℕ → List (ℕ × ℕ) → List ℕ) (o : Opening) (words : List ℕ) (q : ℕ) → Rises (keys_of o.members) → length (keys_of o.members) ≤ o.shape.members → IsReady face o words q → 2 ^ o.shape.bits ≤ q → record_start o.shape (opening_number o q) + record_words ≤ length words
record_inside_words face o words q up fit ready past = let long = ready.long in let low = number_below o up fit q record { past_leaves = past; inside = ready.inside } in omega arith

-- the pairs below a leaf, by its word
pub leaf_there : (o : Opening) → Rises (keys_of o.members) → All FitsPair o.members → (q x : ℕ) → q < 2 ^ o.shape.bits → x ≡ opening_number o q → 2 ^ 32 ≤ x → opening_pairs o q ≡ (q, x % 2 ^ 32) ∷ []
leaf_there o up fit q x low is some = pairs_of_leaf o up q low ∙ there (is_member (keys_of o.members) q) (is ∙ number_of_leaf o q low)
  where
    weight : weight_in o.members q < 2 ^ 32
    weight = weight_fits o.members q fit

    there : (b : Bool) → x ≡ word_of_leaf (if b then 1 else 0) (weight_in o.members q) → ◌≡◌ {A = List (ℕ × ℕ)} (if b then (q, weight_in o.members q) ∷ [] else []) ((q, x % 2 ^ 32) ∷ [])
    there true e = let w = weight in let same : weight_in o.members q ≡ x % 2 ^ 32 = omega arith in ap (λ (z : ℕ). (q, z) ∷ []) same
    there false e = let w = weight in absurd (omega arith)

pub leaf_not : (o : Opening) → Rises (keys_of o.members) → (q x : ℕ) → q < 2 ^ o.shape.bits → x ≡ opening_number o q → x < 2 ^ 32 → opening_pairs o q ≡ []
leaf_not o up q x low is none = pairs_of_leaf o up q low ∙ not_there (is_member (keys_of o.members) q) (is ∙ number_of_leaf o q low)
  where
    not_there : (b : Bool) → x ≡ word_of_leaf (if b then 1 else 0) (weight_in o.members q) → ◌≡◌ {A = List (ℕ × ℕ)} (if b then (q, weight_in o.members q) ∷ [] else []) []
    not_there true e = absurd (omega arith)
    not_there false e = refl

-- the node at a place on a level, the lowest level of nodes counted as 0
pub node_here : (s : Shape) (level place : ℕ) → level < s.bits → place < 2 ^ (s.bits - 1 - level) → IsWord s (suc level) place (level_start s (suc level) + place)
node_here s level place few room = let e : s.bits - 1 - level ≡ s.bits - suc level = omega arith in let f : 2 ^ (s.bits - 1 - level) ≡ 2 ^ (s.bits - suc level) = ap (λ (z : ℕ). 2 ^ z) e in
    record { level_fits = omega arith; place_fits = omega arith; is = refl }

-- the next node, in the numbers of the code: where it lies, and its children, which are ready
pub record NextNode (face : ℕ → ℕ → List (ℕ × ℕ) → List ℕ) (p : Plan) (level place node : ℕ) (words : List ℕ) : Type 0 where
  pub is : node ≡ level_start p.key.shape (suc level) + place
  pub on : IsWord p.key.shape (suc level) place node
  pub inner : IsInner p.key.shape node
  pub past : p.leaves ≤ node
  pub inside : node < length words
  pub left_at : 2 * (node - p.leaves) ≡ left_of p.key.shape node
  pub right_at : 2 * (node - p.leaves) + 1 ≡ right_of p.key.shape node
  pub left_ready : IsReady face p.key words (2 * (node - p.leaves))
  pub right_ready : IsReady face p.key words (2 * (node - p.leaves) + 1)
  pub left_number : opening_number p.key (2 * (node - p.leaves)) ≡ number_at p.key level (2 * place)
  pub right_number : opening_number p.key (2 * (node - p.leaves) + 1) ≡ number_at p.key level (2 * place + 1)

pub next_node : (face : ℕ → ℕ → List (ℕ × ℕ) → List ℕ) (p : Plan) (level first place : ℕ) (words : List ℕ) → IsNextNode face p.key level first place words → NextNode face p level place (first + place) words
next_node face p level first place words n =
    let o : Opening = p.key in let s : Shape = o.shape in let node : ℕ = first + place in let done : ℕ = level_start s (suc level) + place in
    let begins = n.begins in let is : node ≡ done = omega arith in let on = subst (λ (z : ℕ). IsWord s (suc level) place z) (sym is) (node_here s level place n.up n.room) in
    let inner = inner_word s level place node on in let past = inner.past_leaves in let inside = inner.inside in let t = twice s.bits in let long = n.built.long in let leaves = p.leaves_are in
    let left_at : 2 * (node - p.leaves) ≡ left_of s node = omega arith in let right_at : 2 * (node - p.leaves) + 1 ≡ right_of s node = omega arith in record {
      is = is;
      on = on;
      inner = inner;
      past = omega arith;
      inside = omega arith;
      left_at = left_at;
      right_at = right_at;
      left_ready = built_ready face o s.bits done (2 * (node - p.leaves)) words n.built (omega arith) (omega arith);
      right_ready = built_ready face o s.bits done (2 * (node - p.leaves) + 1) words n.built (omega arith) (omega arith);
      left_number = ap (opening_number o) left_at ∙ number_is o (left_of s node) level (2 * place) (left_word s level place node on);
      right_number = ap (opening_number o) right_at ∙ number_is o (right_of s node) level (2 * place + 1) (right_word s level place node on);
    }

-- there are no more keys than members that the table is laid out for
pub few_keys : (p : Plan) → length (keys_of p.key.members) ≤ p.key.shape.members
few_keys p = let fit = p.fit in let long = length-keys_of p.key.members in omega arith

-- a node's own record is one of the table's
pub own_inside : (p : Plan) (level place node next : ℕ) (words : List ℕ) → IsWord p.key.shape (suc level) place node → IsOwn p.key level place → next ≡ next_own p.key level place → length words ≡ word_count p.key.shape
    → (p.records + record_words * next + record_words ≤ length words) × (length words ≤ 2 ^ 26)
own_inside p level place node next words on own is long =
    let low = number_low p.key (rises p.key p.key_set) (few_keys p) level place on.level_fits on.place_fits in let number = number_own p.key level place own in let begin = p.records_are in let most = p.laid_out.words in (omega arith, omega arith)

-- the next level begins behind
pub next_level : (s : Shape) (level : ℕ) → level < s.bits → level_start s (suc level) + 2 ^ (s.bits - 1 - level) ≡ level_start s (suc (level + 1))
next_level s level few = let r = room_above s level (omega arith) in let r0 = r.0 in let r1 = r.1 in let r3 = r.3 in
    let e : s.bits - 1 - level ≡ s.bits - suc level = omega arith in let f : 2 ^ (s.bits - 1 - level) ≡ 2 ^ (s.bits - suc level) = ap (λ (z : ℕ). 2 ^ z) e in
    let g : suc s.bits - suc (level + 1) ≡ s.bits - suc level = omega arith in let k : 2 ^ (suc s.bits - suc (level + 1)) ≡ 2 ^ (s.bits - suc level) = ap (λ (z : ℕ). 2 ^ z) g in omega arith

pub first_nodes : (s : Shape) → level_start s (suc 0) ≡ 2 ^ s.bits
first_nodes s = let g : suc s.bits - suc 0 ≡ s.bits = omega arith in let k : 2 ^ (suc s.bits - suc 0) ≡ 2 ^ s.bits = ap (λ (z : ℕ). 2 ^ z) g in omega arith

pub last_nodes : (s : Shape) → level_start s (suc s.bits) ≡ place_count s
last_nodes s = let g : suc s.bits - suc s.bits ≡ 0 = omega arith in let k : 2 ^ (suc s.bits - suc s.bits) ≡ 1 = ap (λ (z : ℕ). 2 ^ z) g in let t = twice s.bits in omega arith

-- the words open a table when all nodes are built
pub built_is_opened : (face : ℕ → ℕ → List (ℕ × ℕ) → List ℕ) (o : Opening) (words : List ℕ) → IsKeySet o.shape.bits (keys_of o.members) → All FitsPair o.members → length (keys_of o.members) ≤ o.shape.members → (o.shape.reservations ≡ 0) ⊎ (2 ^ o.shape.bits ≤ o.shape.members) → IsLayout o.shape
    → IsBuilt face o o.shape.bits (place_count o.shape) words → IsOpened face o words
built_is_opened face o words set fit few room laid_out built = record {
  key_set = set;
  members_fit = fit;
  few = few;
  room = room;
  numbers = λ used. let most = laid_out.words in omega arith;
  wide = built.long;
  named = built.named;
  records = λ q k inner small. built.records q inner.past_leaves inner.inside k small;
  shared = λ level k low small. built.shared level low k small;
  idle = built.idle;
  lanes = built.lanes;
}

-- and the rule holds of them, where the records of the lanes are blank
pub blank_zeros : (i n : ℕ) → get_or {A = ℕ} (replicate n 0) i 0 ≡ 0
blank_zeros i zero = refl
blank_zeros zero (suc n) = refl
blank_zeros (suc i) (suc n) = blank_zeros i n

pub built_opens : (face : ℕ → ℕ → List (ℕ × ℕ) → List ℕ) (o : Opening) (words all : List ℕ) → IsKeySet o.shape.bits (keys_of o.members) → All FitsPair o.members → length (keys_of o.members) ≤ o.shape.members → (o.shape.reservations ≡ 0) ⊎ (2 ^ o.shape.bits ≤ o.shape.members) → IsLayout o.shape
    → IsBuilt face o o.shape.bits (place_count o.shape) words → IsPadded words all → Ruled face o.shape (opening all [] (newcomer face record { opening = o; words = length all }))
built_opens face o words all set fit few room laid_out built padded =
    let long = built.long in let zeros : List ℕ = replicate padded.zeros 0 in
    let here : table_part 0 (word_count o.shape) all ≡ words = ap (take (word_count o.shape)) padded.is ∙ take-append-le (word_count o.shape) words zeros (omega arith) ∙ take_all (word_count o.shape) words (omega arith) in
    first_opening face o (length all) all refl (subst (IsOpened face o) (sym here) (built_is_opened face o words set fit few room laid_out built))
    (λ i high. ap (λ (z : List ℕ). get_or z i 0) here ∙ built.blank i high)
    (λ i past. ap (λ (z : List ℕ). get_or z i 0) padded.is ∙ get_or-append_right words zeros (length words) i 0 refl (omega arith) ∙ blank_zeros (i - length words) padded.zeros)

-- its word tells what is there
pub leaf_tells : (o : Opening) → Rises (keys_of o.members) → All FitsPair o.members → (q x : ℕ) → q < 2 ^ o.shape.bits → x ≡ opening_number o q → laid_pairs q x ≡ opening_pairs o q
leaf_tells o up fit q x low is = ⊎_elim
    (λ (none : x < 2 ^ 32). ap (λ (b : Bool). if b then (q, x % 2 ^ 32) ∷ [] else []) (lt-leb (2 ^ 32) x none) ∙ sym (leaf_not o up q x low is none))
    (λ (some : 2 ^ 32 ≤ x). ap (λ (b : Bool). if b then (q, x % 2 ^ 32) ∷ [] else []) (le-leb (2 ^ 32) x some) ∙ sym (leaf_there o up fit q x low is some)) (cases_lt x (2 ^ 32))
