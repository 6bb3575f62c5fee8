-- The members below a node, and the number of its opening record.
use Rattle.std.proofs.Common.{◌≡◌, ℕ, zero, suc, ◌+◌, ◌-◌, ◌*◌, ◌^◌, ◌<◌, ◌≤◌, ◌⊎◌, inl, inr, min, Bool, true, false, ◌||◌, ltb, lt-ltb, le-leb, if◌then◌else◌, [], ◌∷◌, ◌++◌, length, refl, sym, ap, ◌∙◌, subst, ⊎_elim, arith, suc-mul}
use Rattle.std.proofs.Math.Nat.{two-pow-succ, add-mul, mul-add, min-eq_left, min-eq_right}
use Rattle.std.proofs.Math.Pow.{pow_mono}
use Rattle.std.proofs.lemmas.Bool.{cases_lt, lt-leb, false≢true}
use Rattle.aug_core.specs.Places.{Shape, own_records, opening_count}
use Rattle.aug_core.specs.Addresses.{IsInner, left_of, right_of}
use Rattle.aug_core.specs.inside.OwnNumbers.{own_number}
use Rattle.aug_core.specs.inside.WordPlaces.{IsWord}
use Rattle.aug_core.specs.Opening.{opening_leaf_word, Opening, has_members, has_room, owns, own_before, number_at, opening_pairs, opening_number}
use Rattle.aug_model.specs.NodeKeys.{keys_below, pairs_below}
use Rattle.aug_model.specs.Keys.{is_member, keys_of, pairs_of}
use Rattle.aug_model.specs.Queries.{range_of, weight_in}
use Rattle.aug_model.proofs.Pairs.{range-again, pairs_of-append}
use Rattle.aug_model.proofs.Ranges.{Rises, range_cut, range_of_key, range_le, count_cut}
use Rattle.aug_core.proofs.Sizes.{twice, own_none, own_more}
use Rattle.aug_core.proofs.Levels.{level_is, leaf_level, room_above, above}

-- ---- who has a record of its own

pub true_or_false : (b : Bool) → (b ≡ true) ⊎ (b ≡ false)
true_or_false true = inl refl
true_or_false false = inr refl

-- each node in a table with room for all keys
pub owns_all : (o : Opening) (l p : ℕ) → has_room o ≡ true → owns o l p ≡ true
owns_all o l p room = ap (λ (z : Bool). z || has_members o l p) room

-- and otherwise those with members below
pub owns_some : (o : Opening) (l p : ℕ) → has_room o ≡ false → owns o l p ≡ has_members o l p
owns_some o l p none = ap (λ (z : Bool). z || has_members o l p) none

-- where a node has none, no node has one without members below, and it has none
pub owns_none : (o : Opening) (l p : ℕ) → owns o l p ≡ false → (has_room o ≡ false) × (has_members o l p ≡ false)
owns_none o l p none = ⊎_elim (λ room. absurd (false≢true (sym none ∙ owns_all o l p room))) (λ few. (few, sym (owns_some o l p few) ∙ none)) (true_or_false (has_room o))

pub room_is : (o : Opening) → has_room o ≡ true → 2 ^ o.shape.bits ≤ o.shape.members
room_is o room = ⊎_elim (λ (lt : o.shape.members < 2 ^ o.shape.bits). absurd (false≢true (sym (lt-leb (2 ^ o.shape.bits) o.shape.members lt) ∙ room))) (λ (le : 2 ^ o.shape.bits ≤ o.shape.members). le) (cases_lt o.shape.members (2 ^ o.shape.bits))

-- ---- the own records of a level

one_if : (n : ℕ) → (if ltb 0 n then 1 else 0) ≤ n
one_if zero = omega arith
one_if (suc n) = let lt : 0 < suc n = omega arith in subst (λ (z : Bool). (if z then 1 else 0) ≤ suc n) (sym (lt-ltb 0 (suc n) lt)) (omega arith)

pub own_within : (o : Opening) (l p : ℕ) → own_before o l p ≤ p
own_within o l zero = omega arith
own_within o l (suc p) = let h = own_within o l p in let one = at_most (owns o l p) in omega arith
  where
    at_most : (b : Bool) → (if b then 1 else 0) ≤ 1
    at_most true = omega arith
    at_most false = omega arith

-- in a table with room for all keys the nodes before a place are as many as it says
pub own_is_place : (o : Opening) (l p : ℕ) → has_room o ≡ true → own_before o l p ≡ p
own_is_place o l zero room = refl
own_is_place o l (suc p) room = let h = own_is_place o l p room in let one : own_before o l (suc p) ≡ own_before o l p + 1 = ap (λ (z : Bool). own_before o l p + (if z then 1 else 0)) (owns_all o l p room) in omega arith

own_few : (o : Opening) → has_room o ≡ false → Rises (keys_of o.members) → (l p : ℕ) → own_before o l p ≤ length (range_of (keys_of o.members) 0 (p * 2 ^ l))
own_few o none rises l zero = omega arith
own_few o none rises l (suc p) = let h = own_few o none rises l p in let w : ℕ = 2 ^ l in let one : p + 1 ≡ suc p = omega arith in
    let e : suc p * w ≡ p * w + w = suc-mul p w in let next : (p + 1) * w ≡ suc p * w = ap (λ (z : ℕ). z * w) one in
    let cut = count_cut (keys_of o.members) 0 (p * w) ((p + 1) * w) rises (omega arith) (omega arith) in
    let is = ap (λ (z : ℕ). length (range_of (keys_of o.members) 0 z)) next in let has : own_before o l (suc p) ≡ own_before o l p + (if has_members o l p then 1 else 0) = ap (λ (z : Bool). own_before o l p + (if z then 1 else 0)) (owns_some o l p none) in
    let one = one_if (length (keys_below (keys_of o.members) l p)) in omega arith

lt_min : (x a b : ℕ) → x < a → x < b → x < min a b
lt_min x a b h k = ⊎_elim (λ (lt : a < b). subst (λ (z : ℕ). x < z) (sym (min-eq_left {n = a} {m = b} (omega arith))) h) (λ (ge : b ≤ a). subst (λ (z : ℕ). x < z) (sym (min-eq_right {n = b} {m = a} ge)) k) (cases_lt a b)

-- a node's own record is one of its level's own ones
pub own_room : (o : Opening) → Rises (keys_of o.members) → length (keys_of o.members) ≤ o.shape.members → (l p : ℕ) → p < 2 ^ (o.shape.bits - l) → owns o l p ≡ true → own_before o l p < min (2 ^ (o.shape.bits - l)) o.shape.members
own_room o rises few l p room some = let a = own_within o l p in ⊎_elim
    (λ all. let most = room_is o all in let up : 2 ^ (o.shape.bits - l) ≤ 2 ^ o.shape.bits = pow_mono {i = o.shape.bits - l} {j = o.shape.bits} (omega arith) in
    lt_min (own_before o l p) (2 ^ (o.shape.bits - l)) o.shape.members (omega arith) (omega arith))
    (λ none. let b = own_few o none rises l (suc p) in let c = range_le (keys_of o.members) 0 (suc p * 2 ^ l) in
    let e : own_before o l (suc p) ≡ own_before o l p + 1 = ap (λ (z : Bool). own_before o l p + (if z then 1 else 0)) some in
    lt_min (own_before o l p) (2 ^ (o.shape.bits - l)) o.shape.members (omega arith) (omega arith)) (true_or_false (has_room o))

pub own_rises : (b m l k : ℕ) → l ≤ k → own_records b m l ≤ own_records b m k
own_rises b m l zero le = let e : l ≡ 0 = omega arith in subst (λ (z : ℕ). own_records b m z ≤ own_records b m 0) (sym e) (omega arith)
own_rises b m l (suc k) le = ⊎_elim (λ (lt : l < suc k). let h = own_rises b m l k (omega arith) in let e = own_more b m k in omega arith)
    (λ (ge : suc k ≤ l). subst (λ (z : ℕ). own_records b m z ≤ own_records b m (suc k)) (let e : suc k ≡ l = omega arith in e) (omega arith)) (cases_lt l (suc k))

-- ---- a node's number

pub number_own : (o : Opening) (l p : ℕ) → owns o (suc l) p ≡ true → number_at o (suc l) p ≡ o.shape.bits + own_records o.shape.bits o.shape.members l + own_before o (suc l) p
number_own o l p some = ap (λ (z : Bool). if z then o.shape.bits + own_records o.shape.bits o.shape.members l + own_before o (suc l) p else l) some

pub number_shared : (o : Opening) (l p : ℕ) → owns o (suc l) p ≡ false → number_at o (suc l) p ≡ l
number_shared o l p none = ap (λ (z : Bool). if z then o.shape.bits + own_records o.shape.bits o.shape.members l + own_before o (suc l) p else l) none

-- it is one of the opening records
pub number_low : (o : Opening) → Rises (keys_of o.members) → length (keys_of o.members) ≤ o.shape.members → (l p : ℕ) → suc l ≤ o.shape.bits → p < 2 ^ (o.shape.bits - suc l) → number_at o (suc l) p < opening_count o.shape
number_low o rises few l p up room = ⊎_elim
    (λ some. let e = number_own o l p some in let r = own_room o rises few (suc l) p room some in let u = own_rises o.shape.bits o.shape.members (suc l) o.shape.bits up in let m = own_more o.shape.bits o.shape.members l in omega arith)
    (λ none. let e = number_shared o l p none in omega arith) (true_or_false (owns o (suc l) p))

module _ (o : Opening) where
  pub pairs_are : (q l p : ℕ) → IsWord o.shape l p q → opening_pairs o q ≡ pairs_below o.members l p
  pairs_are q l p a = let e = level_is o.shape q l p a in λ i. pairs_below o.members (e.0 i) (e.1 i)

  pub number_is : (q l p : ℕ) → IsWord o.shape l p q → opening_number o q ≡ number_at o l p
  number_is q l p a = let e = level_is o.shape q l p a in λ i. number_at o (e.0 i) (e.1 i)

  -- the members below a node are those below its children
  pub below_both : Rises (keys_of o.members) → (l p : ℕ) → keys_below (keys_of o.members) (suc l) p ≡ keys_below (keys_of o.members) l (2 * p) ++ keys_below (keys_of o.members) l (2 * p + 1)
  below_both rises l p = let w : ℕ = 2 ^ l in let e : 2 ^ suc l ≡ w + w = two-pow-succ l in
      let two : 2 * p ≡ p + p = omega arith in
      let first : p * 2 ^ suc l ≡ 2 * p * w = ap (λ (z : ℕ). p * z) e ∙ mul-add p w w ∙ sym (add-mul p p w) ∙ ap (λ (z : ℕ). z * w) (sym two) in
      let middle : 2 * p * w + w ≡ (2 * p + 1) * w = next (2 * p) w in
      let last : (2 * p + 1) * w + w ≡ (2 * p + 1 + 1) * w = next (2 * p + 1) w in
      let end : p * 2 ^ suc l + 2 ^ suc l ≡ (p + 1) * 2 ^ suc l = next p (2 ^ suc l) in
      let to : (p + 1) * 2 ^ suc l ≡ (2 * p + 1 + 1) * w = omega arith in
      (λ i. range_of (keys_of o.members) (first i) (to i)) ∙ range_cut (keys_of o.members) (2 * p * w) ((2 * p + 1) * w) ((2 * p + 1 + 1) * w) rises (omega arith) (omega arith)
    where
      next : (n w : ℕ) → n * w + w ≡ (n + 1) * w
      next n w = let k : suc n * w ≡ n * w + w = suc-mul n w in let j : suc n ≡ n + 1 = omega arith in sym k ∙ ap (λ (z : ℕ). z * w) j

  -- and so are they with their weights
  weighed : Rises (keys_of o.members) → (l p : ℕ) → pairs_below o.members l p ≡ pairs_of (weight_in o.members) (keys_below (keys_of o.members) l p)
  weighed rises l p = range-again o.members (p * 2 ^ l) ((p + 1) * 2 ^ l) rises

  pairs_both : Rises (keys_of o.members) → (l p : ℕ) → pairs_below o.members (suc l) p ≡ pairs_below o.members l (2 * p) ++ pairs_below o.members l (2 * p + 1)
  pairs_both rises l p =
      weighed rises (suc l) p ∙ ap (pairs_of (weight_in o.members)) (below_both rises l p) ∙ pairs_of-append (weight_in o.members) (keys_below (keys_of o.members) l (2 * p)) (keys_below (keys_of o.members) l (2 * p + 1))
      ∙ (λ i. sym (weighed rises l (2 * p)) i ++ sym (weighed rises l (2 * p + 1)) i)

  pub pairs_over : Rises (keys_of o.members) → (q : ℕ) → IsInner o.shape q → opening_pairs o q ≡ opening_pairs o (left_of o.shape q) ++ opening_pairs o (right_of o.shape q)
  pairs_over rises q inner = let t = above o.shape q inner in
      pairs_are q (suc t.level) t.place t.here ∙ pairs_both rises t.level t.place
      ∙ (λ i. sym (pairs_are (left_of o.shape q) t.level (2 * t.place) t.left) i ++ sym (pairs_are (right_of o.shape q) t.level (2 * t.place + 1) t.right) i)

  one_pair : (b : Bool) (weight : ℕ → ℕ) (q : ℕ) → pairs_of weight (if b then q ∷ [] else []) ≡ (if b then (q, weight q) ∷ [] else [])
  one_pair true weight q = refl
  one_pair false weight q = refl

  pub pairs_of_leaf : Rises (keys_of o.members) → (q : ℕ) → q < 2 ^ o.shape.bits → opening_pairs o q ≡ (if is_member (keys_of o.members) q then (q, weight_in o.members q) ∷ [] else [])
  pairs_of_leaf rises q low = pairs_are q 0 q (leaf_level o.shape q low) ∙ weighed rises 0 q
      ∙ ap (pairs_of (weight_in o.members)) ((let e : q * 1 ≡ q = omega arith in let f : (q + 1) * 1 ≡ q + 1 = omega arith in λ i. range_of (keys_of o.members) (e i) (f i)) ∙ range_of_key (keys_of o.members) q rises)
      ∙ one_pair (is_member (keys_of o.members) q) (weight_in o.members) q

  pub number_of_leaf : (q : ℕ) → q < 2 ^ o.shape.bits → opening_number o q ≡ opening_leaf_word o.members q
  number_of_leaf q low = number_is q 0 q (leaf_level o.shape q low)

  pub number_below : Rises (keys_of o.members) → length (keys_of o.members) ≤ o.shape.members → (q : ℕ) → IsInner o.shape q → opening_number o q < opening_count o.shape
  number_below rises few q inner = let t = above o.shape q inner in subst (λ (z : ℕ). z < opening_count o.shape) (sym (number_is q (suc t.level) t.place t.here)) (number_low o rises few t.level t.place t.here.level_fits t.here.place_fits)

-- ---- the numbers of the nodes' own records

pub own_full : (b m l : ℕ) → 2 ^ b ≤ m → l ≤ b → own_records b m l + 2 ^ (b - l) ≡ 2 ^ b
own_full b m zero room low = let e : b - 0 ≡ b = omega arith in let p : 2 ^ (b - 0) ≡ 2 ^ b = ap (λ (z : ℕ). 2 ^ z) e in let none = own_none b m in omega arith
own_full b m (suc l) room low =
    let h = own_full b m l room (omega arith) in let more = own_more b m l in let e : b - l ≡ suc (b - suc l) = omega arith in let half : 2 ^ (b - l) ≡ 2 ^ (b - suc l) + 2 ^ (b - suc l) = ap (λ (z : ℕ). 2 ^ z) e ∙ two-pow-succ (b - suc l) in
    let fewer : 2 ^ (b - suc l) ≤ 2 ^ b = pow_mono {i = b - suc l} {j = b} (omega arith) in let all = min-eq_left {n = 2 ^ (b - suc l)} {m = m} (omega arith) in omega arith

-- the record lies in the table
pub own_low : (s : Shape) (q : ℕ) → 2 ^ s.bits ≤ s.members → IsInner s q → own_number s q < opening_count s
own_low s q room inner = let all = own_full s.bits s.members s.bits room (omega arith) in let none : s.bits - s.bits ≡ 0 = omega arith in let one : 2 ^ (s.bits - s.bits) ≡ 1 = ap (λ (z : ℕ). 2 ^ z) none in
    let t = twice s.bits in let past = inner.past_leaves in let inside = inner.inside in omega arith

module _ (o : Opening) (room : 2 ^ o.shape.bits ≤ o.shape.members) where
  pub roomy : has_room o ≡ true
  roomy = le-leb (2 ^ o.shape.bits) o.shape.members room

  pub room_number : (q : ℕ) → IsInner o.shape q → opening_number o q ≡ own_number o.shape q
  room_number q inner = let t = above o.shape q inner in let all = own_full o.shape.bits o.shape.members t.level room (let low = t.here.level_fits in omega arith) in
      let before = own_is_place o (suc t.level) t.place roomy in let r = room_above o.shape t.level t.here.level_fits in let r0 = r.0 in let is = t.here.is in let r3 = r.3 in
      number_is o q (suc t.level) t.place t.here ∙ number_own o t.level t.place (owns_all o (suc t.level) t.place roomy) ∙ omega arith
