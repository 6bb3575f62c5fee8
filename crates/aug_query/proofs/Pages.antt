-- What a node gives to a page: that of its two children, the one after the other.
use Rattle.std.proofs.Common.{◌≡◌, ◌≢◌, ℕ, ◌+◌, ◌-◌, ◌*◌, ◌^◌, ◌<◌, ◌≤◌, min, max, inl, inr, leb, ltb, ◌&&◌, All, List, [], ◌∷◌, ◌++◌, length, take, reverse, refl, ap, sym, ◌∙◌, subst, arith, append_assoc, length-append}
use Rattle.std.proofs.Math.Nat.{min-eq_left, min-eq_right, max-eq_left, max-eq_right, mul-le-mul_left, le_refl, le-max_left, le-max_right, min-le_left, min-le_right}
use Rattle.std.proofs.Math.Seq.{take-append-add}
use Rattle.std.proofs.lemmas.Bool.{cases_lt}
use Rattle.std.proofs.lemmas.Nat.{pow_pos}
use Rattle.std.proofs.Math.Pow.{pow_mono}
use Rattle.std.proofs.lemmas.List.Elements.{All-filter, All-take}
use Rattle.std.proofs.lemmas.List.{append-nil, reverse-append, take_all, take-append-le, length-take, length-reverse}
use Rattle.aug_model.specs.Keys.{SetFacts, list_of, pairs_of}
use Rattle.aug_model.specs.Queries.{range_of, weighted_range_of, weight_in}
use Rattle.aug_model.specs.NodeKeys.{first_key, end_key, keys_below, pairs_below}
use Rattle.aug_model.proofs.Pairs.{range-again, pairs_of-append, length-pairs_of, length-keys_of, key_at}
use Rattle.aug_model.proofs.Ranges.{range_cut, range_none, range_clipped, range_within, no_members}
use Rattle.aug_query.specs.Tree.{IsTreeSet}
use Rattle.aug_query.specs.Yields.{members_from, members_below}
use Rattle.aug_query.specs.declared.descent.pages.Stretch.{Stretch}
use Rattle.aug_query.specs.declared.descent.pages.Stretch.TheVariants.{From, Below}
use Rattle.aug_query.specs.inside.Pages.{Reaches, crosses, part_of, place_of_first, place_of_second}
use Rattle.aug_query.specs.Descend.{Descends}
use Rattle.aug_query.specs.declared.loaded.Loaded.{Loaded}
use Rattle.aug_query.proofs.Descending.{further}
use Rattle.aug_query.proofs.Choosing.{set_rises, set_below, count_of, children_length, leaf_below_one}
use Rattle.aug_query.proofs.Nodes.{left_low, right_high, leaf_first, leaf_end}

-- the members of an interval in two parts
pairs_cut : (set : SetFacts) (a m b : ℕ) → IsTreeSet set → a ≤ m → m ≤ b → weighted_range_of set.pairs a b ≡ weighted_range_of set.pairs a m ++ weighted_range_of set.pairs m b
pairs_cut set a m b is low high =
    let keys = list_of set in
    let weight = weight_in set.pairs in
    let rises = set_rises is in
    range-again set.pairs a b rises ∙ ap (pairs_of weight) (range_cut keys a m b rises low high) ∙ pairs_of-append weight (range_of keys a m) (range_of keys m b)
    ∙ ap (λ (xs : List (ℕ × ℕ)). xs ++ pairs_of weight (range_of keys m b)) (sym (range-again set.pairs a m rises)) ∙ ap (λ (xs : List (ℕ × ℕ)). weighted_range_of set.pairs a m ++ xs) (sym (range-again set.pairs m b rises))

-- and those of an empty one
pairs_none : (set : SetFacts) (a b : ℕ) → IsTreeSet set → b ≤ a → weighted_range_of set.pairs a b ≡ []
pairs_none set a b is h = range-again set.pairs a b (set_rises is) ∙ ap (pairs_of (weight_in set.pairs)) (range_none (list_of set) a b h)

-- as many as there are keys
pub length-pairs_below : (set : SetFacts) (level place : ℕ) → IsTreeSet set → length (pairs_below set.pairs level place) ≡ length (keys_below (list_of set) level place)
length-pairs_below set level place is = ap length (range-again set.pairs (first_key level place) (end_key level place) (set_rises is)) ∙ length-pairs_of (weight_in set.pairs) (keys_below (list_of set) level place)

-- past all keys all are below
pub below_clipped : (set : SetFacts) (k : ℕ) → IsTreeSet set → members_below set (min (2 ^ set.bits) k) ≡ members_below set k
below_clipped set k is =
    let n = 2 ^ set.bits in
    elim (cases_lt n k) [
      | inl past ↦
          let all = ap (range_of (list_of set) 0) (min-eq_left {n = n} {m = k} (omega (arith, past))) ∙ sym (range_clipped (list_of set) 0 k n (set_below is) (omega (arith, past))) in
          range-again set.pairs 0 (min n k) (set_rises is) ∙ ap (pairs_of (weight_in set.pairs)) all ∙ sym (range-again set.pairs 0 k (set_rises is))
      | inr within ↦ ap (members_below set) (min-eq_right {n = k} {m = n} within)
    ]

-- nothing, where no key is in the stretch
pub part_none : (set : SetFacts) (stretch : Stretch) (a b : ℕ) → IsTreeSet set → (Reaches stretch a b → ⊥) → part_of stretch set.pairs a b ≡ []
part_none set (From k) a b is not = pairs_none set (max a k) b is (omega (arith, not, le-max_right a k))
part_none set (Below k) a b is not = ap reverse (pairs_none set a (min b k) is (omega (arith, not, min-le_right b k)))

-- the other way round in a falling stretch
turned : {X : Type 0} → Stretch → List X → List X
turned (From k) xs = xs
turned (Below k) xs = reverse xs

-- all of them, where all keys are in the stretch
part_whole : (set : SetFacts) (stretch : Stretch) (a b : ℕ) → Reaches stretch a b → crosses stretch a b ≡ 0 → part_of stretch set.pairs a b ≡ turned stretch (weighted_range_of set.pairs a b)
unfolding turned
part_whole set (From k) a b some none = ap (λ (n : ℕ). weighted_range_of set.pairs n b) (max-eq_left {n = a} {m = k} (omega (arith, some, none)))
part_whole set (Below k) a b some none = ap (λ (n : ℕ). reverse (weighted_range_of set.pairs a n)) (min-eq_left {n = b} {m = k} (omega (arith, some, none)))

length-turned : {X : Type 0} (stretch : Stretch) (xs : List X) → length (turned stretch xs) ≡ length xs
unfolding turned
length-turned (From k) xs = refl
length-turned (Below k) xs = length-reverse xs

turned_one : {X : Type 0} (stretch : Stretch) (x : X) → turned stretch (x ∷ []) ≡ x ∷ []
unfolding turned
turned_one (From k) x = refl
turned_one (Below k) x = refl

-- a leaf gives its member
pub part_leaf : (set : SetFacts) (stretch : Stretch) (level place n w : ℕ) → IsTreeSet set → level ≡ 0 → Reaches stretch (first_key level place) (end_key level place) → n ≡ length (keys_below (list_of set) level place) → n ≢ 0 → w ≡ weight_in set.pairs place
    → part_of stretch set.pairs (first_key level place) (end_key level place) ≡ (place, w) ∷ []
part_leaf set stretch level place n w is leaf some counts there weighs =
    let first = leaf_first level place leaf in
    let end = leaf_end level place leaf in
    let alone = ap (pairs_of (weight_in set.pairs)) (leaf_below_one set level place n is leaf counts there) ∙ ap (λ (z : ℕ). (place, z) ∷ []) (sym weighs) in
    let one = range-again set.pairs (first_key level place) (end_key level place) (set_rises is) ∙ alone in
    part_whole set stretch (first_key level place) (end_key level place) some (omega (arith, first, end)) ∙ ap (turned stretch) one ∙ turned_one stretch (place, w)

-- the stretch's members among those of an interval are those of its two parts
from_cut : (set : SetFacts) (k a m b : ℕ) → IsTreeSet set → a ≤ m → m ≤ b → weighted_range_of set.pairs (max a k) b ≡ weighted_range_of set.pairs (max a k) m ++ weighted_range_of set.pairs (max m k) b
from_cut set k a m b is low high =
    elim (cases_lt m k) [
      | inl past ↦
          let mine : max a k ≡ k = max-eq_right {n = a} {m = k} (omega (arith, low, past)) in
          let other : max m k ≡ k = max-eq_right {n = m} {m = k} (omega (arith, past)) in
          ap (λ (n : ℕ). weighted_range_of set.pairs n b) (mine ∙ sym other) ∙ ap (λ (xs : List (ℕ × ℕ)). xs ++ weighted_range_of set.pairs (max m k) b) (sym (pairs_none set (max a k) m is (omega (arith, mine, past))))
      | inr within ↦
          let other : max m k ≡ m = max-eq_left {n = m} {m = k} within in
          let few : max a k ≤ m = omega (arith, low, within) in
          pairs_cut set (max a k) m b is few high ∙ ap (λ (n : ℕ). weighted_range_of set.pairs (max a k) m ++ weighted_range_of set.pairs n b) (sym other)
    ]

below_cut : (set : SetFacts) (k a m b : ℕ) → IsTreeSet set → a ≤ m → m ≤ b → weighted_range_of set.pairs a (min b k) ≡ weighted_range_of set.pairs a (min m k) ++ weighted_range_of set.pairs m (min b k)
below_cut set k a m b is low high =
    elim (cases_lt m k) [
      | inl past ↦
          let mine : min m k ≡ m = min-eq_left {n = m} {m = k} (omega (arith, past)) in
          let wide : m ≤ min b k = omega (arith, high, past) in
          pairs_cut set a m (min b k) is low wide ∙ ap (λ (n : ℕ). weighted_range_of set.pairs a n ++ weighted_range_of set.pairs m (min b k)) (sym mine)
      | inr within ↦
          let mine : min m k ≡ k = min-eq_right {n = k} {m = m} within in
          let other : min b k ≡ k = min-eq_right {n = k} {m = b} (omega (arith, high, within)) in
          ap (weighted_range_of set.pairs a) (other ∙ sym mine) ∙ sym (append-nil (weighted_range_of set.pairs a (min m k)))
          ∙ ap (λ (xs : List (ℕ × ℕ)). weighted_range_of set.pairs a (min m k) ++ xs) (sym (pairs_none set m (min b k) is (omega (arith, other, within))))
    ]

-- what the first key and the end of a node's parts are
module _ (level l place : ℕ) (e : l + 1 ≡ level) where
  pub begins : first_key l (2 * place) ≡ first_key level place
  begins = left_low level place l (2 * place) e refl

  pub ends : end_key l (2 * place + 1) ≡ end_key level place
  ends = right_high level place l (2 * place + 1) e refl

  pub low_half : first_key level place ≤ end_key l (2 * place)
  low_half = omega (arith, begins, mul-le-mul_left 1 (pow_pos l))

  pub high_half : end_key l (2 * place) ≤ end_key level place
  high_half = omega (arith, ends)

  -- a node gives what its two children give
  pub part_children : (set : SetFacts) (stretch : Stretch) → IsTreeSet set → part_of stretch set.pairs (first_key level place) (end_key level place)
      ≡ part_of stretch set.pairs (first_key l (place_of_first stretch place)) (end_key l (place_of_first stretch place)) ++ part_of stretch set.pairs (first_key l (place_of_second stretch place)) (end_key l (place_of_second stretch place))
  part_children set (From k) is =
      from_cut set k (first_key level place) (end_key l (2 * place)) (end_key level place) is low_half high_half
      ∙ ap (λ (n : ℕ). weighted_range_of set.pairs (max n k) (end_key l (2 * place)) ++ weighted_range_of set.pairs (max (end_key l (2 * place)) k) (end_key level place)) (sym begins)
      ∙ ap (λ (n : ℕ). weighted_range_of set.pairs (max (first_key l (2 * place)) k) (end_key l (2 * place)) ++ weighted_range_of set.pairs (max (end_key l (2 * place)) k) n) (sym ends)
  part_children set (Below k) is =
      let left = weighted_range_of set.pairs (first_key l (2 * place)) (min (end_key l (2 * place)) k) in
      let right = weighted_range_of set.pairs (end_key l (2 * place)) (min (end_key l (2 * place + 1)) k) in
      ap reverse (below_cut set k (first_key level place) (end_key l (2 * place)) (end_key level place) is low_half high_half
      ∙ ap (λ (n : ℕ). weighted_range_of set.pairs n (min (end_key l (2 * place)) k) ++ weighted_range_of set.pairs (end_key l (2 * place)) (min (end_key level place) k)) (sym begins)
      ∙ ap (λ (n : ℕ). left ++ weighted_range_of set.pairs (end_key l (2 * place)) (min n k)) (sym ends)) ∙ reverse-append left right

  -- and only one of them has some keys in the stretch and others not, if it has
  pub one_crosses : (stretch : Stretch) → crosses stretch (first_key l (place_of_first stretch place)) (end_key l (place_of_first stretch place)) + crosses stretch (first_key l (place_of_second stretch place)) (end_key l (place_of_second stretch place)) ≤ crosses stretch (first_key level place) (end_key level place)
  one_crosses (From k) = omega (arith, begins, ends, low_half, high_half)
  one_crosses (Below k) = omega (arith, begins, ends, low_half, high_half)

  -- how many members the second child covers
  pub second_count : (set low high : SetFacts) (stretch : Stretch) (p q n some : ℕ) → IsTreeSet set → low ≡ set → high ≡ set → p ≡ place_of_first stretch place → q ≡ place_of_second stretch place → n ≡ length (keys_below (list_of set) level place) → some ≡ length (keys_below (list_of low) l p)
      → (some ≤ n) × (n - some ≡ length (keys_below (list_of high) l q))
  second_count set low high (From k) p q n some is same alike at next all counts =
      let both = children_length (list_of set) level l place (set_rises is) e in
      let here = count_of set low l p some same counts ∙ ap (λ (z : ℕ). length (keys_below (list_of set) l z)) at in
      let rest : n - some ≡ length (keys_below (list_of set) l (2 * place + 1)) = omega (arith, both, here, all) in
      (omega (arith, both, here, all), count_of high set l q (n - some) (sym alike) (rest ∙ ap (λ (z : ℕ). length (keys_below (list_of set) l z)) (sym next)))
  second_count set low high (Below k) p q n some is same alike at next all counts =
      let both = children_length (list_of set) level l place (set_rises is) e in
      let here = count_of set low l p some same counts ∙ ap (λ (z : ℕ). length (keys_below (list_of set) l z)) at in
      let rest : n - some ≡ length (keys_below (list_of set) l (2 * place)) = omega (arith, both, here, all) in
      (omega (arith, both, here, all), count_of high set l q (n - some) (sym alike) (rest ∙ ap (λ (z : ℕ). length (keys_below (list_of set) l z)) (sym next)))

-- one element is taken whole
pub take_one : {X : Type 0} (n : ℕ) (x : X) → 0 < n → take n (x ∷ []) ≡ x ∷ []
take_one n x h = take_all n (x ∷ []) (omega (arith, h))

-- where all is taken, or there is no room
pub takes_none : {X : Type 0} (n : ℕ) (old xs : List X) → n ≡ 0 → old ≡ old ++ take n xs
takes_none n old xs none = sym (ap (λ (m : ℕ). old ++ take m xs) none ∙ append-nil old)

pub takes_nothing : {X : Type 0} (n : ℕ) (old xs : List X) → xs ≡ [] → old ≡ old ++ take n xs
takes_nothing n old xs none = sym (ap (λ ys. old ++ ys) (take_all n xs (omega (arith, ap length none)) ∙ none) ∙ append-nil old)

pub take_both : {X : Type 0} (r : ℕ) (xs ys : List X) → take r (xs ++ ys) ≡ take r xs ++ take (r - length xs) ys
take_both r xs ys =
    elim (cases_lt (length xs) r) [
      | inl more ↦
          let whole : r ≡ length xs + (r - length xs) = omega (arith, more) in
          ap (λ (n : ℕ). take n (xs ++ ys)) whole ∙ take-append-add xs ys (r - length xs) ∙ ap (λ zs. zs ++ take (r - length xs) ys) (sym (take_all r xs (omega (arith, more))))
      | inr few ↦
          let none : r - length xs ≡ 0 = omega (arith, few) in
          take-append-le r xs ys few ∙ sym (append-nil (take r xs)) ∙ ap (λ (n : ℕ). take r xs ++ take n ys) (sym none)
    ]

-- a page has the first of some members, and then the first of some more
pub page_joined : {X : Type 0} (n : ℕ) (old mid new xs ys : List X) → mid ≡ old ++ take (n - length old) xs → new ≡ mid ++ take (n - length mid) ys → new ≡ old ++ take (n - length old) (xs ++ ys)
page_joined {X} n old mid new xs ys first next =
    let r = n - length old in
    let long : length mid ≡ length old + min r (length xs) = ap length first ∙ length-append old (take r xs) ∙ ap (λ (m : ℕ). length old + m) (length-take r xs) in
    let left : n - length mid ≡ r - length xs = omega (arith, long) in
    let both : take r (xs ++ ys) ≡ take r xs ++ take (r - length xs) ys = take_both r xs ys in
    next ∙ ap (λ (m : ℕ). mid ++ take m ys) left ∙ ap (λ (zs : List X). zs ++ take (r - length xs) ys) first ∙ append_assoc old (take r xs) (take (r - length xs) ys) ∙ ap (λ (zs : List X). old ++ zs) (sym both)

-- the loads from the top on
pub page_nodes : (bits level x : ℕ) → level ≡ bits → x ≤ 33 → 1 + 0 + 2 * level * x ≤ 66 * bits + 1
page_nodes bits level x e few = let each = mul-le-mul_left (2 * level) few in omega (arith, each, e)

pub page_counts : (bits level x : ℕ) → level ≡ bits → x ≤ 33 → 0 + 1 + level * x ≤ 33 * bits + 1
page_counts bits level x e few = let each = mul-le-mul_left level few in omega (arith, each, e)

-- so many loads of two children and below them
pub part_nodes : (level l x y z : ℕ) → l + 1 ≡ level → x + y ≤ z → 1 ≤ z → 1 + 0 + 2 * l * x + 1 + 2 * l * y ≤ 2 * level * z
part_nodes level l x y z e few some =
    let each = mul-le-mul_left (2 * l) few in
    let more : 2 * (l + 1) * z ≡ 2 * l * z + 2 * z = omega arith in
    omega (arith, each, more, some, ap (λ j. 2 * j * z) e)

pub part_counts : (level l x y z : ℕ) → l + 1 ≡ level → x + y ≤ z → 1 ≤ z → 0 + 1 + l * x + 0 + l * y ≤ level * z
part_counts level l x y z e few some =
    let each = mul-le-mul_left l few in
    let more : (l + 1) * z ≡ l * z + z = omega arith in
    omega (arith, each, more, some, ap (λ j. j * z) e)

-- a node that is gone into gives a member, or has keys on either side
pub some_given : (set : SetFacts) (stretch : Stretch) (level place n : ℕ) (old new : List (ℕ × ℕ)) → IsTreeSet set → n ≡ length (keys_below (list_of set) level place) → n ≢ 0 → length old < 32 → Reaches stretch (first_key level place) (end_key level place)
    → new ≡ old ++ take (32 - length old) (part_of stretch set.pairs (first_key level place) (end_key level place)) → 1 ≤ length new - length old + crosses stretch (first_key level place) (end_key level place)
some_given set stretch level place n old new is counts some room reaches given =
    let a = first_key level place in
    let b = end_key level place in
    let part = part_of stretch set.pairs a b in
    let long : length new ≡ length old + min (32 - length old) (length part) = ap length given ∙ length-append old (take (32 - length old) part) ∙ ap (λ (m : ℕ). length old + m) (length-take (32 - length old) part) in
    elim (cases_lt 0 (crosses stretch a b)) [
      | inl crossed ↦ omega (arith, crossed)
      | inr within ↦
          let whole = ap length (part_whole set stretch a b reaches (omega (arith, within))) ∙ length-turned stretch (weighted_range_of set.pairs a b) ∙ length-pairs_below set level place is in
          omega (arith, long, whole, counts, some, room)
    ]

-- a page has no more than its places
pub page_few : {X : Type 0} (stretch : Stretch) (a b : ℕ) (old new part : List X) → old ≡ [] → new ≡ old ++ take (32 - length old) part → length new - length old + crosses stretch a b ≤ 33
page_few stretch a b old new part none given =
    let long : length new ≡ length old + min (32 - length old) (length part) = ap length given ∙ length-append old (take (32 - length old) part) ∙ ap (λ (m : ℕ). length old + m) (length-take (32 - length old) part) in
    omega (arith, long, ap length none)

-- an interval that has no member has none in its parts
inner_none : (set : SetFacts) (a b c d : ℕ) → IsTreeSet set → length (range_of (list_of set) a d) ≡ 0 → a ≤ b → c ≤ d → weighted_range_of set.pairs b c ≡ []
inner_none set a b c d is none low high =
    elim (cases_lt c b) [
      | inl past ↦ pairs_none set b c is (omega (arith, past))
      | inr within ↦
          let few = range_within (list_of set) a b c d (set_rises is) low within high in
          range-again set.pairs b c (set_rises is) ∙ ap (pairs_of (weight_in set.pairs)) (no_members (range_of (list_of set) b c) (omega (arith, few, none)))
    ]

-- and no member is given, where a node covers none
pub part_empty : (set : SetFacts) (stretch : Stretch) (level place n : ℕ) → IsTreeSet set → n ≡ length (keys_below (list_of set) level place) → n ≡ 0 → part_of stretch set.pairs (first_key level place) (end_key level place) ≡ []
part_empty set (From k) level place n is counts none = inner_none set (first_key level place) (max (first_key level place) k) (end_key level place) (end_key level place) is (sym counts ∙ none) (le-max_left (first_key level place) k) (le_refl (end_key level place))
part_empty set (Below k) level place n is counts none = ap reverse (inner_none set (first_key level place) (first_key level place) (min (end_key level place) k) (end_key level place) is (sym counts ∙ none) (le_refl (first_key level place)) (min-le_left (end_key level place) k))

module _ (level l place : ℕ) (e : l + 1 ≡ level) (stretch : Stretch) (p q : ℕ) (at : p ≡ place_of_first stretch place) (next : q ≡ place_of_second stretch place) where
  -- a page after the parts of both children, where their sets and places are written in another way
  pub both_given : (set low high : SetFacts) (old mid new : List (ℕ × ℕ)) → IsTreeSet set → low ≡ set → high ≡ set → mid ≡ old ++ take (32 - length old) (part_of stretch low.pairs (first_key l p) (end_key l p))
      → new ≡ mid ++ take (32 - length mid) (part_of stretch high.pairs (first_key l q) (end_key l q)) → new ≡ old ++ take (32 - length old) (part_of stretch set.pairs (first_key level place) (end_key level place))
  both_given set low high old mid new is same alike first then =
      let part = λ (z : ℕ). part_of stretch set.pairs (first_key l z) (end_key l z) in
      let mine = ap (λ (s : SetFacts). part_of stretch s.pairs (first_key l p) (end_key l p)) same ∙ ap part at in
      let other = ap (λ (s : SetFacts). part_of stretch s.pairs (first_key l q) (end_key l q)) alike ∙ ap part next in
      page_joined 32 old mid new (part (place_of_first stretch place)) (part (place_of_second stretch place)) (first ∙ ap (λ (xs : List (ℕ × ℕ)). old ++ take (32 - length old) xs) mine) (then ∙ ap (λ (xs : List (ℕ × ℕ)). mid ++ take (32 - length mid) xs) other)
      ∙ ap (λ (xs : List (ℕ × ℕ)). old ++ take (32 - length old) xs) (sym (part_children level l place e set stretch is))

  -- what both give, and where both have keys on either side
  both_few : {X : Type 0} (old mid new xs ys : List X) → mid ≡ old ++ xs → new ≡ mid ++ ys
      → length mid - length old + crosses stretch (first_key l p) (end_key l p) + (length new - length mid + crosses stretch (first_key l q) (end_key l q)) ≤ length new - length old + crosses stretch (first_key level place) (end_key level place)
  both_few old mid new xs ys first then =
      let one = one_crosses level l place e stretch in
      let mine = ap (λ (z : ℕ). crosses stretch (first_key l z) (end_key l z)) at in
      let other = ap (λ (z : ℕ). crosses stretch (first_key l z) (end_key l z)) next in
      omega (arith, one, mine, other, ap length first, length-append old xs, ap length then, length-append mid ys)

  -- the loads of the descents into both children, and of the children themselves
  module _ {Tree Name : Type 0} {set_of : Tree → SetFacts} {loads_of : Tree → Loaded} {Names : Tree → ℕ → ℕ → Name → Type 0} {KeepsRest : Tree → Tree → Type 0} (on : (first tree last : Tree) → KeepsRest first tree → KeepsRest tree last → KeepsRest first last) where
    pub both_descend : {X : Type 0} {a b c d f h : Tree} (old mid new xs ys : List X) → mid ≡ old ++ xs → new ≡ mid ++ ys → 1 ≤ length new - length old + crosses stretch (first_key level place) (end_key level place)
        → Descends set_of loads_of Names KeepsRest 1 0 0 0 a b → Descends set_of loads_of Names KeepsRest 0 1 0 0 b c
        → Descends set_of loads_of Names KeepsRest (2 * l * (length mid - length old + crosses stretch (first_key l p) (end_key l p))) (l * (length mid - length old + crosses stretch (first_key l p) (end_key l p))) 0 0 c d
        → Descends set_of loads_of Names KeepsRest 1 0 0 0 d f
        → Descends set_of loads_of Names KeepsRest (2 * l * (length new - length mid + crosses stretch (first_key l q) (end_key l q))) (l * (length new - length mid + crosses stretch (first_key l q) (end_key l q))) 0 0 f h
        → Descends set_of loads_of Names KeepsRest (2 * level * (length new - length old + crosses stretch (first_key level place) (end_key level place))) (level * (length new - length old + crosses stretch (first_key level place) (end_key level place))) 0 0 a h
    both_descend old mid new xs ys front back some child count walk other rest =
        let few = both_few old mid new xs ys front back in
        let first = further on (further on child count (le_refl _) (le_refl _) (le_refl _) (le_refl _)) walk (le_refl _) (le_refl _) (le_refl _) (le_refl _) in
        let next = further on first other (le_refl _) (le_refl _) (le_refl _) (le_refl _) in
        further on next rest (part_nodes level l _ _ _ e few some) (part_counts level l _ _ _ e few some) (le_refl _) (le_refl _)

    -- those of the descent into the first child alone, if the other one gives nothing
    pub first_descends : {X : Type 0} {a b c d : Tree} (old mid xs ys : List X) → mid ≡ old ++ xs → mid ≡ mid ++ ys → 1 ≤ length mid - length old + crosses stretch (first_key level place) (end_key level place)
        → Descends set_of loads_of Names KeepsRest 1 0 0 0 a b → Descends set_of loads_of Names KeepsRest 0 1 0 0 b c
        → Descends set_of loads_of Names KeepsRest (2 * l * (length mid - length old + crosses stretch (first_key l p) (end_key l p))) (l * (length mid - length old + crosses stretch (first_key l p) (end_key l p))) 0 0 c d
        → Descends set_of loads_of Names KeepsRest (2 * level * (length mid - length old + crosses stretch (first_key level place) (end_key level place))) (level * (length mid - length old + crosses stretch (first_key level place) (end_key level place))) 0 0 a d
    first_descends old mid xs ys front back some child count walk =
        let few = both_few old mid mid xs ys front back in
        let low : length mid - length old + crosses stretch (first_key l p) (end_key l p) + 0 ≤ length mid - length old + crosses stretch (first_key level place) (end_key level place) = omega (arith, few) in
        further on (further on child count (le_refl _) (le_refl _) (le_refl _) (le_refl _)) walk (omega (arith, part_nodes level l _ 0 _ e low some)) (omega (arith, part_counts level l _ 0 _ e low some)) (le_refl _) (le_refl _)

-- the keys of a page have few bits
pub page_keys : (set : SetFacts) (k : ℕ) (items : List (ℕ × ℕ)) → IsTreeSet set → items ≡ take 32 (members_from set k) → All (λ p. p.0 < 2 ^ 16) items
page_keys set k items is told = let P : ℕ × ℕ → Type 0 = λ p. p.0 < 2 ^ 16 in
    let each : All P set.pairs = λ i d h. omega (arith, is.is_key_set.below i 0 (omega (arith, h, length-keys_of set.pairs)), key_at set.pairs i d h, pow_mono is.few_bits) in
    subst (All P) (sym told) (All-take P 32 (members_from set k) (All-filter (λ p. leb k p.0 && ltb p.0 (2 ^ set.bits)) P set.pairs each))
