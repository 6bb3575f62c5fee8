-- A list of members and a set, compared below a node of the set's tree: where neither has a member there, and how many both have below its children.
use Rattle.std.proofs.Common.{◌≡◌, ◌≢◌, ◌⊎◌, ◌↔◌, ℕ, ◌+◌, ◌-◌, ◌*◌, ◌^◌, ◌/◌, ◌<◌, ◌≤◌, max, inl, inr, Bool, true, false, List, [], ◌++◌, length, get_or, take, refl, ap, sym, ◌∙◌, subst, arith, true≢false}
use Rattle.std.proofs.Math.Nat.{le_refl, max-eq_left, max-eq_right, mul-le-mul_left, div-lt_iff_lt-mul}
use Rattle.std.proofs.lemmas.Bool.{cases_lt}
use Rattle.std.proofs.lemmas.Nat.{pow_pos}
use Rattle.std.proofs.lemmas.List.{get_or_default}
use Rattle.std.specs.List.Sorted.{IsStrictlyIncreasing}
use Rattle.aug_model.specs.Keys.{SetFacts, keys_of, list_of}
use Rattle.aug_model.specs.NodeKeys.{first_key, end_key, keys_below}
use Rattle.aug_model.specs.Queries.{weight_of, range_of, weighted_range_of}
use Rattle.aug_model.specs.Differences.{differences_in, changes_from}
use Rattle.aug_model.specs.declared.difference.Difference.{Difference}
use Rattle.aug_model.specs.inside.Boundary.{IsBoundary}
use Rattle.aug_model.proofs.Changes.{differences_same, differences_from, weight_of-range}
use Rattle.aug_model.proofs.Pairs.{key_at, keys_of-range, length-keys_of}
use Rattle.aug_model.proofs.Ranges.{Rises, rises_from, range_none, range_within, count_cut, member_counts}
use Rattle.aug_query.specs.Descend.{Descends}
use Rattle.aug_query.specs.DescendBoth.{BothSets}
use Rattle.aug_query.specs.Tree.{IsTreeSet}
use Rattle.aug_query.specs.BothMembers.{members_of_both}
use Rattle.aug_query.specs.inside.Since.{below_both}
use Rattle.aug_query.specs.declared.descent.pages.Stretch.TheVariants.{From}
use Rattle.aug_query.specs.declared.loaded.Loaded.{Loaded}
use Rattle.aug_query.proofs.Boundaries.{boundary_stays, none_between}
use Rattle.aug_query.proofs.Changing.{changes_below}
use Rattle.aug_query.proofs.Choosing.{set_rises}
use Rattle.aug_query.proofs.Descending.{further}
use Rattle.aug_query.proofs.Nodes.{top_first, top_end}
use Rattle.aug_query.proofs.Pages.{begins, ends, low_half, high_half, part_empty, part_nodes, part_counts}

-- a list and a set, of which no nodes are seen to be the same
abbrev pub beside : SetFacts → SetFacts → BothSets
beside earlier later = record { earlier = earlier; later = later; same = λ level place. false }

-- ---- where nothing is compared

-- a node that is reached has a key from k on, and one that is not has none
pub reached : (k level place : ℕ) → k / 2 ^ level ≤ place → k < end_key level place
reached k level place low = let iff = div-lt_iff_lt-mul {k = 2 ^ level} {x = k} {y = place + 1} (pow_pos level) in iff.0 (omega (arith, low))

pub passed_place : (keys : List ℕ) (k level place next : ℕ) → place < k / 2 ^ level → IsBoundary keys (max (first_key level place) k) next → IsBoundary keys (max (end_key level place) k) next
passed_place keys k level place next passed at =
    let iff = div-lt_iff_lt-mul {k = 2 ^ level} {x = k} {y = place + 1} (pow_pos level) in
    let past : end_key level place ≤ k = elim (cases_lt k (end_key level place)) [ inl within ↦ absurd (let low = iff.1 within in omega (arith, low, passed)) | inr beyond ↦ beyond ] in
    let width = mul-le-mul_left (2 ^ level) (le_refl place) in
    let first : max (first_key level place) k ≡ k = max-eq_right {n = first_key level place} {m = k} (omega (arith, past, pow_pos level)) in
    let end : max (end_key level place) k ≡ k = max-eq_right {n = end_key level place} {m = k} past in
    subst (λ (n : ℕ). IsBoundary keys n next) (first ∙ sym end) at

-- the list's next member is not below a node's end
pub none_under : (ps : List (ℕ × ℕ)) (next level place : ℕ) {b : Bool} → ((b ≡ true) ↔ ((next < length ps) × ((get_or ps next (0, 0)).0 < end_key level place))) → b ≡ false → next < length ps → end_key level place ≤ (get_or ps next (0, 0)).0
none_under ps next level place iff out within = elim (cases_lt (get_or ps next (0, 0)).0 (end_key level place)) [ inl low ↦ absurd (true≢false (sym (iff.1 (within, low)) ∙ out)) | inr high ↦ high ]

-- nothing changed among keys of which neither has one
none_changes : (p q : List (ℕ × ℕ)) (a b : ℕ) → weighted_range_of p a b ≡ [] → weighted_range_of q a b ≡ [] → differences_in p q a b ≡ []
none_changes p q a b here there = differences_same p q a b (λ x from to.
    sym (weight_of-range p x a b from to) ∙ ap (λ (xs : List (ℕ × ℕ)). weight_of xs x) (here ∙ sym there) ∙ weight_of-range q x a b from to)

module _ (earlier later : SetFacts) (k level place next : ℕ) (up : IsStrictlyIncreasing (list_of earlier)) (at : IsBoundary (list_of earlier) (max (first_key level place) k) next) (reaches : k / 2 ^ level ≤ place)
    (least : next < length earlier.pairs → end_key level place ≤ (get_or earlier.pairs next (0, 0)).0) where
  end_is : max (end_key level place) k ≡ end_key level place
  end_is = max-eq_left {n = end_key level place} {m = k} (omega (arith, reached k level place reaches))

  moved : IsBoundary (list_of earlier) (end_key level place) next
  moved = boundary_stays earlier.pairs (max (first_key level place) k) next up at (end_key level place)
      (let high = reached k level place reaches in let width = pow_pos level in omega (arith, high, width)) least

  -- the list's place stays, if its next member is not below the node
  pub empty_place : IsBoundary (list_of earlier) (max (end_key level place) k) next
  empty_place = subst (λ (n : ℕ). IsBoundary (list_of earlier) n next) (sym end_is) moved

  -- and nothing changed, if the set has no member there either
  pub empty_changes : (n : ℕ) → IsTreeSet later → n ≡ length (keys_below (list_of later) level place) → n ≡ 0 → changes_below (beside earlier later) k level place ≡ []
  empty_changes n is counts none = none_changes earlier.pairs later.pairs (max (first_key level place) k) (end_key level place)
      (none_between earlier.pairs (max (first_key level place) k) (end_key level place) next at moved) (part_empty later (From k) level place n is counts none)

-- ---- how many members are compared

-- as many as there are keys
length_of : (ps : List (ℕ × ℕ)) (a b : ℕ) → length (weighted_range_of ps a b) ≡ length (range_of (keys_of ps) a b)
length_of ps a b = sym (length-keys_of (weighted_range_of ps a b)) ∙ ap length (keys_of-range ps a b)

-- those from k on in an interval that is cut in two
count_from : (ps : List (ℕ × ℕ)) (k a m b : ℕ) → Rises (keys_of ps) → a ≤ m → m ≤ b
    → length (weighted_range_of ps (max a k) b) ≡ length (weighted_range_of ps (max a k) m) + length (weighted_range_of ps (max m k) b)
count_from ps k a m b rises low high =
    let whole = length_of ps (max a k) b in let front = length_of ps (max a k) m in let back = length_of ps (max m k) b in
    elim (cases_lt m k) [
      | inl past ↦
          let mine : max a k ≡ k = max-eq_right {n = a} {m = k} (omega (arith, low, past)) in
          let other : max m k ≡ k = max-eq_right {n = m} {m = k} (omega (arith, past)) in
          let none = ap length (range_none (keys_of ps) (max a k) m (omega (arith, mine, past))) in
          omega (arith, whole, front, back, none, ap (λ (n : ℕ). length (range_of (keys_of ps) n b)) (mine ∙ sym other))
      | inr within ↦
          let other : max m k ≡ m = max-eq_left {n = m} {m = k} within in
          let few : max a k ≤ m = omega (arith, low, within) in
          omega (arith, whole, front, back, count_cut (keys_of ps) (max a k) m b rises few high, ap (λ (n : ℕ). length (range_of (keys_of ps) n b)) other)
    ]

-- a node has a member of either, or keys on both sides of k
pub some_below : (earlier later : SetFacts) (k level place next n : ℕ) → IsStrictlyIncreasing (list_of earlier) → IsBoundary (list_of earlier) (max (first_key level place) k) next → k / 2 ^ level ≤ place → n ≡ length (keys_below (list_of later) level place)
    → (n ≢ 0) ⊎ ((next < length earlier.pairs) × ((get_or earlier.pairs next (0, 0)).0 < end_key level place)) → 1 ≤ below_both earlier.pairs later.pairs k level place
some_below earlier later k level place next n up at reaches counts some =
    let a = first_key level place in let b = end_key level place in
    elim (cases_lt a k) [
      | inl crossed ↦ omega (arith, crossed, reached k level place reaches)
      | inr all ↦
          let here : max a k ≡ a = max-eq_left {n = a} {m = k} all in
          elim some [
            | inl member ↦ omega (arith, member, counts, length_of later.pairs a b, ap (λ (z : ℕ). length (weighted_range_of later.pairs z b)) here)
            | inr (within, low) ↦
                let long = length-keys_of earlier.pairs in let key = (get_or earlier.pairs next (0, 0)).0 in let same = key_at earlier.pairs next (0, 0) within in
                let from : a ≤ key = omega (arith, same, here, at.back next (le_refl next) (omega (arith, within, long))) in
                let one = member_counts (list_of earlier) key next (omega (arith, within, long)) (get_or_default (list_of earlier) next key 0 (omega (arith, within, long)) ∙ same) in
                let few = range_within (list_of earlier) a key (key + 1) b (rises_from (list_of earlier) up) from (omega arith) (omega (arith, low)) in
                omega (arith, one, few, length_of earlier.pairs a b, ap (λ (z : ℕ). length (weighted_range_of earlier.pairs z b)) here)
          ]
    ]

module _ (k level l place : ℕ) (e : l + 1 ≡ level) where
  -- the children have no more than their node
  pub children_below : (earlier later : SetFacts) → Rises (list_of earlier) → Rises (list_of later)
      → below_both earlier.pairs later.pairs k l (2 * place) + below_both earlier.pairs later.pairs k l (2 * place + 1) ≤ below_both earlier.pairs later.pairs k level place
  children_below earlier later up rises =
      let a = first_key level place in let m = end_key l (2 * place) in let b = end_key level place in
      let first = begins level l place e in let end = ends level l place e in
      let low = low_half level l place e in let high = high_half level l place e in
      let one = count_from earlier.pairs k a m b up low high in let other = count_from later.pairs k a m b rises low high in
      let p = λ (x y : ℕ). length (weighted_range_of earlier.pairs (max x k) y) in let q = λ (x y : ℕ). length (weighted_range_of later.pairs (max x k) y) in
      omega (arith, one, other, first, end, low, high, ap (λ (x : ℕ). p x m) first, ap (λ (x : ℕ). q x m) first, ap (p m) end, ap (q m) end)

  -- the place in the list before the first child's keys, and those behind the first one's and the second one's
  pub first_place : (keys : List ℕ) (next : ℕ) → IsBoundary keys (max (first_key level place) k) next → IsBoundary keys (max (first_key l (2 * place)) k) next
  first_place keys next at = subst (λ (n : ℕ). IsBoundary keys (max n k) next) (sym (begins level l place e)) at

  pub second_place : (keys : List ℕ) (next : ℕ) → IsBoundary keys (max (end_key l (2 * place)) k) next → IsBoundary keys (max (first_key l (2 * place + 1)) k) next
  second_place keys next at = at

  pub last_place : (keys : List ℕ) (next : ℕ) → IsBoundary keys (max (end_key l (2 * place + 1)) k) next → IsBoundary keys (max (end_key level place) k) next
  last_place keys next at = subst (λ (n : ℕ). IsBoundary keys (max n k) next) (ends level l place e) at

  -- the loads of the descents into both children, and of the children themselves
  module _ {Tree Name : Type 0} {set_of : Tree → SetFacts} {loads_of : Tree → Loaded} {Names : Tree → ℕ → ℕ → Name → Type 0} {KeepsRest : Tree → Tree → Type 0} (on : (first tree last : Tree) → KeepsRest first tree → KeepsRest tree last → KeepsRest first last)
      (earlier set low high : SetFacts) (up : Rises (list_of earlier)) (is : IsTreeSet set) (same : low ≡ set) (some : 1 ≤ below_both earlier.pairs set.pairs k level place) where
    pub both_load : {a b c d f h : Tree} → high ≡ set
        → Descends set_of loads_of Names KeepsRest 1 0 0 0 a b → Descends set_of loads_of Names KeepsRest 0 1 0 0 b c
        → Descends set_of loads_of Names KeepsRest (2 * l * below_both earlier.pairs low.pairs k l (2 * place)) (l * below_both earlier.pairs low.pairs k l (2 * place)) 0 0 c d
        → Descends set_of loads_of Names KeepsRest 1 0 0 0 d f
        → Descends set_of loads_of Names KeepsRest (2 * l * below_both earlier.pairs high.pairs k l (2 * place + 1)) (l * below_both earlier.pairs high.pairs k l (2 * place + 1)) 0 0 f h
        → Descends set_of loads_of Names KeepsRest (2 * level * below_both earlier.pairs set.pairs k level place) (level * below_both earlier.pairs set.pairs k level place) 0 0 a h
    both_load alike child count walk other rest =
        let few = children_below earlier set up (set_rises is) in
        let mine = ap (λ (s : SetFacts). below_both earlier.pairs s.pairs k l (2 * place)) same in
        let theirs = ap (λ (s : SetFacts). below_both earlier.pairs s.pairs k l (2 * place + 1)) alike in
        let all : below_both earlier.pairs low.pairs k l (2 * place) + below_both earlier.pairs high.pairs k l (2 * place + 1) ≤ below_both earlier.pairs set.pairs k level place = omega (arith, few, mine, theirs) in
        let first = further on (further on child count (le_refl _) (le_refl _) (le_refl _) (le_refl _)) walk (le_refl _) (le_refl _) (le_refl _) (le_refl _) in
        let next = further on first other (le_refl _) (le_refl _) (le_refl _) (le_refl _) in
        further on next rest (part_nodes level l _ _ _ e all some) (part_counts level l _ _ _ e all some) (le_refl _) (le_refl _)

    -- and into the first one alone
    pub first_load : {a b c d : Tree}
        → Descends set_of loads_of Names KeepsRest 1 0 0 0 a b → Descends set_of loads_of Names KeepsRest 0 1 0 0 b c
        → Descends set_of loads_of Names KeepsRest (2 * l * below_both earlier.pairs low.pairs k l (2 * place)) (l * below_both earlier.pairs low.pairs k l (2 * place)) 0 0 c d
        → Descends set_of loads_of Names KeepsRest (2 * level * below_both earlier.pairs set.pairs k level place) (level * below_both earlier.pairs set.pairs k level place) 0 0 a d
    first_load child count walk =
        let few = children_below earlier set up (set_rises is) in
        let mine = ap (λ (s : SetFacts). below_both earlier.pairs s.pairs k l (2 * place)) same in
        let all : below_both earlier.pairs low.pairs k l (2 * place) + 0 ≤ below_both earlier.pairs set.pairs k level place = omega (arith, few, mine) in
        further on (further on child count (le_refl _) (le_refl _) (le_refl _) (le_refl _)) walk (omega (arith, part_nodes level l _ 0 _ e all some)) (omega (arith, part_counts level l _ 0 _ e all some)) (le_refl _) (le_refl _)

-- ---- from the top on

module _ (earlier later : SetFacts) (k level : ℕ) (top : level ≡ later.bits) where
  from_is : max (first_key level 0) k ≡ k
  from_is = max-eq_right {n = first_key level 0} {m = k} (let first = top_first level 0 refl in omega arith)

  to_is : end_key level 0 ≡ 2 ^ later.bits
  to_is = top_end level 0 later.bits top refl

  -- the whole page, where the set is written in another way
  pub whole_page : (other : SetFacts) (old new : List Difference) → other ≡ later → old ≡ [] → new ≡ old ++ take (32 - length old) (changes_below (beside earlier other) k level 0) → new ≡ take 32 (changes_from earlier later k)
  whole_page other old new same none given =
      let p = earlier.pairs in let q = later.pairs in
      let whole : changes_below (beside earlier later) k level 0 ≡ changes_from earlier later k = (λ i. differences_in p q (from_is i) (to_is i)) ∙ sym (differences_from p q k (2 ^ later.bits)) in
      given ∙ ap (λ (s : SetFacts). old ++ take (32 - length old) (changes_below (beside earlier s) k level 0)) same ∙ ap (λ (z : List Difference). z ++ take (32 - length z) (changes_below (beside earlier later) k level 0)) none ∙ ap (take 32) whole

  -- what is compared for it
  whole_few : below_both earlier.pairs later.pairs k level 0 ≤ members_of_both earlier later k + 1
  whole_few =
      let one : length (weighted_range_of earlier.pairs (max (first_key level 0) k) (end_key level 0)) ≡ length (weighted_range_of earlier.pairs k (2 ^ later.bits)) = λ i. length (weighted_range_of earlier.pairs (from_is i) (to_is i)) in
      let other : length (weighted_range_of later.pairs (max (first_key level 0) k) (end_key level 0)) ≡ length (weighted_range_of later.pairs k (2 ^ later.bits)) = λ i. length (weighted_range_of later.pairs (from_is i) (to_is i)) in
      omega (arith, one, other)

  -- and what is loaded
  pub whole_load : {Tree Name : Type 0} {set_of : Tree → SetFacts} {loads_of : Tree → Loaded} {Names : Tree → ℕ → ℕ → Name → Type 0} {KeepsRest : Tree → Tree → Type 0} → ((first tree last : Tree) → KeepsRest first tree → KeepsRest tree last → KeepsRest first last)
      → (other : SetFacts) {a b c d : Tree} → other ≡ later → Descends set_of loads_of Names KeepsRest 1 0 0 0 a b → Descends set_of loads_of Names KeepsRest 0 1 0 0 b c
      → Descends set_of loads_of Names KeepsRest (2 * level * below_both earlier.pairs other.pairs k level 0) (level * below_both earlier.pairs other.pairs k level 0) 0 0 c d
      → Descends set_of loads_of Names KeepsRest (2 * later.bits * (members_of_both earlier later k + 1) + 1) (later.bits * (members_of_both earlier later k + 1) + 1) 0 0 a d
  whole_load on other same load count walk =
      let n = below_both earlier.pairs other.pairs k level 0 in let most = members_of_both earlier later k + 1 in
      let few : n ≤ most = omega (arith, whole_few, ap (λ (s : SetFacts). below_both earlier.pairs s.pairs k level 0) same) in
      let nodes : 2 * level * n ≤ 2 * later.bits * most = let each = mul-le-mul_left (2 * level) few in omega (arith, each, ap (λ (j : ℕ). 2 * j * most) top) in
      let counts : level * n ≤ later.bits * most = let each = mul-le-mul_left level few in omega (arith, each, ap (λ (j : ℕ). j * most) top) in
      further on (further on load count (le_refl _) (le_refl _) (le_refl _) (le_refl _)) walk (omega (arith, nodes)) (omega (arith, counts)) (le_refl _) (le_refl _)
