-- What changed below nodes at a level and a place of two trees: nothing, where they are the same, and else what changed below their children; and how
-- much is loaded to find it.
use Rattle.std.proofs.Common.{◌≡◌, ℕ, zero, suc, All, filter, map, drop, get_or, ◌∷◌, ◌+◌, ◌-◌, ◌*◌, ◌^◌, ◌/◌, ◌<◌, ◌≤◌, max, inl, inr, leb, ◌||◌, Bool, true, false, if◌then◌else◌, List, [], ◌++◌, length, take, refl, ap, sym, ◌∙◌, subst, arith}
use Rattle.std.proofs.Math.Nat.{le_refl, max-eq_left, max-eq_right, le-max_left, le-max_right, mul-le-mul_left, div-lt_iff_lt-mul}
use Rattle.std.proofs.Math.Pow.{pow_mono}
use Rattle.std.proofs.lemmas.Bool.{cases_Bool, cases_lt, lt-leb}
use Rattle.std.proofs.lemmas.Nat.{pow_pos}
use Rattle.std.specs.List.{range_with_len}
use Rattle.std.proofs.lemmas.List.Elements.{All-filter, All-map, All-take}
use Rattle.std.proofs.lemmas.List.FromFn.{get_or-range_with_len, length-range_with_len}
use Rattle.aug_model.specs.Keys.{SetFacts}
use Rattle.aug_model.specs.Queries.{weight_of}
use Rattle.aug_model.specs.NodeKeys.{first_key, end_key}
use Rattle.aug_model.specs.Differences.{changes_between, changes_from, difference_at, differences_in, weighs_otherwise}
use Rattle.aug_model.specs.declared.difference.Difference.{Difference}
use Rattle.aug_model.proofs.Changes.{differences_same, differences_none, differences_cut, differences_from, weight_of-range}
use Rattle.aug_query.specs.Tree.{IsTreeSet}
use Rattle.aug_query.specs.DescendBoth.{BothSets, AreBoth, StandInBoth, nodes_that_differ, DescendsBoth}
use Rattle.aug_query.proofs.Nodes.{top_first, top_end}
use Rattle.aug_query.proofs.Pages.{begins, ends, low_half, high_half, page_joined, takes_none, takes_nothing}

-- what changed of the keys from k on that the nodes at a level and a place cover
abbrev pub changes_below : BothSets → ℕ → ℕ → ℕ → List Difference
changes_below both k level place = differences_in both.earlier.pairs both.later.pairs (max (first_key level place) k) (end_key level place)

module _ (both : BothSets) (k level place : ℕ) where
  -- places are few
  pub few_places : StandInBoth both level place → place < 65536
  few_places stand = let few = pow_mono {i = both.earlier.bits} {j = 16} stand.are_both.is_earlier.few_bits in let fits = stand.place_fits in let each = mul-le-mul_left (place + 1) (pow_pos level) in omega arith

  -- nothing, where the nodes are the same
  pub same_changes : StandInBoth both level place → both.same level place ≡ true → changes_below both k level place ≡ []
  same_changes stand same = differences_same both.earlier.pairs both.later.pairs (max (first_key level place) k) (end_key level place) (λ x low high.
      let from : first_key level place ≤ x = omega (arith, low, le-max_left (first_key level place) k) in
      sym (weight_of-range both.earlier.pairs x (first_key level place) (end_key level place) from high) ∙ ap (λ ps. weight_of ps x) (stand.same_below same) ∙ weight_of-range both.later.pairs x (first_key level place) (end_key level place) from high)

  -- nor where they cover no key from k on
  pub passed_changes : place < k / 2 ^ level → changes_below both k level place ≡ []
  passed_changes passed = let iff = div-lt_iff_lt-mul {k = 2 ^ level} {x = k} {y = place + 1} (pow_pos level) in
      differences_none both.earlier.pairs both.later.pairs (max (first_key level place) k) (end_key level place) (elim (cases_lt k (end_key level place)) [
        | inl within ↦ absurd (let low = iff.1 within in omega (arith, low, passed))
        | inr past ↦ omega (arith, past, le-max_right (first_key level place) k)
      ])

-- the keys of a page of changes have few bits
pub changed_keys : (earlier later : SetFacts) (k : ℕ) (items : List Difference) → IsTreeSet later → items ≡ take 32 (changes_from earlier later k) → All (λ d. d.key < 2 ^ 16) items
changed_keys earlier later k items is told =
    let P : Difference → Type 0 = λ d. d.key < 2 ^ 16 in
    let differs = weighs_otherwise earlier.pairs later.pairs in
    let keys = range_with_len 0 (2 ^ later.bits - 0) in
    let each : All (λ x. x < 2 ^ 16) keys = λ i d h. omega (arith, get_or-range_with_len 0 (2 ^ later.bits - 0) i d (omega (arith, h, length-range_with_len 0 (2 ^ later.bits - 0))), h, length-range_with_len 0 (2 ^ later.bits - 0), pow_mono {i = later.bits} {j = 16} is.few_bits) in
    let all : All P (changes_between earlier later) = All-map P (difference_at earlier.pairs later.pairs) (filter differs keys) (All-filter differs (λ x. x < 2 ^ 16) keys each) in
    subst (All P) (sym told) (All-take P 32 (changes_from earlier later k) (All-filter (λ d. leb k d.key) P (changes_between earlier later) all))

-- what is behind one of the changes are those with greater keys
module _ (earlier later : List (ℕ × ℕ)) where
  abbrev of_keys : ℕ → ℕ → List Difference
  of_keys a n = map (difference_at earlier later) (filter (weighs_otherwise earlier later) (range_with_len a n))

  behind_first : (end n a i : ℕ) (none : Difference) → a + suc n ≡ end → ((j : ℕ) → j < length (of_keys (a + 1) n) → of_keys ((get_or (of_keys (a + 1) n) j none).key + 1) (end - ((get_or (of_keys (a + 1) n) j none).key + 1)) ≡ drop (j + 1) (of_keys (a + 1) n))
      → i < length (difference_at earlier later a ∷ of_keys (a + 1) n)
      → of_keys ((get_or (difference_at earlier later a ∷ of_keys (a + 1) n) i none).key + 1) (end - ((get_or (difference_at earlier later a ∷ of_keys (a + 1) n) i none).key + 1)) ≡ drop (i + 1) (difference_at earlier later a ∷ of_keys (a + 1) n)
  behind_first end n a zero none all later_ones within = let left : end - (a + 1) ≡ n = omega (arith, all) in ap (of_keys (a + 1)) left
  behind_first end n a (suc j) none all later_ones within = let next : suc (j + 1) ≡ suc j + 1 = omega arith in
      later_ones j (omega (arith, within)) ∙ ap (λ (m : ℕ). drop m (difference_at earlier later a ∷ of_keys (a + 1) n)) next

  behind_one : (end n a i : ℕ) (none : Difference) → a + n ≡ end → i < length (of_keys a n) → of_keys ((get_or (of_keys a n) i none).key + 1) (end - ((get_or (of_keys a n) i none).key + 1)) ≡ drop (i + 1) (of_keys a n)
  behind_one end zero a i none all within = absurd (omega (arith, within))
  behind_one end (suc n) a i none all within =
      let rest : (j : ℕ) → j < length (of_keys (a + 1) n) → of_keys ((get_or (of_keys (a + 1) n) j none).key + 1) (end - ((get_or (of_keys (a + 1) n) j none).key + 1)) ≡ drop (j + 1) (of_keys (a + 1) n) = λ j less. behind_one end n (a + 1) j none (omega (arith, all)) less in
      let G : List Difference → Type 0 = λ xs. i < length xs → of_keys ((get_or xs i none).key + 1) (end - ((get_or xs i none).key + 1)) ≡ drop (i + 1) xs in
      let by : Bool → List Difference = λ b. map (difference_at earlier later) (if b then a ∷ filter (weighs_otherwise earlier later) (range_with_len (a + 1) n) else filter (weighs_otherwise earlier later) (range_with_len (a + 1) n)) in
      elim (cases_Bool (weighs_otherwise earlier later a)) [
        | inl differs ↦ subst (λ (b : Bool). G (by b)) (sym differs) (behind_first end n a i none all rest) within
        | inr same ↦ subst (λ (b : Bool). G (by b)) (sym same) (rest i) within
      ]

pub changes_behind : (earlier later : SetFacts) (from i : ℕ) (none : Difference) → i < length (changes_from earlier later from) → changes_from earlier later ((get_or (changes_from earlier later from) i none).key + 1) ≡ drop (i + 1) (changes_from earlier later from)
changes_behind earlier later from i none within =
    let p = earlier.pairs in let q = later.pairs in let end = 2 ^ later.bits in
    let whole = differences_from p q from end in
    elim (cases_lt from end) [
      | inl low ↦ subst (λ (xs : List Difference). i < length xs → changes_from earlier later ((get_or xs i none).key + 1) ≡ drop (i + 1) xs) (sym whole)
          (λ less. differences_from p q ((get_or (differences_in p q from end) i none).key + 1) end ∙ behind_one p q end (end - from) from i none (omega (arith, low)) less) within
      | inr past ↦ absurd (omega (arith, within, ap length (whole ∙ differences_none p q from end past)))
    ]

-- the changes among the keys of an interval are those of its two parts
changes_cut : (both : BothSets) (k a m b : ℕ) → a ≤ m → m ≤ b
    → differences_in both.earlier.pairs both.later.pairs (max a k) b ≡ differences_in both.earlier.pairs both.later.pairs (max a k) m ++ differences_in both.earlier.pairs both.later.pairs (max m k) b
changes_cut both k a m b low high = let p = both.earlier.pairs in let q = both.later.pairs in
    elim (cases_lt m k) [
      | inl past ↦
          let mine : max a k ≡ k = max-eq_right {n = a} {m = k} (omega (arith, low, past)) in
          let other : max m k ≡ k = max-eq_right {n = m} {m = k} (omega (arith, past)) in
          ap (λ (n : ℕ). differences_in p q n b) (mine ∙ sym other) ∙ ap (λ (xs : List Difference). xs ++ differences_in p q (max m k) b) (sym (differences_none p q (max a k) m (omega (arith, mine, past))))
      | inr within ↦
          let other : max m k ≡ m = max-eq_left {n = m} {m = k} within in
          let few : max a k ≤ m = omega (arith, low, within) in
          differences_cut p q (max a k) m b few high ∙ ap (λ (n : ℕ). differences_in p q (max a k) m ++ differences_in p q n b) (sym other)
    ]

-- from the tops on they are all changes of the keys from k on
pub page_changes : (both : BothSets) (k level : ℕ) (old new : List Difference) → AreBoth both → level ≡ both.earlier.bits → old ≡ [] → new ≡ old ++ take (32 - length old) (changes_below both k level 0) → new ≡ take 32 (changes_from both.earlier both.later k)
page_changes both k level old new are top none given =
    let p = both.earlier.pairs in let q = both.later.pairs in
    let from : max (first_key level 0) k ≡ k = max-eq_right {n = first_key level 0} {m = k} (let first = top_first level 0 refl in omega arith) in
    let to : end_key level 0 ≡ 2 ^ both.later.bits = top_end level 0 both.later.bits (top ∙ sym are.same_bits) refl in
    let whole : changes_below both k level 0 ≡ changes_from both.earlier both.later k = (λ i. differences_in p q (from i) (to i)) ∙ sym (differences_from p q k (2 ^ both.later.bits)) in
    given ∙ ap (λ (z : List Difference). z ++ take (32 - length z) (changes_below both k level 0)) none ∙ ap (take 32) whole

module _ (k level l place : ℕ) (e : l + 1 ≡ level) where
  -- and so those below nodes are those below their children
  pub changes_children : (both : BothSets) → changes_below both k level place ≡ changes_below both k l (2 * place) ++ changes_below both k l (2 * place + 1)
  changes_children both = let p = both.earlier.pairs in let q = both.later.pairs in
      changes_cut both k (first_key level place) (end_key l (2 * place)) (end_key level place) (low_half level l place e) (high_half level l place e)
      ∙ ap (λ (n : ℕ). differences_in p q (max n k) (end_key l (2 * place)) ++ differences_in p q (max (end_key l (2 * place)) k) (end_key level place)) (sym (begins level l place e))
      ∙ ap (λ (n : ℕ). changes_below both k l (2 * place) ++ differences_in p q (max (end_key l (2 * place)) k) n) (sym (ends level l place e))

  -- a page after those of both children, where the sets are written in another way
  pub both_changes : (both low high : BothSets) (old mid new : List Difference) → low ≡ both → high ≡ both → mid ≡ old ++ take (32 - length old) (changes_below low k l (2 * place)) → new ≡ mid ++ take (32 - length mid) (changes_below high k l (2 * place + 1))
      → new ≡ old ++ take (32 - length old) (changes_below both k level place)
  both_changes both low high old mid new same alike first next =
      page_joined 32 old mid new (changes_below both k l (2 * place)) (changes_below both k l (2 * place + 1))
      (first ∙ ap (λ (b : BothSets). old ++ take (32 - length old) (changes_below b k l (2 * place))) same) (next ∙ ap (λ (b : BothSets). mid ++ take (32 - length mid) (changes_below b k l (2 * place + 1))) alike)
      ∙ ap (λ (xs : List Difference). old ++ take (32 - length old) xs) (sym (changes_children both))

  -- and after those of the left ones alone, if that has filled it
  pub first_changes : (both low : BothSets) (old mid : List Difference) → low ≡ both → 32 - length mid ≡ 0 → mid ≡ old ++ take (32 - length old) (changes_below low k l (2 * place)) → mid ≡ old ++ take (32 - length old) (changes_below both k level place)
  first_changes both low old mid same full first = both_changes both low both old mid mid same refl first (takes_none (32 - length mid) mid (changes_below both k l (2 * place + 1)) full)

  -- and after those of the right ones alone, if the left ones cover no key from k on
  pub last_changes : (both high : BothSets) (old new : List Difference) → high ≡ both → 2 * place < k / 2 ^ l → new ≡ old ++ take (32 - length old) (changes_below high k l (2 * place + 1)) → new ≡ old ++ take (32 - length old) (changes_below both k level place)
  last_changes both high old new same passed given =
      both_changes both both high old old new refl same (takes_nothing (32 - length old) old (changes_below both k l (2 * place)) (passed_changes both k l (2 * place) passed)) given

  -- nodes that differ and cover keys from k on are counted beside those below them
  pub counted_nodes : (same : ℕ → ℕ → Bool) → same level place ≡ false → k / 2 ^ level ≤ place → nodes_that_differ same k level place ≡ 1 + (nodes_that_differ same k l (2 * place) + nodes_that_differ same k l (2 * place + 1))
  unfolding nodes_that_differ
  counted_nodes same differ reaches = subst (λ (z : ℕ). same z place ≡ false → k / 2 ^ z ≤ place → nodes_that_differ same k z place ≡ 1 + (nodes_that_differ same k l (2 * place) + nodes_that_differ same k l (2 * place + 1))) next counted differ reaches
    where
      next : suc l ≡ level
      next = omega arith

      counted : same (suc l) place ≡ false → k / 2 ^ suc l ≤ place → nodes_that_differ same k (suc l) place ≡ 1 + (nodes_that_differ same k l (2 * place) + nodes_that_differ same k l (2 * place + 1))
      counted differs low = let iff = div-lt_iff_lt-mul {k = 2 ^ suc l} {x = k} {y = place + 1} (pow_pos (suc l)) in
          let past : k < end_key (suc l) place = iff.0 (omega (arith, low)) in
          ap (λ (b : Bool). if b || same (suc l) place then 0 else 1 + (nodes_that_differ same k l (2 * place) + nodes_that_differ same k l (2 * place + 1))) (lt-leb (end_key (suc l) place) k past)
          ∙ ap (λ (b : Bool). if b then 0 else 1 + (nodes_that_differ same k l (2 * place) + nodes_that_differ same k l (2 * place + 1))) differs

module _ {Trees Name : Type 0} {both_of : Trees → BothSets} {loads_of : Trees → ℕ} {Names : Trees → ℕ → ℕ → Name → Type 0} {KeepsRest : Trees → Trees → Type 0} where
  -- a descent, and then another
  pub both_further : {n m j : ℕ} {old trees new : Trees} → ((first trees last : Trees) → KeepsRest first trees → KeepsRest trees last → KeepsRest first last)
      → DescendsBoth both_of loads_of Names KeepsRest n old trees → DescendsBoth both_of loads_of Names KeepsRest m trees new → n + m ≤ j → DescendsBoth both_of loads_of Names KeepsRest j old new
  both_further {old = old} {trees = trees} {new = new} on walk step few = record {
    same_sets = step.same_sets ∙ walk.same_sets;
    few_loads = omega (arith, walk.few_loads, step.few_loads);
    keeps_names = λ level place name has. step.keeps_names level place name (walk.keeps_names level place name has);
    keeps_rest = on old trees new walk.keeps_rest step.keeps_rest;
  }

  module _ (on : (first trees last : Trees) → KeepsRest first trees → KeepsRest trees last → KeepsRest first last) (k level l place : ℕ) (e : l + 1 ≡ level) (both low high : BothSets) (differ : both.same level place ≡ false) (reaches : k / 2 ^ level ≤ place) where
    -- the loads below both children, and of the children themselves
    pub both_loads : {a b c d f : Trees} → low ≡ both → high ≡ both
        → DescendsBoth both_of loads_of Names KeepsRest 1 a b → DescendsBoth both_of loads_of Names KeepsRest (2 * nodes_that_differ low.same k l (2 * place)) b c
        → DescendsBoth both_of loads_of Names KeepsRest 1 c d → DescendsBoth both_of loads_of Names KeepsRest (2 * nodes_that_differ high.same k l (2 * place + 1)) d f
        → DescendsBoth both_of loads_of Names KeepsRest (2 * nodes_that_differ both.same k level place) a f
    both_loads same alike first below second rest =
        let all = counted_nodes k level l place e both.same differ reaches in
        let mine = ap (λ (b : BothSets). nodes_that_differ b.same k l (2 * place)) same in
        let other = ap (λ (b : BothSets). nodes_that_differ b.same k l (2 * place + 1)) alike in
        both_further on (both_further on (both_further on first below (le_refl _)) second (le_refl _)) rest (omega (arith, all, mine, other))

    -- and below the left ones alone
    pub first_loads : {a b c : Trees} → low ≡ both → DescendsBoth both_of loads_of Names KeepsRest 1 a b → DescendsBoth both_of loads_of Names KeepsRest (2 * nodes_that_differ low.same k l (2 * place)) b c
        → DescendsBoth both_of loads_of Names KeepsRest (2 * nodes_that_differ both.same k level place) a c
    first_loads same first below =
        let all = counted_nodes k level l place e both.same differ reaches in
        let mine = ap (λ (b : BothSets). nodes_that_differ b.same k l (2 * place)) same in
        both_further on first below (omega (arith, all, mine))

    -- and below the right ones alone
    pub last_loads : {a b c : Trees} → high ≡ both → DescendsBoth both_of loads_of Names KeepsRest 1 a b → DescendsBoth both_of loads_of Names KeepsRest (2 * nodes_that_differ high.same k l (2 * place + 1)) b c
        → DescendsBoth both_of loads_of Names KeepsRest (2 * nodes_that_differ both.same k level place) a c
    last_loads alike second rest =
        let all = counted_nodes k level l place e both.same differ reaches in
        let other = ap (λ (b : BothSets). nodes_that_differ b.same k l (2 * place + 1)) alike in
        both_further on second rest (omega (arith, all, other))

-- no nodes are counted where all are the same
none_if : (b c : Bool) (n : ℕ) → c ≡ true → (if b || c then 0 else n) ≡ 0
none_if true c n same = refl
none_if false c n same = ap (λ (z : Bool). if z then 0 else n) same

pub none_differ : (same : ℕ → ℕ → Bool) (k : ℕ) → ((level place : ℕ) → same level place ≡ true) → (level place : ℕ) → nodes_that_differ same k level place ≡ 0
unfolding nodes_that_differ
none_differ same k all zero place = refl
none_differ same k all (suc level) place = none_if (leb (end_key (suc level) place) k) (same (suc level) place) (1 + (nodes_that_differ same k level (2 * place) + nodes_that_differ same k level (2 * place + 1))) (all (suc level) place)
