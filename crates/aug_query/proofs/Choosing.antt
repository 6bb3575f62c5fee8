-- Which child of a node covers its i-th member, and what the members of both children come to.
use Rattle.std.proofs.Common.{◌≡◌, ◌≢◌, ℕ, ◌+◌, ◌-◌, ◌*◌, ◌^◌, ◌<◌, ◌≤◌, List, [], ◌∷◌, ◌++◌, length, None, inl, inr, refl, ap, sym, ◌∙◌, arith, length-append, append_assoc}
use Rattle.std.proofs.Math.Nat.{le_refl, le_trans, mul-le-mul_left}
use Rattle.std.proofs.Math.Pow.{pow_mono}
use Rattle.std.proofs.lemmas.Nat.{pow_pos}
use Rattle.std.proofs.lemmas.List.{append-nil}
use Rattle.aug_model.specs.Keys.{SetFacts, list_of}
use Rattle.aug_model.specs.Queries.{rank_of, select_of, range_of, weight_in}
use Rattle.aug_model.proofs.Ranges.{Rises, AllBelow, rises_from, all_below_from, range_whole, range_of_one, no_members}
use Rattle.aug_query.specs.Tree.{IsTreeSet}
use Rattle.aug_model.specs.NodeKeys.{first_key, end_key, keys_below}
use Rattle.aug_query.specs.Descend.{Descends}
use Rattle.aug_query.specs.declared.loaded.Loaded.{Loaded}
use Rattle.aug_query.proofs.Nodes.{left_low, right_high, top_first, top_end, leaf_is}
use Rattle.aug_query.proofs.Orders.{select_past}
use Rattle.aug_query.proofs.Placed.{children_cover}
use Rattle.aug_query.proofs.Descending.{rank_before_right, further}
use Rattle.aug_query.proofs.Listed.{items, items-append}

-- the places of a node's children are few
pub child_fits : (set : SetFacts) (level l place : ℕ) → IsTreeSet set → l + 1 ≡ level → end_key level place ≤ 2 ^ set.bits → 2 * place + 1 < 2 ^ 16
child_fits set level l place is e fits =
    let few = le_trans fits (pow_mono is.few_bits) in
    let high = right_high level place l (2 * place + 1) e refl in
    let wide : (2 * place + 1 + 1) * 1 ≤ (2 * place + 1 + 1) * 2 ^ l = mul-le-mul_left (2 * place + 1 + 1) (pow_pos l) in
    omega (arith, high, wide, few)

-- a count of the members below a node, where its set is written in another way
pub count_of : (set other : SetFacts) (level place n : ℕ) → other ≡ set → n ≡ length (keys_below (list_of other) level place) → n ≡ length (keys_below (list_of set) level place)
count_of set other level place n same is = is ∙ ap (λ s. length (keys_below (list_of s) level place)) same

-- a node covers what its two children cover
pub children_below : (keys : List ℕ) (level l place : ℕ) → Rises keys → l + 1 ≡ level → keys_below keys l (2 * place) ++ keys_below keys l (2 * place + 1) ≡ keys_below keys level place
children_below keys level l place rises e = children_cover keys l place rises ∙ ap (λ n. keys_below keys n place) e

-- as many members as they do
pub children_length : (keys : List ℕ) (level l place : ℕ) → Rises keys → l + 1 ≡ level → length (keys_below keys level place) ≡ length (keys_below keys l (2 * place)) + length (keys_below keys l (2 * place + 1))
children_length keys level l place rises e = sym (ap length (children_below keys level l place rises e)) ∙ length-append (keys_below keys l (2 * place)) (keys_below keys l (2 * place + 1))

-- the i-th member of a node is its left child's i-th, where that covers more
pub chosen_left : (keys : List ℕ) (level place i : ℕ) → rank_of keys (first_key level (2 * place)) + i ≡ rank_of keys (first_key (level + 1) place) + i
chosen_left keys level place i = ap (λ a. rank_of keys a + i) (left_low (level + 1) place level (2 * place) refl refl)

-- and else it is the right child's, with fewer members below it by those of the left one
pub chosen_right : (keys : List ℕ) (level place n i : ℕ) → Rises keys → n ≡ length (keys_below keys level (2 * place)) → n ≤ i → rank_of keys (first_key level (2 * place + 1)) + (i - n) ≡ rank_of keys (first_key (level + 1) place) + i
chosen_right keys level place n i rises is h = let cut = rank_before_right keys level place n rises is in omega (arith, cut)

-- the right child covers more than these
pub chosen_within : (keys : List ℕ) (level place n i : ℕ) → Rises keys → n ≡ length (keys_below keys level (2 * place)) → n ≤ i → i < length (keys_below keys (level + 1) place) → i - n < length (keys_below keys level (2 * place + 1))
chosen_within keys level place n i rises is h within = let both = children_length keys (level + 1) level place rises refl in omega (arith, both, is)

-- the members of a tree's set rise
pub set_rises : {set : SetFacts} → IsTreeSet set → Rises (list_of set)
set_rises {set = set} is = rises_from (list_of set) is.is_key_set.rising

-- and are below the end of its keys
pub set_below : {set : SetFacts} → IsTreeSet set → AllBelow (2 ^ set.bits) (list_of set)
set_below {set = set} is = all_below_from (2 ^ set.bits) (list_of set) is.is_key_set.below

-- the node at the level of all bits covers every member
pub whole_below : (set : SetFacts) (level : ℕ) → IsTreeSet set → level ≡ set.bits → keys_below (list_of set) level 0 ≡ list_of set
whole_below set level is e =
    ap (λ a. range_of (list_of set) a (end_key level 0)) (top_first level 0 refl) ∙ ap (λ b. range_of (list_of set) 0 b) (top_end level 0 set.bits e refl) ∙ range_whole (list_of set) (2 ^ set.bits) (set_below is)

-- and its count is how many there are
pub whole_length : (set other : SetFacts) (level n : ℕ) → IsTreeSet set → level ≡ set.bits → other ≡ set → n ≡ length (keys_below (list_of other) level 0) → n ≡ length (list_of set)
whole_length set other level n is e same count = count_of set other level 0 n same count ∙ ap length (whole_below set level is e)

-- no member has as many members below it as there are
pub chosen_past : (set : SetFacts) (i n : ℕ) → IsTreeSet set → n ≡ length (list_of set) → n ≤ i → None ≡ select_of (list_of set) i
chosen_past set i n is count h = sym (select_past (list_of set) i (2 ^ set.bits) (set_rises is) (set_below is) (omega (arith, count)))

-- a right child counts what the left one leaves
pub right_count : (set low high : SetFacts) (level l place n below : ℕ) → IsTreeSet set → l + 1 ≡ level → low ≡ set → high ≡ set → n ≡ length (keys_below (list_of set) level place) → below ≡ length (keys_below (list_of low) l (2 * place)) → n - below ≡ length (keys_below (list_of high) l (2 * place + 1))
right_count set low high level l place n below is e same alike all left =
    let both = children_length (list_of set) level l place (set_rises is) e in
    let here = count_of set low l (2 * place) below same left in
    let rest : n - below ≡ length (keys_below (list_of set) l (2 * place + 1)) = omega (arith, both, here, all) in
    count_of high set l (2 * place + 1) (n - below) (sym alike) rest

-- and the left one no more than the node
pub left_few : (set low : SetFacts) (level l place n below : ℕ) → IsTreeSet set → l + 1 ≡ level → low ≡ set → n ≡ length (keys_below (list_of set) level place) → below ≡ length (keys_below (list_of low) l (2 * place)) → below ≤ n
left_few set low level l place n below is e same all left =
    let both = children_length (list_of set) level l place (set_rises is) e in
    let here = count_of set low l (2 * place) below same left in
    omega (arith, both, here, all)

-- a leaf that covers a member covers its key alone
pub leaf_below_one : (set : SetFacts) (level place n : ℕ) → IsTreeSet set → level ≡ 0 → n ≡ length (keys_below (list_of set) level place) → n ≢ 0 → keys_below (list_of set) level place ≡ place ∷ []
leaf_below_one set level place n is leaf all some =
    let covers = leaf_is (list_of set) level place leaf in
    elim (range_of_one (list_of set) place (set_rises is)) [
      | inl none ↦ absurd (omega (arith, ap length none, ap length covers, all, some))
      | inr one ↦ covers ∙ one
    ]

module _ {X : Type 0} (item : ℕ → ℕ → X) where
  -- items put at the end of a list, where their set is written in another way
  pub listed_of : (set other : SetFacts) (level place : ℕ) (old new : List X) → other ≡ set → new ≡ old ++ items item other.pairs (keys_below (list_of other) level place) → new ≡ old ++ items item set.pairs (keys_below (list_of set) level place)
  listed_of set other level place old new same is = is ∙ ap (λ s. old ++ items item s.pairs (keys_below (list_of s) level place)) same

  -- those of a left child, and then those of the right one
  pub listed_both : (set low high : SetFacts) (level l place : ℕ) (old list new : List X) → IsTreeSet set → l + 1 ≡ level → low ≡ set → high ≡ set → list ≡ old ++ items item low.pairs (keys_below (list_of low) l (2 * place)) → new ≡ list ++ items item high.pairs (keys_below (list_of high) l (2 * place + 1))
      → new ≡ old ++ items item set.pairs (keys_below (list_of set) level place)
  listed_both set low high level l place old list new is e same alike first next =
      let left = keys_below (list_of set) l (2 * place) in
      let right = keys_below (list_of set) l (2 * place + 1) in
      listed_of set high l (2 * place + 1) list new alike next ∙ ap (λ xs. xs ++ items item set.pairs right) (listed_of set low l (2 * place) old list same first) ∙ append_assoc old (items item set.pairs left) (items item set.pairs right)
      ∙ ap (λ xs. old ++ xs) (sym (items-append item set.pairs left right)) ∙ ap (λ xs. old ++ items item set.pairs xs) (children_below (list_of set) level l place (set_rises is) e)

  -- those of a left child are all, where that counts as many as the node
  pub listed_left : (set low : SetFacts) (level l place n below : ℕ) (old new : List X) → IsTreeSet set → l + 1 ≡ level → low ≡ set → n ≡ length (keys_below (list_of set) level place) → below ≡ length (keys_below (list_of low) l (2 * place)) → n ≤ below → new ≡ old ++ items item low.pairs (keys_below (list_of low) l (2 * place))
      → new ≡ old ++ items item set.pairs (keys_below (list_of set) level place)
  listed_left set low level l place n below old new is e same all count h first =
      let left = keys_below (list_of set) l (2 * place) in
      let right = keys_below (list_of set) l (2 * place + 1) in
      let both = children_length (list_of set) level l place (set_rises is) e in
      let none : length right ≡ 0 = omega (arith, both, all, count_of set low l (2 * place) below same count) in
      let whole : left ≡ keys_below (list_of set) level place = sym (append-nil left) ∙ ap (λ xs. left ++ xs) (sym (no_members right none)) ∙ children_below (list_of set) level l place (set_rises is) e in
      listed_of set low l (2 * place) old new same first ∙ ap (λ xs. old ++ items item set.pairs xs) whole

  -- the item of a leaf's key, where it covers a member
  pub listed_leaf : (set : SetFacts) (level place n weight : ℕ) (made : X) (old new : List X) → IsTreeSet set → level ≡ 0 → n ≡ length (keys_below (list_of set) level place) → n ≢ 0 → weight ≡ weight_in set.pairs place → made ≡ item place weight → new ≡ old ++ made ∷ []
      → new ≡ old ++ items item set.pairs (keys_below (list_of set) level place)
  listed_leaf set level place n weight made old new is e all some weighs told pushed =
      let one = leaf_below_one set level place n is e all some in
      pushed ∙ ap (λ x. old ++ x ∷ []) (told ∙ ap (item place) weighs) ∙ ap (λ xs. old ++ items item set.pairs xs) (sym one)

  -- the items of all members, behind what stood there
  pub listed_after : (set other : SetFacts) (level : ℕ) (old new : List X) → IsTreeSet set → level ≡ set.bits → other ≡ set → new ≡ old ++ items item other.pairs (keys_below (list_of other) level 0) → new ≡ old ++ items item set.pairs (list_of set)
  listed_after set other level old new is e same all =
      listed_of set other level 0 old new same all ∙ ap (λ ks. old ++ items item set.pairs ks) (whole_below set level is e)

  -- those of the top, put into an empty list, are those of all members
  pub listed_whole : (set other : SetFacts) (level : ℕ) (old new : List X) → IsTreeSet set → level ≡ set.bits → other ≡ set → old ≡ [] → new ≡ old ++ items item other.pairs (keys_below (list_of other) level 0) → new ≡ items item set.pairs (list_of set)
  listed_whole set other level old new is e same empty all = listed_after set other level old new is e same all ∙ ap (λ xs. xs ++ items item set.pairs (list_of set)) empty

-- the nodes of a descent into a left child that covers all that its node does, and the left child itself
nodes_for_one : (level l n low : ℕ) → l + 1 ≡ level → low ≡ n → 0 < n → 1 + 0 + 2 * l * low ≤ 2 * level * n
nodes_for_one level l n low e is h = let more : 2 * (l + 1) * n ≡ 2 * l * n + 2 * n = omega arith in omega (arith, more, ap (λ j. 2 * j * n) e, ap (λ k. 2 * l * k) is)

-- the counts of it, and the left child's
counts_for_one : (level l n low : ℕ) → l + 1 ≡ level → low ≡ n → 0 < n → 0 + 1 + l * low ≤ level * n
counts_for_one level l n low e is h = let more : (l + 1) * n ≡ l * n + n = omega arith in omega (arith, more, ap (λ j. j * n) e, ap (λ k. l * k) is)

-- the nodes of descents into both children, and the children themselves
nodes_for_both : (level l n low high : ℕ) → l + 1 ≡ level → n ≡ low + high → 0 < n → 1 + 0 + 2 * l * low + 1 + 2 * l * high ≤ 2 * level * n
nodes_for_both level l n low high e is h =
    let more : 2 * (l + 1) * (low + high) ≡ 2 * l * low + 2 * l * high + 2 * (low + high) = omega arith in
    omega (arith, more, ap (λ j. 2 * j * (low + high)) e, ap (λ k. 2 * level * k) is)

-- the counts of them, and the left child's
counts_for_both : (level l n low high : ℕ) → l + 1 ≡ level → n ≡ low + high → 0 < n → 0 + 1 + l * low + 0 + l * high ≤ level * n
counts_for_both level l n low high e is h =
    let more : (l + 1) * (low + high) ≡ l * low + l * high + (low + high) = omega arith in
    omega (arith, more, ap (λ j. j * (low + high)) e, ap (λ k. level * k) is)

module _ {Tree Name : Type 0} {set_of : Tree → SetFacts} {loads_of : Tree → Loaded} {Names : Tree → ℕ → ℕ → Name → Type 0} {KeepsRest : Tree → Tree → Type 0} (on : (first tree last : Tree) → KeepsRest first tree → KeepsRest tree last → KeepsRest first last) where
  -- a descent to the top, for its count, and to all members
  pub whole_descends : (bits level n all : ℕ) {old loaded counted new : Tree} → level ≡ bits → n ≡ all → Descends set_of loads_of Names KeepsRest 1 0 0 0 old loaded → Descends set_of loads_of Names KeepsRest 0 1 0 0 loaded counted → Descends set_of loads_of Names KeepsRest (2 * level * n) (level * n) 0 0 counted new
      → Descends set_of loads_of Names KeepsRest (2 * bits * all + 1) (bits * all + 1) 0 0 old new
  whole_descends bits level n all e is load count walk =
      let nodes = ap (λ j. 2 * j * n) e ∙ ap (λ k. 2 * bits * k) is in
      let counts = ap (λ j. j * n) e ∙ ap (λ k. bits * k) is in
      further on (further on load count (le_refl _) (le_refl _) (le_refl _) (le_refl _)) walk (omega (arith, nodes)) (omega (arith, counts)) (le_refl _) (le_refl _)

  -- a descent to all members of a node, which are its left child's
  pub left_descends : (level l n low : ℕ) {old loaded counted new : Tree} → l + 1 ≡ level → low ≡ n → 0 < n → Descends set_of loads_of Names KeepsRest 1 0 0 0 old loaded → Descends set_of loads_of Names KeepsRest 0 1 0 0 loaded counted → Descends set_of loads_of Names KeepsRest (2 * l * low) (l * low) 0 0 counted new
      → Descends set_of loads_of Names KeepsRest (2 * level * n) (level * n) 0 0 old new
  left_descends level l n low e is h load count walk = further on (further on load count (le_refl _) (le_refl _) (le_refl _) (le_refl _)) walk (nodes_for_one level l n low e is h) (counts_for_one level l n low e is h) (le_refl _) (le_refl _)

  -- and to those of its two children
  pub both_descend : (level l n low high : ℕ) {old loaded counted listed next new : Tree} → l + 1 ≡ level → n ≡ low + high → 0 < n → Descends set_of loads_of Names KeepsRest 1 0 0 0 old loaded → Descends set_of loads_of Names KeepsRest 0 1 0 0 loaded counted → Descends set_of loads_of Names KeepsRest (2 * l * low) (l * low) 0 0 counted listed
      → Descends set_of loads_of Names KeepsRest 1 0 0 0 listed next → Descends set_of loads_of Names KeepsRest (2 * l * high) (l * high) 0 0 next new → Descends set_of loads_of Names KeepsRest (2 * level * n) (level * n) 0 0 old new
  both_descend level l n low high e is h load count walk go rest =
      let first = further on (further on load count (le_refl _) (le_refl _) (le_refl _) (le_refl _)) walk (le_refl _) (le_refl _) (le_refl _) (le_refl _) in
      let next = further on first go (le_refl _) (le_refl _) (le_refl _) (le_refl _) in
      further on next rest (nodes_for_both level l n low high e is h) (counts_for_both level l n low high e is h) (le_refl _) (le_refl _)
