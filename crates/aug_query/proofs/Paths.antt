-- The path of a cursor: it stays one as more is loaded, gets longer by a node, and is cut; and what a cursor yields, by the ranks of keys.
use Rattle.std.proofs.Common.{◌≡◌, ◌⊎◌, ℕ, ◌+◌, ◌-◌, ◌*◌, ◌/◌, ◌%◌, ◌^◌, ◌<◌, ◌≤◌, ◌==◌, min, if◌then◌else◌, true, true≢false, inl, inr, Option, Some, None, unwrap_or, is_some, List, [], ◌∷◌, ◌++◌, length, take, ltb-true, ltb-false, eq-eqb, get_or, add-one, refl, ap, sym, ◌∙◌, subst, arith, length-append}
use Rattle.std.proofs.Math.Nat.{pow-succ', div-div-eq-div-mul, div-lt_iff_lt-mul, le_antisymm, le_refl, le-min, min-le_right, min-eq_left}
use Rattle.std.proofs.Math.Pow.{pow_mono}
use Rattle.std.proofs.lemmas.Nat.{pow-add, pow_pos}
use Rattle.std.proofs.lemmas.List.{append-nil, get_or-take, length-take-le}
use Rattle.std.proofs.lemmas.Bool.{cases_lt, cases_eq, ne_eqb}
use Rattle.aug_model.specs.Keys.{SetFacts, list_of, is_member, pairs_of}
use Rattle.aug_model.specs.Queries.{rank_of, range_of, weight_of, weight_in}
use Rattle.aug_model.proofs.Pairs.{range-again, pairs_of-append}
use Rattle.aug_model.proofs.Ranges.{Rises, range_cut, range_within, range_of_one, no_members, is_member-counted}
use Rattle.aug_model.specs.declared.summary.Summary.{Summary}
use Rattle.aug_model.specs.NodeKeys.{first_key, end_key, keys_below}
use Rattle.aug_query.specs.Tree.{IsTreeSet, IsNodeOf}
use Rattle.aug_query.specs.Yields.{members_from, members_below, YieldsNext, YieldsPrevious}
use Rattle.aug_query.specs.inside.Paths.{IsNameOf, IsPath, IsCursor}
use Rattle.aug_query.specs.declared.descent.cursor.Cursor.{Cursor}
use Rattle.aug_query.proofs.Listed.{has_weight}
use Rattle.aug_query.proofs.Choosing.{set_rises, child_fits}
use Rattle.aug_query.proofs.Descending.{half_place, low_half, high_half, rank_before_right, rank_after_left}
use Rattle.aug_query.proofs.Descents.{weight_is}
use Rattle.aug_query.proofs.Nodes.{counts, leaf_first, leaf_end, left_low, right_high}
use Rattle.aug_query.proofs.Orders.{rank_cut, rank_is}
use Rattle.aug_query.proofs.Placed.{pushed_each, row_in_keys}

-- one level up is half of the place
half_up : (c place d e : ℕ) → c / 2 ≡ place → e ≡ d + 1 → place / 2 ^ d ≡ c / 2 ^ e
half_up c place d e half is =
    let power : 2 * 2 ^ d ≡ 2 ^ (d + 1) = sym (ap (λ (n : ℕ). 2 ^ n) (add-one d) ∙ pow-succ' 2 d) in
    ap (λ (n : ℕ). n / 2 ^ d) (sym half) ∙ div-div-eq-div-mul c 2 (2 ^ d) ∙ ap (λ (n : ℕ). c / n) power ∙ ap (λ (n : ℕ). c / 2 ^ n) (sym is)

-- and so some levels up
far_up : (k m d e : ℕ) → e ≡ m + d → k / 2 ^ m / 2 ^ d ≡ k / 2 ^ e
far_up k m d e is = div-div-eq-div-mul k (2 ^ m) (2 ^ d) ∙ ap (λ (n : ℕ). k / n) (sym (pow-add 2 m d)) ∙ ap (λ (n : ℕ). k / 2 ^ n) (sym is)

module _ {N : Type 0} {Names : ℕ → ℕ → N → Type 0} where
  -- the same name, where its place is written in another way
  moved : (level place p : ℕ) (found : Option N) → place ≡ p → IsNameOf Names level place found → IsNameOf Names level p found
  moved level place p found same is = subst (λ (n : ℕ). IsNameOf Names level n found) same is

  -- no node stands above the top
  pub path_empty : (bits level place : ℕ) (path : List (Option N)) → path ≡ [] → level ≡ bits → IsPath Names bits level place path
  path_empty bits level place path none top =
      let empty : length path ≡ 0 = ap length none in
      record { long = omega (arith, empty, top); each = λ j d h. absurd (omega (arith, h, empty)) }

  -- names stay as more is loaded
  pub path_stays : {Still : ℕ → ℕ → N → Type 0} (bits level place : ℕ) (path : List (Option N)) → ((level place : ℕ) (name : N) → Names level place name → Still level place name) → IsPath Names bits level place path → IsPath Still bits level place path
  path_stays bits level place path keeps is = record {
    long = is.long;
    each = λ j d h. let at = is.each j d h in record { name = at.name; there = at.there; names = keeps _ _ at.name at.names };
  }

  -- a node goes on the path to its child
  pub path_pushed : (bits level l place c : ℕ) (path new : List (Option N)) (node : N) → level ≡ l + 1 → IsPath Names bits level place path → Names level place node → c / 2 ≡ place → new ≡ path ++ Some node ∷ [] → IsPath Names bits l c new
  path_pushed bits level l place c path new node e is name half pushed =
      let longer : length new ≡ length path + 1 = ap length pushed ∙ length-append path (Some node ∷ []) in
      let one : 1 ≡ level - l = omega (arith, e) in
      let at : level ≡ bits - length path = let long = is.long in omega (arith, long) in
      let here : place ≡ c / 2 ^ (level - l) = sym half ∙ ap (λ (z : ℕ). c / 2 ^ z) one in
      let mine : IsNameOf Names level (c / 2 ^ (level - l)) (Some node) = record { name = node; there = refl; names = subst (λ (p : ℕ). Names level p node) here name } in
      let last : IsNameOf Names (bits - length path) (c / 2 ^ (bits - length path - l)) (Some node) = subst (λ (z : ℕ). IsNameOf Names z (c / 2 ^ (z - l)) (Some node)) at mine in
      record {
        long = let long = is.long in omega (arith, long, e, longer);
        each = λ j d h. pushed_each (λ (j : ℕ) (found : Option N). IsNameOf Names (bits - j) (c / 2 ^ (bits - j - l)) found) path new (Some node) (length path) pushed refl
            (λ j d h. let long = is.long in moved (bits - j) (place / 2 ^ (bits - j - level)) (c / 2 ^ (bits - j - l)) (get_or path j d) (half_up c place (bits - j - level) (bits - j - l) half (omega (arith, h, e, long))) (is.each j d h))
            last j d (omega (arith, h, longer));
      }

  -- cut to what stands above a node whose parent is on the way
  pub path_cut : (bits level key place n : ℕ) (path new : List (Option N)) → level < bits → IsPath Names bits 0 key path → n ≡ length path - level → place / 2 ≡ key / 2 ^ (level + 1) → new ≡ take n path → IsPath Names bits level place new
  path_cut bits level key place n path new low is count parent cut =
      let long = is.long in
      let whole : length new ≡ n = ap length cut ∙ length-take-le n path (omega (arith, count)) in
      record {
        long = omega (arith, whole, count, long, low);
        each = λ j d h.
            let far = far_up key (level + 1) (bits - j - level - 1) (bits - j - 0) (omega (arith, h, whole, count, long, low)) in
            let near = half_up place (key / 2 ^ (level + 1)) (bits - j - level - 1) (bits - j - level) parent (omega (arith, h, whole, count, long, low)) in
            let same = ap (λ (z : List (Option N)). get_or z j d) cut ∙ get_or-take n path j d (omega (arith, h, whole)) in
            subst (IsNameOf Names (bits - j) (place / 2 ^ (bits - j - level))) (sym same) (moved (bits - j) (key / 2 ^ (bits - j - 0)) (place / 2 ^ (bits - j - level)) (get_or path j d) (sym far ∙ near) (is.each j d (omega (arith, h, whole, count))));
      }

  -- a path to a leaf is one to its key
  pub path_leaf : (bits level place key : ℕ) (path : List (Option N)) → level ≡ 0 → place ≡ key → IsPath Names bits level place path → IsPath Names bits 0 key path
  path_leaf bits level place key path leaf same is = subst (λ (l : ℕ). IsPath Names bits l key path) leaf (subst (λ (p : ℕ). IsPath Names bits level p path) same is)

  -- a level below a node of the way to a key, and the places of that node's children, have few bits
  pub way_fits : {set : SetFacts} (key level : ℕ) (path : List (Option N)) → ((level place : ℕ) (name : N) → Names level place name → IsTreeSet set × (end_key level place ≤ 2 ^ set.bits)) → IsPath Names set.bits 0 key path → level < set.bits → (level < 16) × (2 * (key / 2 ^ (level + 1)) + 1 < 2 ^ 16)
  way_fits {set = set} key level path stands is low =
      let long = is.long in
      let i = set.bits - 1 - level in
      let at = is.each i None (omega (arith, long, low)) in
      let node = stands (set.bits - i) (key / 2 ^ (set.bits - i - 0)) at.name at.names in
      let up : level + 1 ≡ set.bits - i = omega (arith, low) in
      let same : set.bits - i - 0 ≡ level + 1 = omega (arith, low) in
      let few = node.0.few_bits in
      (omega (arith, few, low), subst (λ (z : ℕ). 2 * (key / 2 ^ z) + 1 < 2 ^ 16) same (child_fits set (set.bits - i) level (key / 2 ^ (set.bits - i - 0)) node.0 up node.1))

-- a key that has a weight is a member
weighed : (set : SetFacts) (k w : ℕ) → IsTreeSet set → Some w ≡ weight_of set.pairs k → 0 < length (range_of (list_of set) k (k + 1))
weighed set k w is weighs =
    let there : true ≡ is_member (list_of set) k = ap is_some weighs ∙ has_weight set.pairs k in
    ltb-true 0 (length (range_of (list_of set) k (k + 1))) (sym (there ∙ is_member-counted (list_of set) k (set_rises is)))

-- and one that has none is not
unweighed : (set : SetFacts) (k : ℕ) → IsTreeSet set → None ≡ weight_of set.pairs k → rank_of (list_of set) (k + 1) ≡ rank_of (list_of set) k
unweighed set k is weighs =
    let there = ap is_some weighs ∙ has_weight set.pairs k in
    let none = ltb-false 0 (length (range_of (list_of set) k (k + 1))) (sym (there ∙ is_member-counted (list_of set) k (set_rises is))) in
    omega (arith, none, rank_cut (list_of set) k (k + 1) (set_rises is) (omega arith))

-- the one key of the interval of a member
alone : (keys : List ℕ) (k : ℕ) → Rises keys → 0 < length (range_of keys k (k + 1)) → range_of keys k (k + 1) ≡ k ∷ []
alone keys k rises some = elim (range_of_one keys k rises) [ inl none ↦ absurd (omega (arith, ap length none, some)) | inr one ↦ one ]

-- a member of the same rank as a key is not below it
not_below : (keys : List ℕ) (k a : ℕ) → Rises keys → rank_of keys k ≡ rank_of keys a → 0 < length (range_of keys k (k + 1)) → a ≤ k
not_below keys k a rises same some =
    elim (cases_lt k a) [
      | inl below ↦ absurd (omega (arith, rank_cut keys k a rises (omega arith), range_within keys k k (k + 1) a rises (omega arith) (omega arith) (omega arith), same, some))
      | inr above ↦ omega arith
    ]

-- nor is one above it, if the members up to it are those below the key
not_above : (keys : List ℕ) (k a : ℕ) → Rises keys → rank_of keys (k + 1) ≡ rank_of keys a → 0 < length (range_of keys k (k + 1)) → k < a
not_above keys k a rises same some =
    elim (cases_lt k a) [
      | inl below ↦ below
      | inr above ↦ absurd (omega (arith, rank_cut keys a (k + 1) rises (omega arith), range_within keys a k (k + 1) (k + 1) rises (omega arith) (omega arith) (omega arith), same, some))
    ]

-- the pair of a key with its weight
pair_of : (set : SetFacts) (k w : ℕ) → Some w ≡ weight_of set.pairs k → weight_in set.pairs k ≡ w
pair_of set k w weighs = sym (ap (λ (o : Option ℕ). unwrap_or o 0) weighs)

-- the first member behind a gap, where none lies between
pub next_is : (set : SetFacts) (gap k w new : ℕ) → IsTreeSet set → k < 2 ^ set.bits → rank_of (list_of set) k ≡ rank_of (list_of set) gap → Some w ≡ weight_of set.pairs k → new ≡ k + 1 → YieldsNext set gap new (Some (k, w))
next_is set gap k w new is within same weighs at =
    let keys = list_of set in
    let n = 2 ^ set.bits in
    let rises = set_rises is in
    let some = weighed set k w is weighs in
    let low = not_below keys k gap rises same some in
    let empty = no_members (range_of keys gap k) (omega (arith, rank_cut keys gap k rises low, same)) in
    let rest = range_cut keys k (k + 1) n rises (omega arith) (omega (arith, within)) ∙ ap (λ (xs : List ℕ). xs ++ range_of keys (k + 1) n) (alone keys k rises some) in
    let cut : range_of keys gap n ≡ k ∷ range_of keys (k + 1) n = range_cut keys gap k n rises low (omega (arith, within)) ∙ ap (λ (xs : List ℕ). xs ++ range_of keys k n) empty ∙ rest in
    let weight = weight_in set.pairs in
    let pairs = ap (pairs_of weight) cut ∙ ap (λ (z : ℕ). (k, z) ∷ pairs_of weight (range_of keys (k + 1) n)) (pair_of set k w weighs) in
    let more = ap (λ (zs : List (ℕ × ℕ)). (k, w) ∷ zs) (sym (range-again set.pairs (k + 1) n rises)) ∙ ap (λ (z : ℕ). (k, w) ∷ members_from set z) (sym at) in
    (range-again set.pairs gap n rises ∙ pairs ∙ more, at)

-- no member is behind a gap that has the rank of all keys
pub next_none : (set : SetFacts) (gap new : ℕ) → IsTreeSet set → gap ≤ 2 ^ set.bits → rank_of (list_of set) (2 ^ set.bits) ≡ rank_of (list_of set) gap → new ≡ gap → YieldsNext set gap new None
next_none set gap new is within same at =
    let keys = list_of set in
    let n = 2 ^ set.bits in
    let rises = set_rises is in
    let empty = no_members (range_of keys gap n) (omega (arith, rank_cut keys gap n rises within, same)) in
    (range-again set.pairs gap n rises ∙ ap (pairs_of (weight_in set.pairs)) empty, at)

-- the last member before a gap, where none lies between
pub previous_is : (set : SetFacts) (gap k w new : ℕ) → IsTreeSet set → rank_of (list_of set) (k + 1) ≡ rank_of (list_of set) gap → Some w ≡ weight_of set.pairs k → new ≡ k → YieldsPrevious set gap new (Some (k, w))
previous_is set gap k w new is same weighs at =
    let keys = list_of set in
    let rises = set_rises is in
    let some = weighed set k w is weighs in
    let high = not_above keys k gap rises same some in
    let empty = no_members (range_of keys (k + 1) gap) (omega (arith, rank_cut keys (k + 1) gap rises (omega (arith, high)), same)) in
    let rest = range_cut keys k (k + 1) gap rises (omega arith) (omega (arith, high)) ∙ ap (λ (xs : List ℕ). range_of keys k (k + 1) ++ xs) empty ∙ append-nil (range_of keys k (k + 1)) ∙ alone keys k rises some in
    let cut = range_cut keys 0 k gap rises (omega arith) (omega (arith, high)) ∙ ap (λ (xs : List ℕ). range_of keys 0 k ++ xs) rest in
    let weight = weight_in set.pairs in
    let pairs = ap (pairs_of weight) cut ∙ pairs_of-append weight (range_of keys 0 k) (k ∷ []) ∙ ap (λ (z : ℕ). pairs_of weight (range_of keys 0 k) ++ (k, z) ∷ []) (pair_of set k w weighs) in
    let more = ap (λ (zs : List (ℕ × ℕ)). zs ++ (k, w) ∷ []) (sym (range-again set.pairs 0 k rises)) ∙ ap (λ (z : ℕ). members_below set z ++ (k, w) ∷ []) (sym at) in
    (range-again set.pairs 0 gap rises ∙ pairs ∙ more, at)

-- no member is before a gap of rank 0
pub previous_none : (set : SetFacts) (gap new : ℕ) → IsTreeSet set → rank_of (list_of set) gap ≡ 0 → new ≡ gap → YieldsPrevious set gap new None
previous_none set gap new is none at =
    let keys = list_of set in
    let empty = no_members (range_of keys 0 gap) (sym (rank_is keys gap) ∙ none) in
    (range-again set.pairs 0 gap (set_rises is) ∙ ap (pairs_of (weight_in set.pairs)) empty, at)

-- the key beside a gap, if it is a member behind it
pub behind_some : (gap key w : ℕ) (weight : Option ℕ) → Some w ≡ (if gap == key then weight else None) → (gap ≡ key) × (Some w ≡ weight)
behind_some gap key w weight is =
    elim (cases_eq gap key) [
      | inl same ↦ (same, is ∙ ap (λ b. if b then weight else None) (eq-eqb gap key same))
      | inr other ↦ absurd (true≢false (ap is_some (is ∙ ap (λ b. if b then weight else None) (ne_eqb gap key other))))
    ]

-- and if it is not: then no member is between them
pub behind_none : (set : SetFacts) (gap key : ℕ) (weight : Option ℕ) → IsTreeSet set → weight ≡ weight_of set.pairs key → (gap ≡ key) ⊎ (gap ≡ key + 1) → None ≡ (if gap == key then weight else None) → rank_of (list_of set) (key + 1) ≡ rank_of (list_of set) gap
behind_none set gap key weight is weighs (inl same) none =
    unweighed set key is (none ∙ ap (λ b. if b then weight else None) (eq-eqb gap key same) ∙ weighs) ∙ ap (rank_of (list_of set)) (sym same)
behind_none set gap key weight is weighs (inr past) none = ap (rank_of (list_of set)) (sym past)

-- the key beside a gap, if it is a member before it
pub before_some : (gap key w : ℕ) (weight : Option ℕ) → (gap ≡ key) ⊎ (gap ≡ key + 1) → Some w ≡ (if gap == key then None else weight) → (gap ≡ key + 1) × (Some w ≡ weight)
before_some gap key w weight (inl same) is = absurd (true≢false (ap is_some (is ∙ ap (λ b. if b then None else weight) (eq-eqb gap key same))))
before_some gap key w weight (inr past) is = (past, is ∙ ap (λ b. if b then None else weight) (ne_eqb gap key (λ e. omega (arith, e, past))))

-- and if it is not
pub before_none : (set : SetFacts) (gap key : ℕ) (weight : Option ℕ) → IsTreeSet set → weight ≡ weight_of set.pairs key → (gap ≡ key) ⊎ (gap ≡ key + 1) → None ≡ (if gap == key then None else weight) → rank_of (list_of set) key ≡ rank_of (list_of set) gap
before_none set gap key weight is weighs (inl same) none = ap (rank_of (list_of set)) (sym same)
before_none set gap key weight is weighs (inr past) none =
    sym (unweighed set key is (none ∙ ap (λ b. if b then None else weight) (ne_eqb gap key (λ e. omega (arith, e, past))) ∙ weighs)) ∙ ap (rank_of (list_of set)) (sym past)

-- the place above that of a key
pub place_above : (k level : ℕ) → 0 < level → k / 2 ^ (level - 1) / 2 ≡ k / 2 ^ level
place_above k level h = let above : level - 1 + 1 ≡ level = omega (arith, h) in sym (half_place k (level - 1)) ∙ ap (λ (n : ℕ). k / 2 ^ n) above

-- the node of a level on the way to a key ends where its parent does, if it is the right child, or if the right child covers no member
pub ends_right : (keys : List ℕ) (k level : ℕ) → k / 2 ^ level % 2 ≡ 1 → rank_of keys (end_key (level + 1) (k / 2 ^ (level + 1))) ≡ rank_of keys (end_key level (k / 2 ^ level))
ends_right keys k level odd =
    let half = high_half k level (λ e. omega (arith, e, odd)) in
    ap (rank_of keys) (sym (right_high (level + 1) (k / 2 ^ (level + 1)) level (2 * (k / 2 ^ (level + 1)) + 1) refl refl) ∙ ap (end_key level) half)

pub ends_left : (keys : List ℕ) (k level n : ℕ) → Rises keys → k / 2 ^ level % 2 ≡ 0 → n ≡ length (keys_below keys level (2 * (k / 2 ^ (level + 1)) + 1)) → n ≡ 0 → rank_of keys (end_key (level + 1) (k / 2 ^ (level + 1))) ≡ rank_of keys (end_key level (k / 2 ^ level))
ends_left keys k level n rises even counted none =
    let half = ap (λ (p : ℕ). rank_of keys (end_key level p)) (low_half k level even) in
    omega (arith, rank_after_left keys level (k / 2 ^ (level + 1)) n rises counted, none, half)

-- and it begins where its parent does, if it is the left child, or if the left child covers no member
pub begins_left : (keys : List ℕ) (k level : ℕ) → k / 2 ^ level % 2 ≡ 0 → rank_of keys (first_key (level + 1) (k / 2 ^ (level + 1))) ≡ rank_of keys (first_key level (k / 2 ^ level))
begins_left keys k level even = ap (rank_of keys) (sym (left_low (level + 1) (k / 2 ^ (level + 1)) level (2 * (k / 2 ^ (level + 1))) refl refl) ∙ ap (first_key level) (low_half k level even))

pub begins_right : (keys : List ℕ) (k level n : ℕ) → Rises keys → k / 2 ^ level % 2 ≡ 1 → n ≡ length (keys_below keys level (2 * (k / 2 ^ (level + 1)))) → n ≡ 0 → rank_of keys (first_key (level + 1) (k / 2 ^ (level + 1))) ≡ rank_of keys (first_key level (k / 2 ^ level))
begins_right keys k level n rises odd counted none =
    let half = ap (λ (p : ℕ). rank_of keys (first_key level p)) (high_half k level (λ e. omega (arith, e, odd))) in
    omega (arith, rank_before_right keys level (k / 2 ^ (level + 1)) n rises counted, none, half)

-- what a leaf that covers a member weighs
pub leaf_weight : {A B : Type 0} {sum : List (ℕ × ℕ) → Summary A B} {set : SetFacts} {level place : ℕ} {told : Summary A B} → IsNodeOf sum set level place told → ((pairs : List (ℕ × ℕ)) → (sum pairs).count ≡ length pairs) → level ≡ 0
    → 0 < length (keys_below (list_of set) level place) → (w : ℕ) → w ≡ weight_in set.pairs place → Some w ≡ weight_of set.pairs place
leaf_weight {level = level} {place = place} node totals leaf some w weighs =
    weight_is place w node totals leaf weighs (omega (arith, counts node totals, some)) (omega (arith, leaf_first level place leaf)) (omega (arith, leaf_end level place leaf))

-- and its key is one of the tree's
pub leaf_within : {A B : Type 0} {sum : List (ℕ × ℕ) → Summary A B} {set : SetFacts} {level place : ℕ} {told : Summary A B} → IsNodeOf sum set level place told → level ≡ 0 → place < 2 ^ set.bits
leaf_within {level = level} {place = place} node leaf = let fits = node.place_fits in omega (arith, fits, leaf_end level place leaf)

-- where a cursor begins: its key is one of the tree's, and the gap is beside it
pub begins_at : (k all gap key : ℕ) → 0 < all → gap ≡ min k all → key ≡ min gap (all - 1) → (key < all) × ((gap ≡ key) ⊎ (gap ≡ key + 1))
begins_at k all gap key whole is at =
    let few : gap ≤ all = omega (arith, is, min-le_right k all) in
    let low : key ≤ all - 1 = omega (arith, at, min-le_right gap (all - 1)) in
    let same : gap ≤ all - 1 → gap ≡ key = λ h. sym (at ∙ min-eq_left {n = gap} {m = all - 1} h) in
    let last : all - 1 ≤ gap → key ≡ all - 1 = λ h. at ∙ le_antisymm (min-le_right gap (all - 1)) (le-min h (le_refl (all - 1))) in
    elim (cases_lt gap all) [
      | inl below ↦ (omega (arith, low, whole), inl (same (omega (arith, below))))
      | inr past ↦ let end = last (omega (arith, past)) in (omega (arith, low, whole), inr (omega (arith, end, few, past, whole)))
    ]

-- a key of a tree has few bits
pub key_few : (set : SetFacts) (key : ℕ) → IsTreeSet set → key < 2 ^ set.bits → key < 2 ^ 16
key_few set key is within = omega (arith, within, pow_mono is.few_bits)

-- a gap beside a key is not past the end
pub gap_few : (gap key n : ℕ) → (gap ≡ key) ⊎ (gap ≡ key + 1) → key < n → gap ≤ n
gap_few gap key n (inl same) h = omega (arith, same, h)
gap_few gap key n (inr past) h = omega (arith, past, h)

-- the nodes on the way to a key stand above the leaves and within the tree
above_key : (bits key level : ℕ) → key < 2 ^ bits → level ≤ bits → end_key level (key / 2 ^ level) ≤ 2 ^ bits
above_key bits key level within low =
    let whole : 2 ^ bits ≡ 2 ^ (bits - level) * 2 ^ level = let parts : bits ≡ bits - level + level = omega (arith, low) in ap (λ (n : ℕ). 2 ^ n) parts ∙ pow-add 2 (bits - level) level in
    row_in_keys bits level (key / 2 ^ level) low ((div-lt_iff_lt-mul (pow_pos level)).1 (omega (arith, within, whole)))

-- a cursor is one of another tree of the same set, if the names of nodes above leaves are names of its nodes
pub cursor_kept : {N : Type 0} {Names Still : ℕ → ℕ → N → Type 0} {set other : SetFacts} {c : Cursor N} → ((level place : ℕ) (name : N) → 1 ≤ level → end_key level place ≤ 2 ^ set.bits → Names level place name → Still level place name) → other ≡ set → IsCursor Names set c → IsCursor Still other c
cursor_kept {Still = Still} {set = set} {c = c} keeps same is =
    subst (λ (s : SetFacts). IsCursor Still s c) (sym same) (record {
      is_tree_set = is.is_tree_set;
      within = is.within;
      path = record {
        long = is.path.long;
        each = λ j d h.
            let at = is.path.each j d h in
            let long = is.path.long in
            let level = set.bits - j in
            let further : level - 0 ≡ level = omega arith in
            let above = above_key set.bits c.key level is.within (omega arith) in
            let fits = subst (λ (z : ℕ). end_key level (c.key / 2 ^ z) ≤ 2 ^ set.bits) (sym further) above in
            record { name = at.name; there = at.there; names = keeps level (c.key / 2 ^ (level - 0)) at.name (omega (arith, h, long)) fits at.names };
      };
      weighs = is.weighs;
      beside = is.beside;
    })
