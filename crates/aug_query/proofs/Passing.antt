-- What a descent to a key keeps of the nodes that it passes: where the nearest members beside it are.
use Rattle.std.proofs.Common.{◌≡◌, ℕ, ◌+◌, ◌*◌, ◌/◌, ◌^◌, ◌<◌, ◌≤◌, List, ◌++◌, length, filter, ltb, Option, Some, None, refl, ap, ◌∙◌, arith}
use Rattle.std.proofs.Math.Nat.{mul-le-mul_right}
use Rattle.std.proofs.lemmas.List.{append-nil}
use Rattle.aug_model.specs.Queries.{rank_of, range_of, before_of, after_of, first_of, last_of}
use Rattle.aug_model.specs.NodeKeys.{first_key, end_key, keys_below}
use Rattle.aug_model.proofs.Ranges.{Rises, AllBelow, below_is, above_is, range_cut, range_none, range_whole, range_clipped, no_members}
use Rattle.aug_query.proofs.Nodes.{left_low, right_high}
use Rattle.aug_query.proofs.Orders.{rank_cut, rank_past, last_append, first_append}
use Rattle.aug_query.proofs.Descending.{key_first, key_end}

-- the greatest members before a key of a descent to k are those of the node at a level and a place
pub record LeftBehind (keys : List ℕ) (k first level place : ℕ) : Type 0 where
  pub passed : end_key level place ≤ k
  pub none_between : rank_of keys first ≡ rank_of keys (end_key level place)
  pub some : 0 < length (keys_below keys level place)

-- the least members from a key on, past k, are those of the node at a level and a place
pub record RightAhead (keys : List ℕ) (k end level place : ℕ) : Type 0 where
  pub ahead : k < first_key level place
  pub none_between : rank_of keys end ≡ rank_of keys (first_key level place)
  pub some : 0 < length (keys_below keys level place)

module _ {Name : Type 0} (Names : ℕ → ℕ → Name → Type 0) (keys : List ℕ) (k : ℕ) where
  -- if a node above k is kept, the left child of it has the greatest members before a key; it is kept by that child's level and its own name
  abbrev pub KeepsBefore : ℕ → Option (ℕ × Name) → Type 0
  KeepsBefore first None = rank_of keys first ≡ 0
  KeepsBefore first (Some parent) = Names (parent.0 + 1) (k / 2 ^ (parent.0 + 1)) parent.1 × LeftBehind keys k first parent.0 (2 * (k / 2 ^ (parent.0 + 1)))

  -- if a node above k is kept, the right child of it has the least members from a key on
  abbrev pub KeepsAfter : ℕ → Option (ℕ × Name) → Type 0
  KeepsAfter end None = rank_of keys end ≡ length keys
  KeepsAfter end (Some parent) = Names (parent.0 + 1) (k / 2 ^ (parent.0 + 1)) parent.1 × RightAhead keys k end parent.0 (2 * (k / 2 ^ (parent.0 + 1)) + 1)

-- what is kept before a key is kept before another of the same rank, as long as names are kept
pub keeps_before : {Name : Type 0} {Names Still : ℕ → ℕ → Name → Type 0} (keys : List ℕ) (k first next : ℕ) (parent : Option (ℕ × Name)) → ((level place : ℕ) (name : Name) → Names level place name → Still level place name) → rank_of keys next ≡ rank_of keys first → KeepsBefore Names keys k first parent → KeepsBefore Still keys k next parent
keeps_before keys k first next None keeps same none = same ∙ none
keeps_before keys k first next (Some parent) keeps same kept = (keeps _ _ parent.1 kept.0, record { passed = kept.1.passed; none_between = same ∙ kept.1.none_between; some = kept.1.some })

-- and the same of what is kept after a key
pub keeps_after : {Name : Type 0} {Names Still : ℕ → ℕ → Name → Type 0} (keys : List ℕ) (k end next : ℕ) (parent : Option (ℕ × Name)) → ((level place : ℕ) (name : Name) → Names level place name → Still level place name) → rank_of keys next ≡ rank_of keys end → KeepsAfter Names keys k end parent → KeepsAfter Still keys k next parent
keeps_after keys k end next None keeps same none = same ∙ none
keeps_after keys k end next (Some parent) keeps same kept = (keeps _ _ parent.1 kept.0, record { ahead = kept.1.ahead; none_between = same ∙ kept.1.none_between; some = kept.1.some })

-- a step to the right child past some members leaves them behind
pub left_behind : (keys : List ℕ) (k level n : ℕ) → Rises keys → k / 2 ^ level ≡ 2 * (k / 2 ^ (level + 1)) + 1 → rank_of keys (first_key level (k / 2 ^ level)) ≡ rank_of keys (first_key (level + 1) (k / 2 ^ (level + 1))) + n → 0 < n
    → LeftBehind keys k (first_key level (k / 2 ^ level)) level (2 * (k / 2 ^ (level + 1)))
left_behind keys k level n rises right counted some =
    let place = 2 * (k / 2 ^ (level + 1)) in
    let here = ap (λ p. first_key level p) right in
    let cut = rank_cut keys (first_key level place) (end_key level place) rises (mul-le-mul_right (2 ^ level) (omega arith)) in
    let from = ap (rank_of keys) (left_low (level + 1) (k / 2 ^ (level + 1)) level place refl refl) in
    let at = ap (rank_of keys) here in
    record {
      passed = omega (arith, key_first k level, here);
      none_between = at;
      some = omega (arith, counted, some, cut, from, at);
    }

-- a step to the left child before some members has them ahead
pub right_ahead : (keys : List ℕ) (k level n : ℕ) → Rises keys → k / 2 ^ level ≡ 2 * (k / 2 ^ (level + 1)) → rank_of keys (end_key level (k / 2 ^ level)) + n ≡ rank_of keys (end_key (level + 1) (k / 2 ^ (level + 1))) → 0 < n
    → RightAhead keys k (end_key level (k / 2 ^ level)) level (2 * (k / 2 ^ (level + 1)) + 1)
right_ahead keys k level n rises left counted some =
    let place = 2 * (k / 2 ^ (level + 1)) + 1 in
    let here = ap (λ p. end_key level p) left in
    let cut = rank_cut keys (first_key level place) (end_key level place) rises (mul-le-mul_right (2 ^ level) (omega arith)) in
    let to = ap (rank_of keys) (right_high (level + 1) (k / 2 ^ (level + 1)) level place refl refl) in
    let at = ap (rank_of keys) here in
    record {
      ahead = omega (arith, key_end k level, here);
      none_between = at;
      some = omega (arith, counted, some, cut, to, at);
    }

-- past all keys the greatest member is before
pub before_past : (keys : List ℕ) (k n : ℕ) → AllBelow n keys → n ≤ k → before_of keys k ≡ last_of keys
before_past keys k n h l = ap last_of (below_is keys k ∙ range_clipped keys 0 k n h l ∙ range_whole keys n h)

-- and none is after
pub after_past : (keys : List ℕ) (k n : ℕ) → AllBelow n keys → n ≤ k → after_of keys k ≡ None
after_past keys k n h l = ap first_of (above_is keys k n h ∙ range_none keys (k + 1) n (omega arith))

-- where no member is below a key
pub before_none : (keys : List ℕ) (k : ℕ) → rank_of keys k ≡ 0 → before_of keys k ≡ None
before_none keys k e = ap last_of (no_members (filter (λ x. ltb x k) keys) e)

-- where every member is up to a key
pub after_none : (keys : List ℕ) (k n : ℕ) → Rises keys → AllBelow n keys → k < n → rank_of keys (k + 1) ≡ length keys → after_of keys k ≡ None
after_none keys k n h b l e =
    let cut = rank_cut keys (k + 1) n h (omega arith) in
    ap first_of (above_is keys k n b ∙ no_members (range_of keys (k + 1) n) (omega (arith, cut, e, rank_past keys n n b (omega arith))))

-- the greatest member below a key, from the node left behind
pub before_ends : (keys : List ℕ) (k first level place : ℕ) → Rises keys → LeftBehind keys k first level place → rank_of keys first ≡ rank_of keys k → before_of keys k ≡ last_of (keys_below keys level place)
before_ends keys k first level place h kept e =
    let low = first_key level place in
    let high = end_key level place in
    let front = range_cut keys 0 high k h (omega arith) kept.passed in
    let empty = no_members (range_of keys high k) (omega (arith, rank_cut keys high k h kept.passed, kept.none_between, e)) in
    let whole = range_cut keys 0 low high h (omega arith) (mul-le-mul_right (2 ^ level) (omega arith)) in
    ap last_of (below_is keys k ∙ front ∙ ap (λ ys. range_of keys 0 high ++ ys) empty ∙ append-nil (range_of keys 0 high) ∙ whole)
    ∙ last_append (range_of keys 0 low) (range_of keys low high) kept.some

-- the least member above a key, from the node ahead
pub after_ends : (keys : List ℕ) (k n end level place : ℕ) → Rises keys → AllBelow n keys → RightAhead keys k end level place → rank_of keys end ≡ rank_of keys (k + 1) → end_key level place ≤ n → after_of keys k ≡ first_of (keys_below keys level place)
after_ends keys k n end level place h b kept e m =
    let low = first_key level place in
    let high = end_key level place in
    let wide : low ≤ high = mul-le-mul_right (2 ^ level) (omega arith) in
    let ahead : k + 1 ≤ low = omega (arith, kept.ahead) in
    let front = range_cut keys (k + 1) low n h ahead (omega arith) in
    let empty = no_members (range_of keys (k + 1) low) (omega (arith, rank_cut keys (k + 1) low h ahead, kept.none_between, e)) in
    let whole = range_cut keys low high n h wide m in
    ap first_of (above_is keys k n b ∙ front ∙ ap (λ ys. ys ++ range_of keys low n) empty ∙ whole)
    ∙ first_append (range_of keys low high) (range_of keys high n) kept.some
