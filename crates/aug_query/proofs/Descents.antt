-- What the end of a descent to a key says of it.
use Rattle.std.proofs.Common.{Bool, true, eqb, ◌||◌, if◌then◌else◌, None, unwrap_or, [], ◌∷◌, refl, ◌≡◌, ℕ, ◌+◌, ◌*◌, ◌^◌, ◌<◌, ◌≤◌, ◌⊎◌, ltb, false, List, length, Some, ap, sym, ◌∙◌, arith, inl, inr}
use mathlib.Core.Bool.{true≢false}
use Rattle.std.proofs.lemmas.Bool.{lt-ltb}
use Rattle.aug_model.specs.Keys.{SetFacts, is_member, list_of, keys_of}
use Rattle.aug_model.specs.Queries.{range_of, rank_of, select_of, weight_of, weight_in}
use Rattle.aug_model.specs.declared.summary.Summary.{Summary}
use Rattle.aug_query.specs.Tree.{IsTreeSet, IsNodeOf}
use Rattle.aug_model.specs.NodeKeys.{first_key, end_key, keys_below}
use Rattle.aug_model.proofs.Ranges.{Rises, rises_from, all_below_from, one_member, range_within, range_clipped, range_none, is_member-counted}
use Rattle.aug_query.proofs.Orders.{select_is, rank_is as rank_at}
use Rattle.aug_query.proofs.Nodes.{members_rise, counts, leaf_is, leaf_low, leaf_first}

-- a node that covers a key, and counts no members or is its leaf, counts as many as the key has places
covers : (keys : List ℕ) (level place k n : ℕ) → Rises keys → n ≡ length (keys_below keys level place) → place * 2 ^ level ≤ k → k < (place + 1) * 2 ^ level → (level ≡ 0) ⊎ (n ≡ 0) → n ≡ length (range_of keys k (k + 1))
covers keys level place k n rises e l h (inl leaf) = e ∙ ap length (leaf_is keys level place leaf) ∙ ap (λ x. length (range_of keys x (x + 1))) (leaf_low level place k leaf l h)
covers keys level place k n rises e l h (inr none) =
    let within = range_within keys (place * 2 ^ level) k (k + 1) ((place + 1) * 2 ^ level) rises l (omega arith) (omega arith) in omega (arith, within)

pub has_is : {A B : Type 0} {sum : List (ℕ × ℕ) → Summary A B} {set : SetFacts} {level place : ℕ} {told : Summary A B} (k n : ℕ) → IsNodeOf sum set level place told → ((pairs : List (ℕ × ℕ)) → (sum pairs).count ≡ length pairs)
    → n ≡ told.count → place * 2 ^ level ≤ k → k < (place + 1) * 2 ^ level → (level ≡ 0) ⊎ (n ≡ 0) → ltb 0 n ≡ is_member (list_of set) k
has_is {set = set} {level = level} {place = place} k n node s e l h last =
    ap (ltb 0) (covers (list_of set) level place k n (members_rise node) (e ∙ counts node s) l h last) ∙ sym (is_member-counted (list_of set) k (members_rise node))

-- a key past all that a set can have is no member
pub past_is : {bits : ℕ} {pairs : List (ℕ × ℕ)} (k n : ℕ) → IsTreeSet (record { bits = bits; pairs = pairs }) → n ≡ 2 ^ bits → n ≤ k → false ≡ is_member (keys_of pairs) k
past_is {bits = bits} {pairs = pairs} k n set e l =
    let keys = keys_of pairs in
    let below = all_below_from (2 ^ bits) keys set.is_key_set.below in
    let none = range_clipped keys k (k + 1) (2 ^ bits) below (omega arith) ∙ range_none keys k (2 ^ bits) (omega arith) in
    sym (is_member-counted keys k (rises_from keys set.is_key_set.rising) ∙ ap (λ ys. ltb 0 (length ys)) none)

-- a key that is no member has no weight
weight_missing : (pairs : List (ℕ × ℕ)) (k : ℕ) → is_member (keys_of pairs) k ≡ false → weight_of pairs k ≡ None
weight_missing [] k absent = refl
weight_missing (p ∷ ps) k absent = either (eqb p.0 k) absent (weight_missing ps k)
  where
    either : (b : Bool) → (b || is_member (keys_of ps) k) ≡ false → (is_member (keys_of ps) k ≡ false → weight_of ps k ≡ None) → (if b then Some p.1 else weight_of ps k) ≡ None
    either true is rest = absurd (true≢false is)
    either false is rest = rest is

-- and every member has one
weight_there : (pairs : List (ℕ × ℕ)) (k : ℕ) → is_member (keys_of pairs) k ≡ true → weight_of pairs k ≡ Some (weight_in pairs k)
weight_there [] k there = absurd (true≢false (sym there))
weight_there (p ∷ ps) k there = either (eqb p.0 k) there (weight_there ps k)
  where
    either : (b : Bool) → (b || is_member (keys_of ps) k) ≡ true → (is_member (keys_of ps) k ≡ true → weight_of ps k ≡ Some (weight_in ps k)) → (if b then Some p.1 else weight_of ps k) ≡ Some (unwrap_or (if b then Some p.1 else weight_of ps k) 0)
    either true is rest = refl
    either false is rest = rest is

-- what a leaf that counts its key as a member says that the key weighs
pub weight_is : {A B : Type 0} {sum : List (ℕ × ℕ) → Summary A B} {set : SetFacts} {level place : ℕ} {told : Summary A B} (k weight : ℕ) → IsNodeOf sum set level place told → ((pairs : List (ℕ × ℕ)) → (sum pairs).count ≡ length pairs)
    → level ≡ 0 → weight ≡ weight_in set.pairs place → 0 < told.count → first_key level place ≤ k → k < end_key level place → Some weight ≡ weight_of set.pairs k
weight_is {set = set} {level = level} {place = place} {told = told} k weight node s leaf weighs some l h =
    let there = sym (has_is k told.count node s refl l h (inl leaf)) ∙ lt-ltb 0 told.count some in
    ap (λ w. Some w) (weighs ∙ ap (weight_in set.pairs) (leaf_low level place k leaf l h)) ∙ sym (weight_there set.pairs k there)

-- a key has no weight where the descent to it ends at a node without members
pub weight_is_none : {A B : Type 0} {sum : List (ℕ × ℕ) → Summary A B} {set : SetFacts} {level place : ℕ} {told : Summary A B} (k : ℕ) → IsNodeOf sum set level place told → ((pairs : List (ℕ × ℕ)) → (sum pairs).count ≡ length pairs)
    → told.count ≡ 0 → first_key level place ≤ k → k < end_key level place → None ≡ weight_of set.pairs k
weight_is_none {set = set} {told = told} k node s none l h =
    sym (weight_missing set.pairs k (sym (has_is k told.count node s refl l h (inr none)) ∙ ap (ltb 0) none))

-- nor does a key past all that a set can have
pub past_weighs_none : {bits : ℕ} {pairs : List (ℕ × ℕ)} (k n : ℕ) → IsTreeSet (record { bits = bits; pairs = pairs }) → n ≡ 2 ^ bits → n ≤ k → None ≡ weight_of pairs k
past_weighs_none {pairs = pairs} k n set e l = sym (weight_missing pairs k (sym (past_is k n set e l)))

-- where a descent to the i-th member ends
pub select_ends : {A B : Type 0} {sum : List (ℕ × ℕ) → Summary A B} {set : SetFacts} {level place : ℕ} {told : Summary A B} (i rest : ℕ) → IsNodeOf sum set level place told → ((pairs : List (ℕ × ℕ)) → (sum pairs).count ≡ length pairs)
    → level ≡ 0 → rest < told.count → rank_of (list_of set) (first_key level place) + rest ≡ i → select_of (list_of set) i ≡ Some place
select_ends {set = set} {level = level} {place = place} i rest node s leaf within same =
    let one = ap length (leaf_is (list_of set) level place leaf) in
    let few = one_member (list_of set) place (members_rise node) in
    let first = ap (rank_of (list_of set)) (leaf_first level place leaf) in
    select_is (list_of set) place i (members_rise node) (omega (arith, one, counts node s)) (omega (arith, one, few, first, same, counts node s, rank_at (list_of set) place))
