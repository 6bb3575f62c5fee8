-- The first and the last member below a node, told by the members below its children; and the nodes that a descent to a key keeps.
use Rattle.std.proofs.Common.{◌≡◌, ℕ, ◌+◌, ◌*◌, ◌/◌, ◌^◌, ◌<◌, ◌≤◌, inl, inr, List, [], ◌∷◌, ◌++◌, length, refl, sym, ap, ◌∙◌, arith, length-append}
use Rattle.std.proofs.Math.Nat.{mul-le-mul_right, le_trans, le_of_eq, div-eq_of_lt}
use Rattle.std.proofs.lemmas.List.{append-nil}
use Rattle.std.proofs.lemmas.Nat.{pow_pos}
use Rattle.aug_model.specs.Keys.{SetFacts, list_of}
use Rattle.aug_model.specs.Queries.{first_of, last_of}
use Rattle.aug_model.specs.declared.summary.Summary.{Summary}
use Rattle.aug_model.proofs.Ranges.{Rises, no_members, range_of_one}
use Rattle.aug_query.specs.Tree.{IsNodeOf}
use Rattle.aug_model.specs.NodeKeys.{first_key, end_key, keys_below}
use Rattle.aug_query.proofs.Nodes.{few_keys, right_high, leaf_is, leaf_low, leaf_first, leaf_end}
use Rattle.aug_query.proofs.Descending.{key_first, key_end}
use Rattle.aug_query.proofs.Orders.{last_append, first_append}
use Rattle.aug_query.proofs.Placed.{children_cover}

-- a place above a level of at least one key is small: the same over plain numbers
small : (w n m : ℕ) → 0 < w → n * w ≤ m → n ≤ m
small w n m h e = let least = mul-le-mul_right n h in omega (arith, least, e)

-- the places of the children of a node have few bits
pub child_places : {A B : Type 0} {sum : List (ℕ × ℕ) → Summary A B} {set : SetFacts} {place : ℕ} {told : Summary A B} (level : ℕ) → IsNodeOf sum set (level + 1) place told → 2 * place + 1 < 2 ^ 16
child_places {place = place} level node = let room = small (2 ^ level) (2 * place + 1 + 1) (2 ^ 16) (pow_pos level) (le_trans (le_of_eq (right_high (level + 1) place level (2 * place + 1) refl refl)) (few_keys node)) in omega (arith, room)

-- the last member below a node is that below its right child, where members are below it
pub last_right : (keys : List ℕ) (level place : ℕ) → Rises keys → 0 < length (keys_below keys level (2 * place + 1)) → last_of (keys_below keys level (2 * place + 1)) ≡ last_of (keys_below keys (level + 1) place)
last_right keys level place rises some =
    sym (last_append (keys_below keys level (2 * place)) (keys_below keys level (2 * place + 1)) some) ∙ ap last_of (children_cover keys level place rises)

-- and that below its left child, where none are
pub last_left : (keys : List ℕ) (level place : ℕ) → Rises keys → length (keys_below keys level (2 * place + 1)) ≡ 0 → last_of (keys_below keys level (2 * place)) ≡ last_of (keys_below keys (level + 1) place)
last_left keys level place rises none =
    let all = ap (λ ys. keys_below keys level (2 * place) ++ ys) (no_members (keys_below keys level (2 * place + 1)) none) ∙ append-nil (keys_below keys level (2 * place)) in
    ap last_of (sym all ∙ children_cover keys level place rises)

-- the first member below a node is that below its left child, where members are below it
pub first_left : (keys : List ℕ) (level place : ℕ) → Rises keys → 0 < length (keys_below keys level (2 * place)) → first_of (keys_below keys level (2 * place)) ≡ first_of (keys_below keys (level + 1) place)
first_left keys level place rises some =
    sym (first_append (keys_below keys level (2 * place)) (keys_below keys level (2 * place + 1)) some) ∙ ap first_of (children_cover keys level place rises)

-- and that below its right child, where none are
pub first_right : (keys : List ℕ) (level place : ℕ) → Rises keys → length (keys_below keys level (2 * place)) ≡ 0 → first_of (keys_below keys level (2 * place + 1)) ≡ first_of (keys_below keys (level + 1) place)
first_right keys level place rises none =
    let all = ap (λ xs. xs ++ keys_below keys level (2 * place + 1)) (no_members (keys_below keys level (2 * place)) none) in
    ap first_of (sym all ∙ children_cover keys level place rises)

-- there are as many members below a node as below its two children
pub children_add : (keys : List ℕ) (level place : ℕ) → Rises keys → length (keys_below keys level (2 * place)) + length (keys_below keys level (2 * place + 1)) ≡ length (keys_below keys (level + 1) place)
children_add keys level place rises = sym (length-append (keys_below keys level (2 * place)) (keys_below keys level (2 * place + 1))) ∙ ap length (children_cover keys level place rises)

-- a leaf that covers a member covers its key alone
leaf_alone : (keys : List ℕ) (level place : ℕ) → Rises keys → level ≡ 0 → 0 < length (keys_below keys level place) → keys_below keys level place ≡ place ∷ []
leaf_alone keys level place rises leaf some =
    let covers = leaf_is keys level place leaf in
    elim (range_of_one keys place rises) [
      | inl none ↦ absurd (omega (arith, ap length none, ap length covers, some))
      | inr one ↦ covers ∙ one
    ]

-- so what such a leaf has, that key has
pub leaf_has : {X : Type 0} (of : List ℕ → X) (x : X) (keys : List ℕ) (level place : ℕ) → Rises keys → level ≡ 0 → 0 < length (keys_below keys level place) → of (keys_below keys level place) ≡ x → of (place ∷ []) ≡ x
leaf_has of x keys level place rises leaf some same = sym (ap of (leaf_alone keys level place rises leaf some)) ∙ same

-- at the top a key is in the node at place 0
pub at_top : (k level n : ℕ) → k < n → n ≡ 2 ^ level → k / 2 ^ level ≡ 0
at_top k level n h e = div-eq_of_lt (omega (arith, h, e))

-- at a leaf it is the first key, and the last
pub at_leaf : (k level : ℕ) → level ≡ 0 → first_key level (k / 2 ^ level) ≡ k
at_leaf k level leaf = leaf_first level (k / 2 ^ level) leaf ∙ leaf_low level (k / 2 ^ level) k leaf (key_first k level) (key_end k level)

pub past_leaf : (k level : ℕ) → level ≡ 0 → end_key level (k / 2 ^ level) ≡ k + 1
past_leaf k level leaf = leaf_end level (k / 2 ^ level) leaf ∙ ap (λ n. n + 1) (leaf_low level (k / 2 ^ level) k leaf (key_first k level) (key_end k level))

-- what a child has of its node it has of the node that a walk began with, where the set was never changed
pub as_begun : {X : Type 0} (of : List ℕ → X) (x : X) {set other : SetFacts} (level l m place p : ℕ) → other ≡ set → l ≡ level → of (keys_below (list_of other) m p) ≡ of (keys_below (list_of other) l place) → of (keys_below (list_of set) level place) ≡ x → of (keys_below (list_of set) m p) ≡ x
as_begun of x {set = set} level l m place p e f child node =
    sym (ap (λ s. of (keys_below (list_of s) m p)) e) ∙ child ∙ ap (λ s. of (keys_below (list_of s) l place)) e ∙ ap (λ n. of (keys_below (list_of set) n place)) f ∙ node

-- what is told of the members below a node is so, where the set is written in another way
pub told_is : {X : Type 0} (of : List ℕ → X) (x y : X) {set other : SetFacts} (level place : ℕ) → other ≡ set → x ≡ of (keys_below (list_of other) level place) → y ≡ of (keys_below (list_of set) level place) → x ≡ y
told_is of x y level place e told is = told ∙ ap (λ s. of (keys_below (list_of s) level place)) e ∙ sym is
