-- Sets of cuts.
use Rattle.std.proofs.Common.{◌≡◌, ℕ, suc, ◌+◌, ◌%◌, ◌^◌, ◌<◌, ◌≤◌, Bool, true, false, ◌==◌, ◌||◌, List, [], ◌∷◌, length, get_or, refl, ap, ◌∙◌, inl, inr, arith, Contains, subst, if◌then◌else◌}
use Rattle.std.proofs.lemmas.Bool.{eqb-true, cases_Bool, cases_lt, le-leb, lt-ltb, le-ltb}
use Rattle.std.proofs.lemmas.List.{get_or_past}
use Rattle.std.proofs.lemmas.List.Folds.{Any-from_list_any}
use Rattle.std.proofs.lemmas.List.Elements.{All-contains}
use Rattle.std.proofs.lemmas.List.FromFn.{length-map-range_with_len, get_or-map-range_with_len}
use Rattle.std.specs.List.{range_with_len}
use Rattle.aug_model.specs.Keys.{IsKeySet, is_member, keys_of, pairs_of}
use Rattle.aug_model.specs.Queries.{weight_in}
use Rattle.aug_model.proofs.Pairs.{agrees-own, pairs-again}
use Rattle.aug_model.proofs.Ranges.{rises_from}
use Rattle.aug_core.specs.Cuts.{Cut, shown_of, serial_of, weight_at, set_of_cut, pairs_of_cut, opening_cut, IsAtMost}
use Rattle.aug_trie.proofs.Rising.{RisesFrom, rises_of, same_list, is_member-filter, is_member-range, rises-range, rises-filter, head_there}

abbrev pub odd : ℕ → Bool
odd n = n % 2 == 1

-- past the last key there is no serial
pub serial_past : (cut : Cut) (k : ℕ) → length cut ≤ k → serial_of cut k ≡ 0
serial_past cut k past = ap (λ (z : ℕ × ℕ). z.0) (get_or_past cut k (0, 0) past)

-- no serial falls from a cut to a later one
pub serial_rises : (c d : Cut) (k : ℕ) → IsAtMost c d → serial_of c k ≤ serial_of d k
serial_rises c d k le = elim (le.no_greater k) [
  | inl less ↦ omega (arith, less)
  | inr same ↦ omega (arith, ap (λ (z : ℕ × ℕ). z.0) same)
]

pub rises-set_of_cut : (cut : Cut) → RisesFrom 0 (set_of_cut cut)
rises-set_of_cut cut = rises-filter (λ key. odd (serial_of cut key)) 0 (range_with_len 0 (length cut)) (rises-range 0 (length cut))

-- a key is in the set of a cut exactly where its serial is odd
pub is_member-set_of_cut : (cut : Cut) (k : ℕ) → is_member (set_of_cut cut) k ≡ odd (serial_of cut k)
is_member-set_of_cut cut k =
    elim (cases_lt k (length cut)) [
      | inl below ↦ is_member-filter (λ key. odd (serial_of cut key)) (range_with_len 0 (length cut)) k ∙ rw (is_member-range 0 (length cut) k, le-leb 0 k (omega arith), lt-ltb k (0 + length cut) (omega arith))
      | inr past ↦ is_member-filter (λ key. odd (serial_of cut key)) (range_with_len 0 (length cut)) k ∙ rw (is_member-range 0 (length cut) k, le-leb 0 k (omega arith), le-ltb k (0 + length cut) (omega arith), serial_past cut k past)
    ]

pub contains_of_member : (xs : List ℕ) (k : ℕ) → is_member xs k ≡ true → Contains xs k
contains_of_member xs k there =
    let any = Any-from_list_any (λ x. x == k) xs there in
    let same = eqb-true any.1 k any.4 in
    (any.0, any.2, subst (λ (x : ℕ). get_or xs any.0 x ≡ x) same any.3)

-- what an opening cut shows of a key
abbrev opens_at : Bool → ℕ → ℕ × ℕ
opens_at there weight = if there then (1, weight) else (0, 0)

abbrev opens_with : List (ℕ × ℕ) → ℕ → ℕ × ℕ
opens_with members key = opens_at (is_member (keys_of members) key) (weight_in members key)

pub shown-opening : (bits : ℕ) (members : List (ℕ × ℕ)) (k : ℕ) → k < 2 ^ bits → shown_of (opening_cut bits members) k ≡ (if is_member (keys_of members) k then (1, weight_in members k) else (0, 0))
shown-opening bits members k below = get_or-map-range_with_len (opens_with members) 0 (2 ^ bits) k k (0, 0) below (omega arith)

first_if : (b : Bool) (w : ℕ) → (opens_at b w).0 ≡ (if b then 1 else 0)
first_if true w = refl
first_if false w = refl

pub serial-opening : (bits : ℕ) (members : List (ℕ × ℕ)) (k : ℕ) → k < 2 ^ bits → serial_of (opening_cut bits members) k ≡ (if is_member (keys_of members) k then 1 else 0)
serial-opening bits members k below = ap (λ (z : ℕ × ℕ). z.0) (shown-opening bits members k below) ∙ first_if (is_member (keys_of members) k) (weight_in members k)

-- a member opens with its weight
weight-opening : (bits : ℕ) (members : List (ℕ × ℕ)) (k : ℕ) → k < 2 ^ bits → is_member (keys_of members) k ≡ true → weight_at (opening_cut bits members) k ≡ weight_in members k
weight-opening bits members k below there = ap (λ (z : ℕ × ℕ). z.1) (shown-opening bits members k below) ∙ ap (λ (b : Bool). (opens_at b (weight_in members k)).1) there

pub length-opening : (bits : ℕ) (members : List (ℕ × ℕ)) → length (opening_cut bits members) ≡ 2 ^ bits
length-opening bits members = length-map-range_with_len (opens_with members) 0 (2 ^ bits)

-- a key of more bits is no member
absent_above : (bits : ℕ) (members : List ℕ) (k : ℕ) → IsKeySet bits members → 2 ^ bits ≤ k → is_member members k ≡ false
absent_above bits members k set above =
    elim (cases_Bool (is_member members k)) [
      | inl there ↦ absurd (omega (arith, All-contains (λ x. x < 2 ^ bits) members k set.below (contains_of_member members k there)))
      | inr absent ↦ absent
    ]

odd_one_if : (b : Bool) → odd (if b then 1 else 0) ≡ b
odd_one_if true = refl
odd_one_if false = refl

-- the opening cut of a set gives the set back
pub set_of_cut-opening : (bits : ℕ) (members : List (ℕ × ℕ)) → IsKeySet bits (keys_of members) → set_of_cut (opening_cut bits members) ≡ keys_of members
set_of_cut-opening bits members set =
    same_list 0 (set_of_cut (opening_cut bits members)) (keys_of members) (rises-set_of_cut (opening_cut bits members)) (rises_of 0 (keys_of members) set.rising (λ _. omega arith))
    (λ k. is_member-set_of_cut (opening_cut bits members) k ∙ elim (cases_lt k (2 ^ bits)) [
      | inl below ↦ rw (serial-opening bits members k below) (odd_one_if (is_member (keys_of members) k))
      | inr above ↦ rw (serial_past (opening_cut bits members) k (omega (arith, length-opening bits members, above)), absent_above bits (keys_of members) k set above)
    ])

or_true : (b c : Bool) → c ≡ true → (b || c) ≡ true
or_true true c t = refl
or_true false c t = t

-- two weights that are the same for all keys of a list make the same pairs
pub same_pairs : (f g : ℕ → ℕ) (keys : List ℕ) → ((k : ℕ) → is_member keys k ≡ true → f k ≡ g k) → pairs_of f keys ≡ pairs_of g keys
same_pairs f g [] same = refl
same_pairs f g (k ∷ keys) same =
    let here = same k (head_there k keys) in
    let rest = same_pairs f g keys (λ j there. same j (or_true (k == j) (is_member keys j) there)) in
    λ i. (k, here i) ∷ rest i

-- and with its weights
pub pairs_of_cut-opening : (bits : ℕ) (members : List (ℕ × ℕ)) → IsKeySet bits (keys_of members) → pairs_of_cut (opening_cut bits members) ≡ members
pairs_of_cut-opening bits members set =
    let weighs : (k : ℕ) → is_member (keys_of members) k ≡ true → weight_at (opening_cut bits members) k ≡ weight_in members k =
    λ k there. weight-opening bits members k (All-contains (λ x. x < 2 ^ bits) (keys_of members) k set.below (contains_of_member (keys_of members) k there)) there in
    ap (pairs_of (weight_at (opening_cut bits members))) (set_of_cut-opening bits members set) ∙ same_pairs (weight_at (opening_cut bits members)) (weight_in members) (keys_of members) weighs
    ∙ pairs-again (weight_in members) members (agrees-own members (rises_from (keys_of members) set.rising))

-- two cuts of the same keys that show the same of each are the same
pub same_cut : (c d : Cut) → length c ≡ length d → ((k : ℕ) → shown_of c k ≡ shown_of d k) → c ≡ d
same_cut [] [] long same = refl
same_cut [] (y ∷ d) long same = absurd (omega (arith, long))
same_cut (x ∷ c) [] long same = absurd (omega (arith, long))
same_cut (x ∷ c) (y ∷ d) long same = ap (λ z. z ∷ c) (same 0) ∙ ap (λ l. y ∷ l) (same_cut c d (omega (arith, long)) (λ k. same (suc k)))
