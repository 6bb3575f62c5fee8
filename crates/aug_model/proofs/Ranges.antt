-- The members of a set in an interval: how intervals that meet join, and what an interval of one key says of it.
use Rattle.std.proofs.Common.{◌≡◌, ℕ, ◌+◌, ◌<◌, ◌≤◌, ◌⊎◌, zero, suc, length-append, ◌&&◌, ◌||◌, leb, ltb, Bool, true, false, if◌then◌else◌, List, [], ◌∷◌, ◌++◌, length, get_or, take, filter, sym, ap, ◌∙◌, refl, arith, inl, inr}
use Rattle.std.proofs.lemmas.Bool.{cases_lt, cases_order, eq-eqb, ne_eqb}
use Rattle.std.proofs.lemmas.Bool.Decides.{nat_tests}
use Rattle.std.proofs.lemmas.List.Elements.{filter-append}
use Rattle.std.proofs.lemmas.List.{append-nil}
use Rattle.std.proofs.lemmas.List.Kept.{AllPairs-from_increasing}
use Rattle.std.specs.Prelude.{All, Contains}
use Rattle.std.specs.List.Sorted.{IsStrictlyIncreasing}
use Rattle.aug_model.specs.Keys.{is_member}
use Rattle.aug_model.specs.Queries.{range_of}

-- each number of the list is above x
abbrev pub AllAbove : ℕ → List ℕ → Type 0
AllAbove x [] = Unit {0}
AllAbove x (y ∷ ys) = (x < y) × AllAbove x ys

-- each number is above all before it
abbrev pub Rises : List ℕ → Type 0
Rises [] = Unit {0}
Rises (x ∷ xs) = AllAbove x xs × Rises xs

-- each number is below n
abbrev pub AllBelow : ℕ → List ℕ → Type 0
AllBelow n [] = Unit {0}
AllBelow n (x ∷ xs) = (x < n) × AllBelow n xs

all_above_from : (x : ℕ) (xs : List ℕ) → ((k : ℕ) → k < length xs → x < get_or xs k 0) → AllAbove x xs
all_above_from x [] h = tt
all_above_from x (y ∷ ys) h = (h 0 (omega arith), all_above_from x ys (λ k l. h (suc k) (omega arith)))

rises_from_pairs : (xs : List ℕ) → ((i j : ℕ) → i < j → j < length xs → get_or xs i 0 < get_or xs j 0) → Rises xs
rises_from_pairs [] h = tt
rises_from_pairs (x ∷ xs) h = (all_above_from x xs (λ k l. h 0 (suc k) (omega arith) (omega arith)), rises_from_pairs xs (λ i j l m. h (suc i) (suc j) (omega arith) (omega arith)))

pub rises_from : (xs : List ℕ) → IsStrictlyIncreasing xs → Rises xs
rises_from xs h = rises_from_pairs xs (λ i j l m. AllPairs-from_increasing xs h i j 0 l m)

pub all_below_from : (n : ℕ) (xs : List ℕ) → All (λ k. k < n) xs → AllBelow n xs
all_below_from n [] h = tt
all_below_from n (x ∷ xs) h = (h 0 0 (omega arith), all_below_from n xs (λ k d l. h (suc k) d (omega arith)))

-- one more member before the rest
in_range : (x a b : ℕ) (xs : List ℕ) → a ≤ x → x < b → range_of (x ∷ xs) a b ≡ x ∷ range_of xs a b
in_range x a b xs h l = grind (arith, nat_tests)

below_range : (x a b : ℕ) (xs : List ℕ) → x < a → range_of (x ∷ xs) a b ≡ range_of xs a b
below_range x a b xs h = grind (arith, nat_tests)

above_range : (x a b : ℕ) (xs : List ℕ) → b ≤ x → range_of (x ∷ xs) a b ≡ range_of xs a b
above_range x a b xs h = grind (arith, nat_tests)

-- past the greatest key of an interval there are no more members of it
none_above : (x a b : ℕ) (xs : List ℕ) → AllAbove x xs → b ≤ x + 1 → range_of xs a b ≡ []
none_above x a b [] h l = refl
none_above x a b (y ∷ ys) h l =
    let y_above : x < y = h.0 in
    above_range y a b ys (omega arith) ∙ none_above x a b ys h.1 l

-- three lists that are what three others are
three_same : (p q r p' q' r' : List ℕ) → p ≡ p' → q ≡ q' → r ≡ r' → p' ≡ q' ++ r' → p ≡ q ++ r
three_same p q r p' q' r' e f g h = cc

-- an interval that is cut in two
pub range_cut : (keys : List ℕ) (a b c : ℕ) → Rises keys → a ≤ b → b ≤ c → range_of keys a c ≡ range_of keys a b ++ range_of keys b c
range_cut [] a b c h l m = refl
range_cut (x ∷ xs) a b c h l m =
    elim (cases_lt x a) [
      | inl low ↦ three_same _ _ _ _ _ _ (below_range x a c xs low) (below_range x a b xs low) (below_range x b c xs (omega arith)) (range_cut xs a b c h.1 l m)
      | inr from ↦ elim (cases_lt x b) [
        | inl front ↦ three_same _ _ _ _ _ _ (in_range x a c xs from (omega arith)) (in_range x a b xs from front) (below_range x b c xs front) (ap (λ ys. x ∷ ys) (range_cut xs a b c h.1 l m))
        | inr back ↦ elim (cases_lt x c) [
          | inl inside ↦ three_same _ _ _ _ _ _ (in_range x a c xs from inside) (above_range x a b xs back ∙ none_above x a b xs h.0 (omega arith)) (in_range x b c xs back inside) (ap (λ ys. x ∷ ys) (range_cut xs a b c h.1 l m ∙ ap (λ ys. ys ++ range_of xs b c) (none_above x a b xs h.0 (omega arith))))
          | inr past ↦ three_same _ _ _ _ _ _ (above_range x a c xs past) (above_range x a b xs back) (above_range x b c xs past) (range_cut xs a b c h.1 l m)
        ]
      ]
    ]

-- no key is in an interval that ends where it begins
pub range_none : (keys : List ℕ) (a b : ℕ) → b ≤ a → range_of keys a b ≡ []
range_none [] a b h = refl
range_none (x ∷ xs) a b h =
    elim (cases_lt x a) [
      | inl low ↦ below_range x a b xs low ∙ range_none xs a b h
      | inr from ↦ above_range x a b xs (omega arith) ∙ range_none xs a b h
    ]

-- all keys below n are in the interval from 0 to n
pub range_whole : (keys : List ℕ) (n : ℕ) → AllBelow n keys → range_of keys 0 n ≡ keys
range_whole [] n h = refl
range_whole (x ∷ xs) n h = in_range x 0 n xs (omega arith) h.0 ∙ ap (λ ys. x ∷ ys) (range_whole xs n h.1)

-- an interval that goes past all keys
pub range_clipped : (keys : List ℕ) (a b n : ℕ) → AllBelow n keys → n ≤ b → range_of keys a b ≡ range_of keys a n
range_clipped [] a b n h l = refl
range_clipped (x ∷ xs) a b n h l =
    let low : x < n = h.0 in
    elim (cases_lt x a) [
      | inl out ↦ below_range x a b xs out ∙ range_clipped xs a b n h.1 l ∙ sym (below_range x a n xs out)
      | inr from ↦ in_range x a b xs from (omega arith) ∙ ap (λ ys. x ∷ ys) (range_clipped xs a b n h.1 l) ∙ sym (in_range x a n xs from low)
    ]

-- the members below k, as an interval
pub below_is : (keys : List ℕ) (k : ℕ) → filter (λ x. ltb x k) keys ≡ range_of keys 0 k
below_is [] k = refl
below_is (x ∷ xs) k = let rest : filter (λ y. ltb y k) xs ≡ range_of xs 0 k = below_is xs k in grind (arith, nat_tests)

-- the members above k, as an interval
pub above_is : (keys : List ℕ) (k n : ℕ) → AllBelow n keys → filter (λ x. ltb k x) keys ≡ range_of keys (k + 1) n
above_is [] k n h = refl
above_is (x ∷ xs) k n h =
    let rest : filter (λ y. ltb k y) xs ≡ range_of xs (k + 1) n = above_is xs k n h.1 in
    let low : x < n = h.0 in grind (arith, nat_tests)

-- an interval of one key has that key or none
pub range_of_one : (keys : List ℕ) (k : ℕ) → Rises keys → (range_of keys k (k + 1) ≡ []) ⊎ (range_of keys k (k + 1) ≡ k ∷ [])
range_of_one [] k h = inl refl
range_of_one (x ∷ xs) k h =
    elim (cases_order x k) [
      | inl same ↦ inr (in_range x k (k + 1) xs (omega arith) (omega arith) ∙ ap (λ ys. x ∷ ys) (none_above x k (k + 1) xs h.0 (omega arith)) ∙ ap (λ y. y ∷ []) same)
      | inr (inl low) ↦ elim (range_of_one xs k h.1) [ inl none ↦ inl (below_range x k (k + 1) xs low ∙ none) | inr one ↦ inr (below_range x k (k + 1) xs low ∙ one) ]
      | inr (inr high) ↦ elim (range_of_one xs k h.1) [ inl none ↦ inl (above_range x k (k + 1) xs (omega arith) ∙ none) | inr one ↦ inr (above_range x k (k + 1) xs (omega arith) ∙ one) ]
    ]

-- membership says which
pub range_of_key : (keys : List ℕ) (k : ℕ) → Rises keys → range_of keys k (k + 1) ≡ (if is_member keys k then k ∷ [] else [])
range_of_key [] k h = refl
range_of_key (x ∷ xs) k h =
    elim (cases_order x k) [
      | inl same ↦
          in_range x k (k + 1) xs (omega arith) (omega arith) ∙ ap (λ ys. x ∷ ys) (none_above x k (k + 1) xs h.0 (omega arith)) ∙ ap (λ y. y ∷ []) same
          ∙ sym (ap (λ b. if b || is_member xs k then k ∷ [] else []) (eq-eqb x k same))
      | inr (inl low) ↦
          below_range x k (k + 1) xs low ∙ range_of_key xs k h.1 ∙ sym (ap (λ b. if b || is_member xs k then k ∷ [] else []) (ne_eqb x k (λ e. omega (arith, e, low))))
      | inr (inr high) ↦
          above_range x k (k + 1) xs (omega arith) ∙ range_of_key xs k h.1 ∙ sym (ap (λ b. if b || is_member xs k then k ∷ [] else []) (ne_eqb x k (λ e. omega (arith, e, high))))
    ]

-- a member is one that the interval of its key counts
pub is_member-counted : (keys : List ℕ) (k : ℕ) → Rises keys → is_member keys k ≡ ltb 0 (length (range_of keys k (k + 1)))
is_member-counted keys k h = counted (is_member keys k) ∙ sym (ap (λ ys. ltb 0 (length ys)) (range_of_key keys k h))
  where
    counted : (b : Bool) → b ≡ ltb 0 (length (if b then k ∷ [] else []))
    counted true = refl
    counted false = refl

-- an interval of one key has at most one member
pub one_member : (keys : List ℕ) (k : ℕ) → Rises keys → length (range_of keys k (k + 1)) ≤ 1
one_member keys k h = elim (range_of_one keys k h) [ inl none ↦ omega (arith, ap length none) | inr one ↦ omega (arith, ap length one) ]

-- an interval within an interval has no more members
pub range_within : (keys : List ℕ) (a b c d : ℕ) → Rises keys → a ≤ b → b ≤ c → c ≤ d → length (range_of keys b c) ≤ length (range_of keys a d)
range_within keys a b c d h l m n =
    let front = ap length (range_cut keys a b d h l (omega arith)) in
    let back = ap length (range_cut keys b c d h m n) in
    omega (arith, front, back, length-append (range_of keys a b) (range_of keys b d), length-append (range_of keys b c) (range_of keys c d))

-- how many members an interval has that is cut in two
pub count_cut : (keys : List ℕ) (a b c : ℕ) → Rises keys → a ≤ b → b ≤ c → length (range_of keys a c) ≡ length (range_of keys a b) + length (range_of keys b c)
count_cut keys a b c h l m = ap length (range_cut keys a b c h l m) ∙ length-append (range_of keys a b) (range_of keys b c)

-- a list with no members is empty
pub no_members : (keys : List ℕ) → length keys ≡ 0 → keys ≡ []
no_members [] h = refl
no_members (x ∷ xs) h = absurd (omega arith)

-- rising keys below n are no more than n
count_from : (n x : ℕ) (xs : List ℕ) → x < n → AllAbove x xs → Rises xs → AllBelow n xs → x + 1 + length xs ≤ n
count_from n x [] l a h b = omega arith
count_from n x (y ∷ ys) l a h b = let rest : y + 1 + length ys ≤ n = count_from n y ys b.0 h.0 h.1 b.1 in let above : x < y = a.0 in omega arith

pub count_few : (n : ℕ) (keys : List ℕ) → Rises keys → AllBelow n keys → length keys ≤ n
count_few n [] h b = omega arith
count_few n (x ∷ xs) h b = let rest : x + 1 + length xs ≤ n = count_from n x xs b.0 h.0 h.1 b.1 in omega arith

-- a member makes the interval of its key have a member
pub member_counts : (keys : List ℕ) (k i : ℕ) → i < length keys → get_or keys i k ≡ k → 0 < length (range_of keys k (k + 1))
member_counts [] k i l e = absurd (omega arith)
member_counts (x ∷ xs) k zero l e = let here : length (range_of (x ∷ xs) k (k + 1)) ≡ suc (length (range_of xs k (k + 1))) = ap length (in_range x k (k + 1) xs (omega arith) (omega arith)) in omega arith
member_counts (x ∷ xs) k (suc i) l e =
    let rest : 0 < length (range_of xs k (k + 1)) = member_counts xs k i (omega arith) e in
    elim (cases_lt x k) [
      | inl low ↦ let here = ap length (below_range x k (k + 1) xs low) in omega (arith, here)
      | inr from ↦ elim (cases_lt x (k + 1)) [
        | inl same ↦ let here = ap length (in_range x k (k + 1) xs from same) in omega (arith, here)
        | inr high ↦ let here = ap length (above_range x k (k + 1) xs high) in omega (arith, here)
      ]
    ]

-- and only a member does
pub counted_member : (keys : List ℕ) (k : ℕ) → 0 < length (range_of keys k (k + 1)) → Contains keys k
counted_member [] k h = absurd (omega arith)
counted_member (x ∷ xs) k h =
    elim (cases_order x k) [
      | inl same ↦ (0, omega arith, same)
      | inr (inl low) ↦ let rest = counted_member xs k (let here = ap length (below_range x k (k + 1) xs low) in omega (arith, here)) in (suc rest.0, omega (arith, rest.1), rest.2)
      | inr (inr high) ↦ let rest = counted_member xs k (let here = ap length (above_range x k (k + 1) xs (omega arith)) in omega (arith, here)) in (suc rest.0, omega (arith, rest.1), rest.2)
    ]

-- an interval has no more members than there are
pub range_le : (keys : List ℕ) (a b : ℕ) → length (range_of keys a b) ≤ length keys
range_le [] a b = omega arith
range_le (x ∷ xs) a b =
    let rest : length (range_of xs a b) ≤ length xs = range_le xs a b in
    elim (cases_lt x a) [
      | inl low ↦ let here = ap length (below_range x a b xs low) in omega (arith, here)
      | inr from ↦ elim (cases_lt x b) [
        | inl inside ↦ let here = ap length (in_range x a b xs from inside) in omega (arith, here)
        | inr past ↦ let here = ap length (above_range x a b xs past) in omega (arith, here)
      ]
    ]

-- the first numbers of a rising list are below the next one
above_at : (x i : ℕ) (xs : List ℕ) → AllAbove x xs → i < length xs → x < get_or xs i 0
above_at x i [] h l = absurd (omega arith)
above_at x zero (y ∷ ys) h l = h.0
above_at x (suc i) (y ∷ ys) h l = above_at x i ys h.1 (omega arith)

pub taken_below : (keys : List ℕ) (i : ℕ) → Rises keys → i < length keys → AllBelow (get_or keys i 0) (take i keys)
taken_below [] i h l = absurd (omega arith)
taken_below (x ∷ xs) zero h l = tt
taken_below (x ∷ xs) (suc i) h l = (above_at x i xs h.0 (omega arith), taken_below xs i h.1 (omega arith))

-- a key put after lesser ones is the only member of its interval
pub added_same : (keys : List ℕ) (k : ℕ) → AllBelow k keys → range_of (keys ++ k ∷ []) k (k + 1) ≡ k ∷ []
added_same keys k h =
    filter-append (λ x. leb k x && ltb x (k + 1)) keys (k ∷ [])
    ∙ ap (λ xs. xs ++ range_of (k ∷ []) k (k + 1)) (range_clipped keys k (k + 1) k h (omega arith) ∙ range_none keys k k (omega arith)) ∙ in_range k k (k + 1) [] (omega arith) (omega arith)

-- and changes no other interval of one key
pub added_other : (keys : List ℕ) (k p : ℕ) → (p ≡ k → ⊥) → range_of (keys ++ k ∷ []) p (p + 1) ≡ range_of keys p (p + 1)
added_other keys k p ne =
    let apart : range_of (k ∷ []) p (p + 1) ≡ [] = elim (cases_lt k p) [ inl low ↦ below_range k p (p + 1) [] low | inr from ↦ above_range k p (p + 1) [] (omega (arith, ne, from)) ] in
    filter-append (λ x. leb p x && ltb x (p + 1)) keys (k ∷ []) ∙ ap (λ ys. range_of keys p (p + 1) ++ ys) apart ∙ append-nil (range_of keys p (p + 1))
