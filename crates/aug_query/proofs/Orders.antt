-- The order queries on rising keys, told by the members of intervals.
use Rattle.std.proofs.Common.{◌≡◌, ℕ, ◌+◌, ◌-◌, ◌<◌, ◌≤◌, zero, suc, Bool, true, false, cond, eqb, List, [], ◌∷◌, ◌++◌, length, get_or, Some, None, ap, ◌∙◌, refl, arith, inl, inr, length-append, zero-add, eq-eqb}
use Rattle.std.proofs.lemmas.Bool.{cases_order, cases_Bool}
use Rattle.std.proofs.lemmas.Bool.Decides.{Decides-eqb}
use Rattle.std.specs.Prelude.{find, slice_get}
use Rattle.aug_model.specs.Queries.{rank_of, select_of, range_of, first_of, last_of}
use Rattle.aug_model.proofs.Ranges.{Rises, AllBelow, count_cut, range_within, below_is, member_counts, counted_member, range_whole, range_clipped, range_none, count_few}

-- how many members are below k
pub rank_is : (keys : List ℕ) (k : ℕ) → rank_of keys k ≡ length (range_of keys 0 k)
rank_is keys k = ap length (below_is keys k)

-- the members below a greater key are those below a lesser one and those in between
pub rank_cut : (keys : List ℕ) (a b : ℕ) → Rises keys → a ≤ b → rank_of keys b ≡ rank_of keys a + length (range_of keys a b)
rank_cut keys a b h l = omega (arith, rank_is keys a, rank_is keys b, count_cut keys 0 a b h (omega arith) l)

-- no member is below the least key
pub rank_none : (keys : List ℕ) (a : ℕ) → a ≡ 0 → rank_of keys a ≡ 0
rank_none keys a e = omega (arith, ap (rank_of keys) e, rank_is keys 0, ap length (range_none keys 0 0 (omega arith)))

-- past all keys every member is below
pub rank_past : (keys : List ℕ) (k n : ℕ) → AllBelow n keys → n ≤ k → rank_of keys k ≡ length keys
rank_past keys k n h l = omega (arith, rank_is keys k, ap length (range_clipped keys 0 k n h l), ap length (range_whole keys n h))

-- there are never more members below a key than there are
pub rank_few : (keys : List ℕ) (k n : ℕ) → Rises keys → AllBelow n keys → rank_of keys k ≤ n
rank_few keys k n h b =
    let whole = ap length (range_clipped keys 0 (n + k) n b (omega arith) ∙ range_whole keys n b) in
    omega (arith, rank_is keys k, whole, count_few n keys h b, range_within keys 0 0 k (n + k) h (omega arith) (omega arith) (omega arith))

-- a lesser member has a lesser rank
rank_rises : (keys : List ℕ) (x y : ℕ) → Rises keys → x < y → 0 < length (range_of keys x (x + 1)) → rank_of keys x < rank_of keys y
rank_rises keys x y h l m =
    let cut = count_cut keys 0 x y h (omega arith) (omega arith) in
    let within = range_within keys x x (x + 1) y h (omega arith) (omega arith) (omega arith) in
    omega (arith, rank_is keys x, rank_is keys y, cut, within, m)

-- every member is below the end of all keys
rank_below : (keys : List ℕ) (x n : ℕ) → Rises keys → AllBelow n keys → 0 < length (range_of keys x (x + 1)) → rank_of keys x < length keys
rank_below keys x n h b m =
    let whole = ap length (range_clipped keys 0 (n + x + 1) n b (omega arith) ∙ range_whole keys n b) in
    let cut = count_cut keys 0 x (n + x + 1) h (omega arith) (omega arith) in
    let within = range_within keys x x (x + 1) (n + x + 1) h (omega arith) (omega arith) (omega arith) in
    omega (arith, rank_is keys x, whole, cut, within, m)

-- a search at its first element
pub find_hit : (test : ℕ → Bool) (x : ℕ) (xs : List ℕ) → test x ≡ true → find test (x ∷ xs) ≡ Some x
find_hit test x xs e = ap (λ b. cond b (Some x) (find test xs)) e

pub find_skip : (test : ℕ → Bool) (x : ℕ) (xs : List ℕ) → test x ≡ false → find test (x ∷ xs) ≡ find test xs
find_skip test x xs e = ap (λ b. cond b (Some x) (find test xs)) e

-- a search finds the one element that passes
find_only : (test : ℕ → Bool) (xs : List ℕ) (k i : ℕ) → i < length xs → get_or xs i k ≡ k → test k ≡ true → ((x j : ℕ) → j < length xs → get_or xs j x ≡ x → test x ≡ true → x ≡ k) → find test xs ≡ Some k
find_only test [] k i l e p only = absurd (omega arith)
find_only test (x ∷ xs) k zero l e p only = find_hit test x xs (ap test e ∙ p) ∙ ap Some e
find_only test (x ∷ xs) k (suc i) l e p only =
    elim (cases_Bool (test x)) [
      | inl hit ↦ find_hit test x xs hit ∙ ap Some (only x 0 (omega arith) refl hit)
      | inr skip ↦ find_skip test x xs skip ∙ find_only test xs k i (omega arith) e p (λ y j m f q. only y (suc j) (omega arith) f q)
    ]

-- a search finds nothing where no element passes
find_none : (test : ℕ → Bool) (xs : List ℕ) → ((x j : ℕ) → j < length xs → get_or xs j x ≡ x → test x ≡ false) → find test xs ≡ None
find_none test [] h = refl
find_none test (x ∷ xs) h = find_skip test x xs (h x 0 (omega arith) refl) ∙ find_none test xs (λ y j m f. h y (suc j) (omega arith) f)

-- the member with i members below it
pub select_is : (keys : List ℕ) (k i : ℕ) → Rises keys → 0 < length (range_of keys k (k + 1)) → length (range_of keys 0 k) ≡ i → select_of keys i ≡ Some k
select_is keys k i h m r =
    let place = counted_member keys k m in
    let rank : rank_of keys k ≡ i = rank_is keys k ∙ r in
    find_only (λ x. eqb (rank_of keys x) i) keys k place.0 place.1 place.2 (eq-eqb (rank_of keys k) i rank)
    (λ x j l e t. elim (cases_order x k) [
      | inl same ↦ same
      | inr (inl low) ↦ let less = rank_rises keys x k h low (member_counts keys x j l e) in absurd (omega (arith, less, rank, (Decides-eqb (rank_of keys x) i).0 t))
      | inr (inr high) ↦ let less = rank_rises keys k x h high m in absurd (omega (arith, less, rank, (Decides-eqb (rank_of keys x) i).0 t))
    ])

-- past the last member there is none
pub select_past : (keys : List ℕ) (i n : ℕ) → Rises keys → AllBelow n keys → length keys ≤ i → select_of keys i ≡ None
select_past keys i n h b l =
    find_none (λ x. eqb (rank_of keys x) i) keys
    (λ x j m e. elim (cases_Bool (eqb (rank_of keys x) i)) [
      | inl hit ↦ let less = rank_below keys x n h b (member_counts keys x j m e) in absurd (omega (arith, less, (Decides-eqb (rank_of keys x) i).0 hit))
      | inr skip ↦ skip
    ])

-- a place past the first list is a place of the second
slice_get_skip : (xs ys : List ℕ) (i : ℕ) → slice_get (xs ++ ys) (length xs + i) ≡ slice_get ys i
slice_get_skip [] ys i = ap (slice_get ys) (zero-add i)
slice_get_skip (x ∷ xs) ys i = let shift : suc (length xs) + i ≡ suc (length xs + i) = omega arith in ap (slice_get (x ∷ xs ++ ys)) shift ∙ slice_get_skip xs ys i

-- the last of two lists is that of the second, if it has one
pub last_append : (xs ys : List ℕ) → 0 < length ys → last_of (xs ++ ys) ≡ last_of ys
last_append xs ys h =
    let place : length (xs ++ ys) - 1 ≡ length xs + (length ys - 1) = omega (arith, length-append xs ys) in
    ap (slice_get (xs ++ ys)) place ∙ slice_get_skip xs ys (length ys - 1)

-- the first of two lists is that of the first, if it has one
pub first_append : (xs ys : List ℕ) → 0 < length xs → first_of (xs ++ ys) ≡ first_of xs
first_append [] ys h = absurd (omega arith)
first_append (x ∷ xs) ys h = refl
