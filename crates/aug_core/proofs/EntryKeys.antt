-- The keys of an entry and their weights are small, and not many.
use Rattle.std.proofs.Common.{◌≡◌, ℕ, zero, suc, ◌+◌, ◌-◌, ◌%◌, ◌^◌, ◌<◌, ◌≤◌, Bool, true, false, eqb, if◌then◌else◌, List, [], ◌∷◌, ◌++◌, length, All, length-append, sym, ap, subst, ⊎_elim, arith}
use Rattle.std.proofs.Math.Nat.{two-pow-succ}
use Rattle.std.proofs.lemmas.Bool.{cases_lt}
use Rattle.std.proofs.lemmas.List.Elements.{All-nil, All-cons, All-append}
use Rattle.aug_monoid.specs.Weighted.{FitsPair}
use Rattle.aug_core.specs.Places.{Shape}
use Rattle.aug_core.specs.Addresses.{place_count, IsInner, left_of, right_of}
use Rattle.aug_core.specs.Book.{Book, At, IsBook}
use Rattle.aug_core.specs.declared.view.Entry.{Entry}
use Rattle.aug_core.proofs.Sizes.{twice, some_leaf}

-- keys and weights of 32 bits, at most so many
pub record AreSmall (most : ℕ) (pairs : List (ℕ × ℕ)) : Type 0 where
  pub small : All FitsPair pairs
  pub few : length pairs ≤ most

at_leaf : (b : Bool) (q w most : ℕ) → q < 2 ^ 32 → w < 2 ^ 32 → 1 ≤ most → AreSmall most (if b then (q, w) ∷ [] else [])
at_leaf true q w most low light some = record { small = All-cons FitsPair (q, w) [] (low, light) (All-nil FitsPair); few = omega arith }
at_leaf false q w most low light some = record { small = All-nil FitsPair; few = omega arith }

both : (m n k : ℕ) (xs ys : List (ℕ × ℕ)) → m + n ≡ k → AreSmall m xs → AreSmall n ys → AreSmall k (xs ++ ys)
both m n k xs ys is a b = let x = a.few in let y = b.few in let l = length-append xs ys in record { small = All-append FitsPair xs ys a.small b.small; few = omega arith }

module _ (face : ℕ → ℕ → List (ℕ × ℕ) → List ℕ) (s : Shape) (book : Book) (b : IsBook face s book) (few : 2 ^ s.bits ≤ 65536) where
  -- the places up to a level
  up_to : (j d q i : ℕ) (e : Entry) → j + d ≡ s.bits → q < 2 ^ (s.bits + 1) - 2 ^ d → At book q i e → AreSmall (2 ^ j) e.pairs
  up_to zero d q i e total low p = let is : d ≡ s.bits = omega arith in let same : 2 ^ d ≡ 2 ^ s.bits = ap (λ (z : ℕ). 2 ^ z) is in let t = twice s.bits in
      let serial = b.serials q i e (omega arith) p in subst (AreSmall (2 ^ 0)) (sym serial.there_if_odd) (at_leaf (eqb (i % 2) 1) q e.weight (2 ^ 0) (omega arith) serial.fits (omega arith))
  up_to (suc j) d q i e total low p = let t = twice s.bits in let two = two-pow-succ j in let two' = two-pow-succ d in let some = some_leaf (suc j) in ⊎_elim
      (λ (leaf : q < 2 ^ s.bits). let serial = b.serials q i e leaf p in subst (AreSmall (2 ^ suc j)) (sym serial.there_if_odd) (at_leaf (eqb (i % 2) 1) q e.weight (2 ^ suc j) (omega arith) serial.fits some))
      (λ (past : 2 ^ s.bits ≤ q). let inner : IsInner s q = record { past_leaves = past; inside = let one = some_leaf d in omega arith } in let o = b.over q i e inner p in
      subst (AreSmall (2 ^ suc j)) (sym o.pairs_of_both) (both (2 ^ j) (2 ^ j) (2 ^ suc j) o.left_child.pairs o.right_child.pairs (sym two)
      (up_to j (suc d) (left_of s q) e.left o.left_child (omega arith) (omega arith) o.left_at) (up_to j (suc d) (right_of s q) e.right o.right_child (omega arith) (omega arith) o.right_at)))
      (cases_lt q (2 ^ s.bits))

  pub are_small : (q i : ℕ) (e : Entry) → q < place_count s → At book q i e → AreSmall 65536 e.pairs
  are_small q i e inside p = let t = up_to s.bits 0 q i e (omega arith) inside p in let f = t.few in record { small = t.small; few = omega arith }
