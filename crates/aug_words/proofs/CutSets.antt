-- The set of a cut: its members rise, are small, and fit.
use Rattle.std.proofs.Common.{◌≡◌, ℕ, zero, suc, ◌+◌, ◌%◌, ◌^◌, ◌<◌, ◌≤◌, ◌==◌, List, All, length, sym, ap, subst, ⊎_elim, arith, ◌*◌, ◌∙◌}
use Rattle.std.specs.List.{range_with_len}
use Rattle.std.specs.List.Sorted.{IsStrictlyIncreasing}
use Rattle.std.proofs.lemmas.Bool.{cases_lt}
use Rattle.std.proofs.lemmas.List.{get_or_past}
use Rattle.std.proofs.lemmas.List.Elements.{All-cons, All-filter, All-map, All-nil, All-weaker}
use Rattle.std.proofs.lemmas.List.FromFn.{get_or-range_with_len, length-range_with_len}
use Rattle.std.proofs.lemmas.List.Kept.{IsStrictlyIncreasing-filter}
use Rattle.std.proofs.Math.Nat.{pow-le-pow_right}
use Rattle.aug_model.specs.Keys.{IsKeySet, keys_of, pairs_of}
use Rattle.aug_model.proofs.Pairs.{keys_of-pairs_of}
use Rattle.aug_monoid.specs.Weighted.{FitsPair}
use Rattle.aug_core.specs.Addresses.{root_place}
use Rattle.aug_core.specs.Book.{At, Book, history_of, IsBook}
use Rattle.aug_core.specs.Cuts.{Cut, pairs_of_cut, serial_of, set_of_cut, weight_at}
use Rattle.aug_core.specs.Effects.{KnowsBook}
use Rattle.aug_core.specs.Opening.{serial_entry}
use Rattle.aug_core.specs.Places.{Shape}
use Rattle.aug_core.specs.inside.EntryCuts.{entry_of}
use Rattle.aug_core.specs.inside.RootCuts.{root_cut}
use Rattle.aug_core.specs.declared.view.Entry.{Entry}
use Rattle.aug_core.specs.declared.view.SeatView.{SeatView}
use Rattle.aug_core.proofs.CutsUnder.{reached, shown_is}
use Rattle.aug_core.proofs.Books.{at_below}
use Rattle.aug_core.proofs.CutLists.{odd_pairs, odd_weighed, set_is}
use Rattle.aug_core.proofs.EntryCuts.{entry_at, entry_is, pairs_under}
use Rattle.aug_core.proofs.Levels.{root_word}

range_below : (n a m : ℕ) → a + n ≤ m → All (λ k. k < m) (range_with_len a n)
range_below zero a m fits = All-nil (λ k. k < m)
range_below (suc n) a m fits = All-cons (λ k. k < m) a (range_with_len (a + 1) n) (omega arith) (range_below n (a + 1) m (omega arith))

range_rises : (n : ℕ) → IsStrictlyIncreasing (range_with_len 0 n)
range_rises n k low =
    let l = length-range_with_len 0 n in
    let x = get_or-range_with_len 0 n k 0 (omega arith) in
    let y = get_or-range_with_len 0 n (k + 1) 0 (omega arith) in
    omega arith

-- the keys of a cut that is no longer than the keys are a set of keys of so many bits
pub cut_keys : (bits : ℕ) (cut : Cut) → length cut ≤ 2 ^ bits → IsKeySet bits (set_of_cut cut)
cut_keys bits cut long = record {
  rising = IsStrictlyIncreasing-filter (λ key. serial_of cut key % 2 == 1) (range_with_len 0 (length cut)) (range_rises (length cut));
  below = All-filter (λ key. serial_of cut key % 2 == 1) (λ k. k < 2 ^ bits) (range_with_len 0 (length cut)) (range_below (length cut) 0 (2 ^ bits) (omega (arith, long)));
}

-- the members of a cut rise
pub members_rise : (cut : Cut) → IsStrictlyIncreasing (keys_of (pairs_of_cut cut))
members_rise cut = subst IsStrictlyIncreasing (sym (keys_of-pairs_of (weight_at cut) (set_of_cut cut)))
    (IsStrictlyIncreasing-filter (λ key. serial_of cut key % 2 == 1) (range_with_len 0 (length cut)) (range_rises (length cut)))

-- and they are a set of keys
pub cut_members : (bits : ℕ) (cut : Cut) → length cut ≤ 2 ^ bits → IsKeySet bits (keys_of (pairs_of_cut cut))
cut_members bits cut long = subst (IsKeySet bits) (sym (keys_of-pairs_of (weight_at cut) (set_of_cut cut))) (cut_keys bits cut long)

-- whose weights fit if those of the cut do
pub members_fit : (bits : ℕ) (cut : Cut) → bits ≤ 16 → length cut ≤ 2 ^ bits → ((key : ℕ) → key < 2 ^ bits → weight_at cut key < 2 ^ 32) → All FitsPair (pairs_of_cut cut)
members_fit bits cut few long light = let small : 2 ^ bits ≤ 2 ^ 16 = pow-le-pow_right (omega arith) few in
    All-map FitsPair (λ k. (k, weight_at cut k)) (set_of_cut cut) (All-weaker (λ k. k < 2 ^ bits) (λ k. FitsPair (k, weight_at cut k)) (λ k low. (omega arith, light k low)) (set_of_cut cut) (cut_keys bits cut long).below)

-- no entry of a leaf weighs too much, not even one that is not there
light : (f : ℕ → ℕ → List (ℕ × ℕ) → List ℕ) (s : Shape) (book : Book) → IsBook f s book → (key i : ℕ) → key < 2 ^ s.bits → (entry_of book key i).weight < 2 ^ 32
light f s book b key i low = ⊎_elim
    (λ (there : i < length (history_of book key)). (b.serials key i (entry_of book key i) low (entry_at book key i there)).fits)
    (λ (past : length (history_of book key) ≤ i). let e : (entry_of book key i).weight ≡ 0 = ap (λ (z : Entry). z.weight) (get_or_past (history_of book key) i (serial_entry 0 0 0) past) in omega arith)
    (cases_lt i (length (history_of book key)))

-- a key's weight in a root's cut is that of an entry
pub cut_light : (f : ℕ → ℕ → List (ℕ × ℕ) → List ℕ) (v : SeatView) (i key : ℕ) → KnowsBook f v → key < 2 ^ v.shape.bits → weight_at (root_cut v.shape v.seen i) key < 2 ^ 32
cut_light f v i key kn low = let s : Shape = v.shape in let r : ℕ = reached s v.seen key s.bits i in
    let is : weight_at (root_cut s v.seen i) key ≡ (entry_of v.seen key r).weight = ap (λ (z : ℕ × ℕ). z.1) (shown_is s v.seen key s.bits 0 key (root_place s) i (root_word s) (omega arith) low) in
    let fits = light f s v.seen kn.book key r low in omega arith

-- ---- the members below the root

pairs_are : (cut : Cut) → pairs_of_cut cut ≡ odd_pairs 0 cut
pairs_are cut = ap (pairs_of (weight_at cut)) (set_is cut) ∙ sym (odd_weighed (weight_at cut) cut 0 (λ k low. let e : 0 + k ≡ k = omega arith in ap (weight_at cut) e))

-- an entry's of the root are those of its cut
pub root_pairs : (f : ℕ → ℕ → List (ℕ × ℕ) → List ℕ) (s : Shape) (book : Book) → IsBook f s book → (i : ℕ) (e : Entry) → At book (root_place s) i e → e.pairs ≡ pairs_of_cut (root_cut s book i)
root_pairs f s book b i e at = let none : 0 * 2 ^ s.bits ≡ 0 = omega arith in
    ap (λ (z : Entry). z.pairs) (sym (entry_is book (root_place s) i e at)) ∙ pairs_under f s book b s.bits 0 (root_place s) i (root_word s) (at_below _ i e at) ∙ ap (λ (z : ℕ). odd_pairs z (root_cut s book i)) none ∙ sym (pairs_are (root_cut s book i))
