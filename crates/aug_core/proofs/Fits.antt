-- No serial is past the updates of all workers, and what a step that shows the whole book tells.
use Rattle.std.proofs.Common.{◌≡◌, ℕ, suc, ◌*◌, ◌^◌, ◌<◌, ◌≤◌, Bool, true, false, if◌then◌else◌, List, [], ◌∷◌, length, get_or, All, refl, sym, subst, arith, suc-mul, mul-le-mul_right, ap}
use Rattle.std.specs.List.{sum_by}
use Rattle.std.proofs.lemmas.List.Sums.{sum_by-cons}
use Rattle.aug_core.specs.Places.{Shape}
use Rattle.aug_core.specs.Book.{Book, history_of, ArePrefixes, IsFresh, NamesOnce, SerialsFit, IsBook}
use Rattle.aug_model.specs.Keys.{is_member, keys_of}
use Rattle.aug_monoid.specs.Weighted.{FitsPair}
use Rattle.aug_core.specs.Opening.{Opening}
use Rattle.aug_core.specs.Counts.{AreTallied}
use Rattle.aug_model.specs.Keys.{IsKeySet}
use Rattle.aug_core.specs.Layout.{IsLayout}
use Rattle.aug_core.specs.Opening.{opening_book}
use Rattle.aug_core.specs.Records.{Fate, StandsAs, KeepsRecords}
use Rattle.aug_core.specs.Effects.{KnowsBook, Sees}
use Rattle.aug_core.specs.declared.view.SeatView.{SeatView}
use Rattle.aug_core.proofs.Keeping.{one_standing}
use Rattle.aug_core.proofs.PrefixLemmas.{book_trans}

pub at_most_one : (b : Bool) → (if b then 1 else 0) ≤ 1
at_most_one true = omega arith
at_most_one false = omega arith

few_in_all : (l : List ℕ) (m : ℕ) → ((i : ℕ) → i < length l → get_or l i 0 ≤ m) → sum_by (λ (x : ℕ). x) l ≤ length l * m
few_in_all [] m h = omega arith
few_in_all (x ∷ xs) m h = let e = sum_by-cons (λ (y : ℕ). y) x xs in let first : x ≤ m = h 0 (omega arith) in let rest = few_in_all xs m (λ i low. h (suc i) (omega arith)) in let p = suc-mul (length xs) m in omega arith

pub fits_book : (o : Opening) (words : List ℕ) (book : Book) (views : List SeatView) (tally : List ℕ) → AreTallied o words book views tally → SerialsFit o.shape book
fits_book o words book views tally t = let all = few_in_all tally (2 * o.shape.updates) (λ i low. let long = t.long in t.few i (omega arith)) in
    let is : length tally * (2 * o.shape.updates) ≡ o.shape.workers * (2 * o.shape.updates) = ap (λ (z : ℕ). z * (2 * o.shape.updates)) t.long in
    record { few = λ key low. let e = t.enough key low in let one = at_most_one (is_member (keys_of o.members) key) in omega arith }

-- then none is past the bits of a word
pub record HasFewSerials (s : Shape) (book : Book) : Type 0 where
  pub few : (key : ℕ) → key < 2 ^ s.bits → length (history_of book key) < 2 ^ 32

pub few_serials : (s : Shape) (book : Book) → IsLayout s → SerialsFit s book → HasFewSerials s book
few_serials s book laid fits = record {
  few = λ key low. let l = fits.few key low in let w = laid.workers.1 in let u = laid.updates.1 in let m : s.workers * (2 * s.updates) ≤ 64 * (2 * s.updates) = mul-le-mul_right (2 * s.updates) w in omega arith;
}

-- where no record is used again, a node names it once
pub named_once : (s : Shape) (words : List ℕ) (fate : ℕ → Fate) (gone : ℕ → ℕ) (book : Book) → KeepsRecords s words fate gone book → s.reservations ≡ 0 → NamesOnce s book
named_once s words fate gone book k off = record {
  once = λ q i j e g inner p p' same. let zero = k.none_gone off q in
      one_standing s (fate g.number) q i j (subst (λ (z : ℕ). StandsAs s (fate z) q i) same (k.there q i e inner p (omega arith)).stands) (k.there q j g inner p' (omega arith)).stands;
}

module _ (face : ℕ → ℕ → List (ℕ × ℕ) → List ℕ) where
  pub sees_after : (v w : SeatView) (s : Shape) → v.shape ≡ s → ArePrefixes v.seen w.seen → ArePrefixes v.also w.seen → IsFresh s w.seen v.seen → IsBook face s w.seen → (s.reservations ≡ 0 → NamesOnce s w.seen × SerialsFit s w.seen) → Sees face v w
  sees_after v w s shaped later also fresh book round = record {
    later = later;
    also_later = also;
    fresh = subst (λ (z : Shape). IsFresh z w.seen v.seen) (sym shaped) fresh;
    book = subst (λ (z : Shape). IsBook face z w.seen) (sym shaped) book;
    named = subst (λ (z : Shape). z.reservations ≡ 0 → NamesOnce z w.seen) (sym shaped) (λ off. (round off).0);
    fits = subst (λ (z : Shape). z.reservations ≡ 0 → SerialsFit z w.seen) (sym shaped) (λ off. (round off).1);
  }

  -- what a seat knows of its table is told of how the table opened and of what was seen
  pub book_as : (v : SeatView) {w : SeatView} → w.shape ≡ v.shape → w.members ≡ v.members → w.seen ≡ v.seen → KnowsBook face v → KnowsBook face w
  book_as v shaped same seen kn = record {
    laid_out = subst IsLayout (sym shaped) kn.laid_out;
    key_set = subst (λ (z : ℕ × List (ℕ × ℕ)). IsKeySet z.0 (keys_of z.1)) (λ i. ((sym shaped i).bits, sym same i)) kn.key_set;
    members_fit = subst (All FitsPair) (sym same) kn.members_fit;
    few_members = subst (λ (z : ℕ × List (ℕ × ℕ)). length z.1 ≤ z.0) (λ i. ((sym shaped i).members, sym same i)) kn.few_members;
    book = subst (λ (z : Shape × Book). IsBook face z.0 z.1) (λ i. (sym shaped i, sym seen i)) kn.book;
    opened = subst (λ (z : Opening × Book). ArePrefixes (opening_book face z.0) z.1) (λ i. (record { shape = sym shaped i; members = sym same i }, sym seen i)) kn.opened;
    in_round = subst (λ (z : Shape × Book). z.0.reservations ≡ 0 → NamesOnce z.0 z.1 × SerialsFit z.0 z.1) (λ i. (sym shaped i, sym seen i)) kn.in_round;
  }

  -- what a seat knows of its table it knows after a step that showed it the whole book
  pub book_shown : (v w : SeatView) → KnowsBook face v → Sees face v w → w.shape ≡ v.shape → w.members ≡ v.members → KnowsBook face w
  book_shown v w kn sees shaped same = book_as record v { seen = w.seen } shaped same refl record {
    laid_out = kn.laid_out;
    key_set = kn.key_set;
    members_fit = kn.members_fit;
    few_members = kn.few_members;
    book = sees.book;
    opened = book_trans kn.opened sees.later;
    in_round = λ off. (sees.named off, sees.fits off);
  }
