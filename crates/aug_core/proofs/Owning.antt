-- The records that a lane owns, where their list changes or one of their words does.
use Rattle.std.proofs.Common.{◌≡◌, ◌≢◌, ◌⊎◌, inl, inr, ℕ, zero, suc, ◌+◌, ◌-◌, ◌<◌, Bool, true, false, cond, if◌then◌else◌, lt-ltb, le-ltb, List, [], ◌∷◌, length, map, filter, get_or, set, length-set, get_or-set_same, get_or-set_other, sym, refl, ap, ◌∙◌, subst, ⊎_elim, arith}
use Rattle.std.specs.List.{range_with_len}
use Rattle.std.proofs.lemmas.Bool.{cases_eq, cases_lt}
use mathlib.Core.Option.{some, some-injective, some-ne-none}
use lib.ListN.{get_elem?}
use Rattle.atomic_table.proofs.Lists.{at_map}
use Rattle.aug_core.specs.Places.{Shape, record_start, record_count, word_count, record_words}
use Rattle.aug_core.specs.Records.{Lists, HasWords}
use Rattle.aug_core.specs.Effects.{with_word}
use Rattle.aug_core.specs.declared.view.Owned.{Owned}

module _ {A : Type 0} where
  first_at : (x : A) (l : List A) (y : A) (i : ℕ) → get_elem? (x ∷ l) i ≡ some y → (y ≡ x) ⊎ Lists l y
  first_at x l y zero e = inl (sym (some-injective x y e))
  first_at x l y (suc i) e = inr (i, e)

  at_of_map : {B : Type 0} (f : A → B) (l : List A) (i : ℕ) (y : B) → get_elem? (map f l) i ≡ some y → (x : A) × (get_elem? l i ≡ some x) × (f x ≡ y)
  at_of_map f [] i y e = absurd (some-ne-none y (sym e))
  at_of_map f (x ∷ xs) zero y e = (x, refl, some-injective (f x) y e)
  at_of_map f (x ∷ xs) (suc i) y e = at_of_map f xs i y e

  -- what stands in a list is its first element or stands in the rest
  pub listed_first : (x : A) (l : List A) (y : A) → Lists (x ∷ l) y → (y ≡ x) ⊎ Lists l y
  listed_first x l y t = first_at x l y t.0 t.1

  -- what stands in a mapped list is what became of an element, and each element became one
  pub listed_map : {B : Type 0} (f : A → B) (l : List A) (y : B) → Lists (map f l) y → (x : A) × Lists l x × (f x ≡ y)
  listed_map f l y t = let u = at_of_map f l t.0 y t.1 in (u.0, (t.0, u.1), u.2)

  pub map_listed : {B : Type 0} (f : A → B) (l : List A) (x : A) → Lists l x → Lists (map f l) (f x)
  map_listed f l x t = (t.0, at_map f l t.0 x t.1)

  by_test : (p : A → Bool) (x : A) (xs : List A) (y : A) (b : Bool) → p x ≡ b → ((i : ℕ) → get_elem? (filter p xs) i ≡ some y → Lists xs y × (p y ≡ true)) → (i : ℕ) → get_elem? (cond b (x ∷ filter p xs) (filter p xs)) i ≡ some y
      → Lists (x ∷ xs) y × (p y ≡ true)
  by_test p x xs y true is rest zero e = ((0, e), subst (λ (z : A). p z ≡ true) (some-injective x y e) is)
  by_test p x xs y true is rest (suc i) e = let t = rest i e in ((suc t.0.0, t.0.1), t.1)
  by_test p x xs y false is rest i e = let t = rest i e in ((suc t.0.0, t.0.1), t.1)

  passed_at : (p : A → Bool) (l : List A) (y : A) (i : ℕ) → get_elem? (filter p l) i ≡ some y → Lists l y × (p y ≡ true)
  passed_at p [] y i e = absurd (some-ne-none y (sym e))
  passed_at p (x ∷ xs) y i e = by_test p x xs y (p x) refl (passed_at p xs y) i e

  -- what a filter lists stood in the list and passes the test, and what stood there and passes it is listed
  pub listed_filter : (p : A → Bool) (l : List A) (y : A) → Lists (filter p l) y → Lists l y × (p y ≡ true)
  listed_filter p l y t = passed_at p l y t.0 t.1

  behind : (b : Bool) (x y : A) (l : List A) → Lists l y → Lists (cond b (x ∷ l) l) y
  behind true x y l t = (suc t.0, t.1)
  behind false x y l t = t

  filter_at : (p : A → Bool) (l : List A) (y : A) (i : ℕ) → p y ≡ true → get_elem? l i ≡ some y → Lists (filter p l) y
  filter_at p [] y i passes e = absurd (some-ne-none y (sym e))
  filter_at p (x ∷ xs) y zero passes e = subst (λ (b : Bool). Lists (cond b (x ∷ filter p xs) (filter p xs)) y) (sym (ap p (some-injective x y e) ∙ passes)) (0, e)
  filter_at p (x ∷ xs) y (suc i) passes e = behind (p x) x y (filter p xs) (filter_at p xs y i passes e)

  pub filter_listed : (p : A → Bool) (l : List A) (y : A) → p y ≡ true → Lists l y → Lists (filter p l) y
  filter_listed p l y passes t = filter_at p l y t.0 passes t.1

-- a number stands in the row that it is of, and all that stand in the row are of it
pub listed_range : (from n k : ℕ) → k < n → Lists (range_with_len from n) (from + k)
listed_range from zero k low = absurd (omega arith)
listed_range from (suc n) zero low = (0, (let is : from ≡ from + 0 = omega arith in ap some is))
listed_range from (suc n) (suc k) low = let t = listed_range (from + 1) n k (omega arith) in let is : from + 1 + k ≡ from + suc k = omega arith in subst (Lists (range_with_len from (suc n))) is (suc t.0, t.1)

pub range_listed : (from n x : ℕ) → Lists (range_with_len from n) x → (k : ℕ) × (k < n) × (x ≡ from + k)
range_listed from n x t = in_row from n x t.0 t.1
  where
    in_row : (from n x i : ℕ) → get_elem? (range_with_len from n) i ≡ some x → (k : ℕ) × (k < n) × (x ≡ from + k)
    in_row from zero x i e = absurd (some-ne-none x (sym e))
    in_row from (suc n) x zero e = let is : from ≡ x = some-injective from x e in (0, omega arith, omega arith)
    in_row from (suc n) x (suc i) e = let t = in_row (from + 1) n x i e in let low = t.1 in let is = t.2 in (suc t.0, omega arith, omega arith)

-- two records have no word in common, and each lies in the table
pub records_apart : (s : Shape) (n m j k : ℕ) → n ≢ m → j < record_words → k < record_words → record_start s n + j ≢ record_start s m + k
records_apart s n m j k ne small small' is = ne (omega arith)

pub record_inside : (s : Shape) (n k : ℕ) → n < record_count s → k < record_words → record_start s n + k < word_count s
record_inside s n k low small = omega arith

-- ---- one word changes

pub with_long : (s : Shape) (place value : ℕ) (x : Owned) → length (with_word s place value x).words ≡ length x.words
with_long s place value x = ⊎_elim
    (λ (low : place < record_start s x.number). ap (λ (b : Bool). length (if b then x.words else set x.words (place - record_start s x.number) value)) (lt-ltb place (record_start s x.number) low))
    (λ high. ap (λ (b : Bool). length (if b then x.words else set x.words (place - record_start s x.number) value)) (le-ltb place (record_start s x.number) high) ∙ length-set x.words (place - record_start s x.number) value)
    (cases_lt place (record_start s x.number))

-- the words that a record has then
module _ (s : Shape) (place value : ℕ) (x : Owned) (k : ℕ) where
  abbrev start : ℕ
  start = record_start s x.number

  abbrev word_if : Bool → ℕ
  word_if b = get_or (if b then x.words else set x.words (place - start) value) k 0

  pub with_here : start + k ≡ place → k < length x.words → get_or (with_word s place value x).words k 0 ≡ value
  with_here is inside = let at : place - start ≡ k = omega arith in
      ap word_if (le-ltb place start (omega arith)) ∙ ap (λ (i : ℕ). get_or (set x.words i value) k 0) at ∙ get_or-set_same x.words k value 0 inside

  pub with_other : start + k ≢ place → get_or (with_word s place value x).words k 0 ≡ get_or x.words k 0
  with_other ne = ⊎_elim (λ (low : place < start). ap word_if (lt-ltb place start low))
      (λ high. ap word_if (le-ltb place start high) ∙ get_or-set_other x.words (place - start) k value 0 (λ e. ne (omega arith))) (cases_lt place start)

-- the table has them
pub with_exact : (s : Shape) (words : List ℕ) (place value : ℕ) (x : Owned) → place < length words → length x.words ≡ record_words → HasWords s words x.number x.words → HasWords s (set words place value) x.number (with_word s place value x).words
with_exact s words place value x inside long exact k small = ⊎_elim
    (λ (is : record_start s x.number + k ≡ place). ap (λ (i : ℕ). get_or (set words place value) i 0) is ∙ get_or-set_same words place value 0 inside ∙ sym (with_here s place value x k is (omega arith)))
    (λ ne. get_or-set_other words place (record_start s x.number + k) value 0 ne ∙ exact k small ∙ sym (with_other s place value x k ne)) (cases_eq (record_start s x.number + k) place)
