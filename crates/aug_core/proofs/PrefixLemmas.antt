-- Prefixes of lists, and of all histories of a book.
use Rattle.std.proofs.Common.{◌≡◌, ◌⊎◌, inl, inr, ℕ, suc, ◌<◌, ◌≤◌, List, [], ◌∷◌, ◌++◌, length, get_or, append_assoc, sym, refl, ap, ◌∙◌, subst, ⊎_elim, arith, length-append}
use Rattle.std.proofs.lemmas.List.{append-nil}
use mathlib.Core.Option.{some}
use lib.ListN.{get_elem?}
use Rattle.atomic_table.proofs.Lists.{at_longer}
use Rattle.aug_core.specs.Prefixes.{IsPrefix}
use Rattle.aug_core.specs.Book.{Book, history_of, At, ArePrefixes}
use Rattle.aug_core.specs.declared.view.Entry.{Entry}

pub prefix_refl : {A : Type 0} (l : List A) → IsPrefix l l
prefix_refl l = ([], sym (append-nil l))

pub prefix_trans : {A : Type 0} (l m n : List A) → IsPrefix l m → IsPrefix m n → IsPrefix l n
prefix_trans l m n a b = (a.0 ++ b.0, b.1 ∙ ap (λ z. z ++ b.0) a.1 ∙ append_assoc l a.0 b.0)

-- a list that reads as a longer one does is its prefix
pub prefix_at : {A : Type 0} (l m : List A) (d : A) → length l ≤ length m → ((i : ℕ) → i < length l → get_or l i d ≡ get_or m i d) → IsPrefix l m
prefix_at [] m d le h = (m, refl)
prefix_at (x ∷ xs) [] d le h = absurd (omega arith)
prefix_at (x ∷ xs) (y ∷ ys) d le h = let head : x ≡ y = h 0 (omega arith) in let t = prefix_at xs ys d (omega arith) (λ i low. h (suc i) (omega arith)) in (t.0, λ j. sym head j ∷ t.1 j)

abbrev rest_of : {A : Type 0} → List A → List A
rest_of [] = []
rest_of (x ∷ xs) = xs

abbrev first_of : {A : Type 0} → A → List A → A
first_of d [] = d
first_of d (x ∷ xs) = x

-- of two prefixes of one list the one is a prefix of the other
pub one_piece : {A : Type 0} (l m a b : List A) → l ++ a ≡ m ++ b → IsPrefix l m ⊎ IsPrefix m l
one_piece [] m a b is = inl (m, refl)
one_piece (x ∷ xs) [] a b is = inr (x ∷ xs, refl)
one_piece (x ∷ xs) (y ∷ ys) a b is = let head : x ≡ y = ap (first_of x) is in let tail = ap rest_of is in ⊎_elim
    (λ t. inl (t.0, λ j. sym head j ∷ t.1 j)) (λ t. inr (t.0, λ j. head j ∷ t.1 j)) (one_piece xs ys a b tail)

pub either_prefix : {A : Type 0} (l m whole : List A) → IsPrefix l whole → IsPrefix m whole → IsPrefix l m ⊎ IsPrefix m l
either_prefix l m whole a b = one_piece l m a.0 b.0 (sym a.1 ∙ b.1)

-- it is no longer, and what stands in it stands in the whole list
pub prefix_long : {A : Type 0} (l m : List A) → IsPrefix l m → length l ≤ length m
prefix_long l m p = let long = ap length p.1 ∙ length-append l p.0 in omega arith

pub prefix_entry : {A : Type 0} (l m : List A) → IsPrefix l m → (i : ℕ) (a : A) → get_elem? l i ≡ some a → get_elem? m i ≡ some a
prefix_entry {A} l m p i a at = subst (λ (z : List A). get_elem? z i ≡ some a) (sym p.1) (at_longer l p.0 i a at)

-- the same of all histories of a book
pub book_none : (book : Book) → ArePrefixes [] book
book_none book = record { each = λ q. (history_of book q, refl) }

pub book_refl : (book : Book) → ArePrefixes book book
book_refl book = record { each = λ q. prefix_refl (history_of book q) }

pub book_trans : {first second third : Book} → ArePrefixes first second → ArePrefixes second third → ArePrefixes first third
book_trans {first} {second} {third} a b = record { each = λ q. prefix_trans (history_of first q) (history_of second q) (history_of third q) (a.each q) (b.each q) }

pub entry_stays : {earlier later : Book} → ArePrefixes earlier later → (q i : ℕ) (e : Entry) → At earlier q i e → At later q i e
entry_stays {earlier} {later} c q i e at = prefix_entry (history_of earlier q) (history_of later q) (c.each q) i e at
