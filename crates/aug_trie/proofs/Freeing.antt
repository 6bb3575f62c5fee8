-- Where no reader is out, the next round can begin: whatever the crew does before that, it stays so.
use Rattle.std.proofs.Common.{◌≡◌, ◌⊎◌, inl, inr, ⊎_elim, ℕ, zero, suc, ◌+◌, ◌*◌, ◌≤◌, List, [], ◌∷◌, ◌++◌, map, sym, ap, subst}
use mathlib.Core.Option.{some-injective, some-ne-none}
use Rattle.atomic_table.specs.Seated.{TableId}
use Rattle.aug_core.specs.Places.{Shape, word_count}
use Rattle.aug_core.specs.Readers.{IsAside, taking_reader}
use Rattle.aug_core.specs.Records.{Lists}
use Rattle.aug_core.specs.declared.view.SeatView.{SeatView}
use Rattle.aug_core.proofs.ReaderCounts.{lists_without}
use Rattle.aug_words.specs.Leads.{MayOpen}
use Rattle.aug_words.specs.Seats.{Known}

-- what says in which parts of a table of this shape somebody reads: where the lead works, and for whom it answers
abbrev pub places_of : SeatView → Shape × ℕ × List ℕ
places_of v = (v.shape, v.base, v.lent)

-- more readers of the part at work
pub more_here : (here : ℕ) (xs ys : List ℕ) (b : ℕ) → Lists (xs ++ map (λ _. here) ys) b → Lists xs b ⊎ (b ≡ here)
more_here here [] [] b has = absurd (some-ne-none b (sym has.1))
more_here here [] (y ∷ ys) b (zero, at) = inr (sym (some-injective here b at))
more_here here [] (y ∷ ys) b (suc i, at) = more_here here [] ys b (i, at)
more_here here (x ∷ xs) ys b (zero, at) = inl (0, at)
more_here here (x ∷ xs) ys b (suc i, at) = ⊎_elim (λ was. inl (suc was.0, was.1)) (λ is. inr is) (more_here here xs ys b (i, at))

module _ (old new : Known) (table : new.table ≡ old.table) where
  -- a lead that answers for no more readers but in the part at work
  module _ (shape : new.view.shape ≡ old.view.shape) (base : new.view.base ≡ old.view.base) (lent : (b : ℕ) → Lists new.view.lent b → Lists old.view.lent b ⊎ (b ≡ old.view.base)) where
    pub still_opens : MayOpen old → MayOpen new
    still_opens m = record {
      part = m.part;
      inside = subst (λ (z : TableId × Shape). m.part * word_count z.1 + word_count z.1 ≤ z.0.words) (λ i. (sym table i, sym shape i)) m.inside;
      aside = subst (λ (z : Shape × ℕ). IsAside (word_count z.0) z.1 (m.part * word_count z.0)) (λ i. (sym shape i, sym base i)) m.aside;
      free = λ b has. subst (λ (z : Shape). IsAside (word_count z) (m.part * word_count z) b) (sym shape) (⊎_elim (λ was. m.free b was)
          (λ here. subst (IsAside (word_count old.view.shape) (m.part * word_count old.view.shape)) (sym here) (⊎_elim (λ low. inr low) (λ high. inl high) m.aside)) (lent b has));
    }

  -- one that answers for the same
  pub same_opens : places_of new.view ≡ places_of old.view → MayOpen old → MayOpen new
  same_opens is = still_opens (ap (λ (z : Shape × ℕ × List ℕ). z.0) is) (ap (λ (z : Shape × ℕ × List ℕ). z.1) is) (λ b has. inl (subst (λ (z : Shape × ℕ × List ℕ). Lists z.2 b) is has))

  -- one that took a pass in
  pub back_opens : (lent : List ℕ) → places_of new.view ≡ (old.view.shape, old.view.base, old.view.lent ++ map (λ _. old.view.base) lent) → MayOpen old → MayOpen new
  back_opens lent is = still_opens (ap (λ (z : Shape × ℕ × List ℕ). z.0) is) (ap (λ (z : Shape × ℕ × List ℕ). z.1) is)
      (λ b has. more_here old.view.base old.view.lent lent b (subst (λ (z : Shape × ℕ × List ℕ). Lists z.2 b) is has))

  -- one that took a reader back
  pub taken_opens : (reader : SeatView) → new.view ≡ taking_reader old.view reader → MayOpen old → MayOpen new
  taken_opens reader is = still_opens (ap (λ (z : SeatView). z.shape) is) (ap (λ (z : SeatView). z.base) is)
      (λ b has. inl (lists_without b reader.base old.view.lent (subst (λ (z : SeatView). Lists z.lent b) is has)))
