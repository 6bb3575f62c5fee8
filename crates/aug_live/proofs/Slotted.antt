-- Each step on the lock of a slot keeps its rule.
use Rattle.std.proofs.Common.{◌≡◌, ◌≢◌, ◌⊎◌, inl, inr, ℕ, List, [], length, set, sym, refl, ap, ◌∙◌, subst, ⊎_elim, arith}
use Rattle.std.specs.Prelude.{Option, Some, None, IfSome, IsSome}
use Rattle.std.specs.Option.{is_some}
use Rattle.std.proofs.lemmas.Bool.{false≢true}
use mathlib.Core.Option.{some}
use lib.ListN.{get_elem?}
use Rattle.atomic_table.proofs.Lists.{at_set}
use Rattle.ruled_lock.specs.Locks.{Forks, Learns}
use Rattle.aug_trie.specs.Round.{TableFacts}
use Rattle.aug_live.specs.inside.Slots.{OnSlot}
use Rattle.aug_live.proofs.Handing.{is_below}
use Rattle.aug_live.proofs.Tied.{snoc_at}

injective : (t u : TableFacts) → Some t ≡ Some u → t ≡ u
injective t u is = cc

-- what is known of what lies there
of_known : (v : Option TableFacts) (slot : TableFacts) → (v ≡ Some slot) ⊎ ((v ≡ None) × (length {A = ℕ} [] ≡ 0)) → IfSome v (λ t. slot ≡ t)
of_known None slot known = tt
of_known (Some t) slot known = ⊎_elim (λ is. sym (injective t slot is)) (λ none. let clash : Some t ≡ None = none.0 in cc) known

pub learns : (id : ℕ) (v : Option TableFacts) → Learns {T = TableFacts} OnSlot id v (λ v slot. IfSome v (λ t. slot ≡ t))
learns id v slot views on at = of_known v slot (⊎_elim (λ is. inl is) (λ none. inr (none.0, refl)) (on id v at))

-- no other end is there where one is alone
alone : (views : List (Option TableFacts)) (i j : ℕ) (v w : Option TableFacts) → j ≢ i → get_elem? views i ≡ some v → get_elem? views j ≡ some w → length views ≡ 1 → ⊥
alone views i j v w other at there one = let low = is_below views i v at in let low' = is_below views j w there in other (omega (arith, low, low', one))

module _ (id : ℕ) (v : Option TableFacts) (old new : TableFacts) (views : List (Option TableFacts)) (on : OnSlot old views) (at : get_elem? views id ≡ some v) where
  -- what lies there is of the same table, or is put there by the only end
  pub turns : IfSome v (λ t. new ≡ t) → (w : Option TableFacts) × OnSlot new (set views id w) × (w ≡ Some new)
  turns same = (
    Some new,
    λ j x there. ⊎_elim
        (λ h. inl (sym h.1))
        (λ h. ⊎_elim
        (λ mine. inl (⊎_elim (λ is. is ∙ ap Some (sym (subst (λ (z : Option TableFacts). IfSome z (λ t. new ≡ t)) mine same))) (λ none. absurd (alone views id j v x h.0 at h.1 none.1)) (on j x h.1)))
        (λ none. absurd (alone views id j v x h.0 at h.1 none.1))
        (on id v at))
        (at_set views id j (Some new) x there),
    refl,
  )

-- one more end, by one that knows the table
pub forks : (id : ℕ) (v : Option TableFacts) → IsSome v → Forks {T = TableFacts} OnSlot id v v v
forks id v there_is slot views on at j w there =
    let mine : v ≡ Some slot = ⊎_elim (λ is. is) (λ none. absurd (false≢true (ap is_some (sym none.0) ∙ there_is))) (on id v at) in
    ⊎_elim
    (λ h. ⊎_elim (λ k. inl (sym k.1 ∙ mine)) (λ k. ⊎_elim (λ is. inl is) (λ none. absurd (alone views id j v w k.0 at k.1 none.1)) (on j w k.1)) (at_set views id j v w h))
    (λ h. inl (sym h.1 ∙ mine))
    (snoc_at (set views id v) v w j there)

-- what an end knows that put something there
pub put_known : (taken : Option TableFacts) (old new : TableFacts) (w : Option TableFacts) → taken ≡ Some old → IfSome taken (λ _. w ≡ Some new) → w ≡ Some new
put_known taken old new w is then = subst (λ (z : Option TableFacts). IfSome z (λ _. w ≡ Some new)) is then

-- an end that knows nothing, and one that knows the table of what it puts there
pub none_known : (v : Option TableFacts) (new : TableFacts) → v ≡ None → IfSome v (λ t. new ≡ t)
none_known v new is = subst (λ (z : Option TableFacts). IfSome z (λ t. new ≡ t)) (sym is) tt

pub some_known : (v : Option TableFacts) (table new : TableFacts) → v ≡ Some table → new ≡ table → IfSome v (λ t. new ≡ t)
some_known v table new is same = subst (λ (z : Option TableFacts). IfSome z (λ t. new ≡ t)) (sym is) same
