-- A fact of each place, passed on from the list that is taken apart to the list that grows.
use Rattle.std.proofs.Common.{◌≡◌, ℕ, suc, ◌+◌, ◌<◌, List, [], ◌∷◌, ◌++◌, length, get_or, sym, ap, ◌∙◌, subst, inl, inr, add-zero, arith}
use Rattle.std.proofs.lemmas.Bool.{cases_lt}
use Rattle.std.proofs.lemmas.List.{get_or_append_left}
use Rattle.std.proofs.Math.Seq.{get_or-append_seam}
use Rattle.std.specs.declared.thread.PromisedHandle.{PromisedHandle}
use Rattle.aug_trie.specs.Round.{RoundFacts}
use Rattle.aug_run.specs.inside.Owed.{Owes}
use Rattle.aug_run.specs.inside.Workers.{IsDone}
use Rattle.aug_script.specs.declared.row.Row.{Row}
use Rattle.aug_run.specs.declared.lanes.start.LaneOf.{LaneOf}
use Rattle.aug_run.specs.declared.lanes.work.Done.{Done}

module _ {A : Type 0} (P : ℕ → A → Type 0) where
  pub head_of : (n m : ℕ) (x : A) (xs ys : List A) → xs ≡ x ∷ ys → 0 < m → ((k : ℕ) (d : A) → k < m → P (n + k) (get_or xs k d)) → P n x
  head_of n m x xs ys e some all = subst (λ (l : List A). P n (get_or l 0 x)) e (subst (λ (j : ℕ). P j (get_or xs 0 x)) (add-zero n) (all 0 x some))

  pub tail_of : (n n' m m' : ℕ) (x : A) (xs ys : List A) → xs ≡ x ∷ ys → m' + 1 ≡ m → n' ≡ n + 1 → ((k : ℕ) (d : A) → k < m → P (n + k) (get_or xs k d)) → (k : ℕ) (d : A) → k < m' → P (n' + k) (get_or ys k d)
  tail_of n n' m m' x xs ys e less more all k d low =
      let j : n + suc k ≡ n' + k = omega arith in
      subst (λ (l : List A). P (n' + k) (get_or l (suc k) d)) e (subst (λ (i : ℕ). P i (get_or xs (suc k) d)) j (all (suc k) d (omega arith)))

  pub push_one : (n n' : ℕ) (xs ys : List A) (x : A) → length xs ≡ n → n' ≡ n + 1 → ys ≡ xs ++ x ∷ [] → ((k : ℕ) (d : A) → k < n → P k (get_or xs k d)) → P n x → (k : ℕ) (d : A) → k < n' → P k (get_or ys k d)
  push_one n n' xs ys x long more is all this k d low =
      let read : get_or ys k d ≡ get_or (xs ++ x ∷ []) k d = ap (λ (l : List A). get_or l k d) is in
      elim (cases_lt k n) [
        | inl less ↦ subst (P k) (sym (read ∙ get_or_append_left xs (x ∷ []) d k (omega (arith, long, less)))) (all k d less)
        | inr ge ↦
            let at : length xs ≡ k = omega (arith, low, more, long, ge) in
            let here : get_or ys k d ≡ x = read ∙ subst (λ (j : ℕ). get_or (xs ++ x ∷ []) j d ≡ x) at (get_or-append_seam xs x [] d) in
            subst (P k) (sym here) (subst (λ (j : ℕ). P j x) (sym long ∙ at) this)
      ]

-- what the handle of a lane gave is what its lane owes
pub owed : (round : RoundFacts) (rows : List Row) (lane : ℕ) (h : PromisedHandle Done LaneOf) (d : Done) → Owes round rows lane h → IsDone h.promise.round.now h.promise.rows.now h.promise.lane d → IsDone round rows lane d
owed round rows lane h d o kept =
    subst (λ (k : ℕ). IsDone round rows k d) o.lane_is
    (subst (λ (r : List Row). IsDone round r h.promise.lane d) o.rows_are
    (subst (λ (t : RoundFacts). IsDone t h.promise.rows.now h.promise.lane d) o.round_is kept))
