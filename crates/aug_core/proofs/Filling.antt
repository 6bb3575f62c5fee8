-- The five words of a record, stored one after another, and what they must say to be published.
use Rattle.std.proofs.Common.{◌≡◌, ℕ, zero, suc, ◌+◌, ◌<◌, ◌≤◌, List, ◌++◌, length, get_or, sym, ap, ◌∙◌, ⊎_elim, arith}
use Rattle.std.proofs.lemmas.Bool.{cases_eq}
use Rattle.aug_core.specs.Places.{record_start, record_words}
use Rattle.aug_core.specs.inside.Refreshes.{SaysLoaded, stored}
use Rattle.aug_core.specs.Effects.{CoversUntil, IsBornBy, MayStore, storing, IsFilled}
use Rattle.aug_core.specs.declared.view.SeatView.{SeatView}
use Rattle.aug_core.proofs.Owning.{with_here, with_other}
use Rattle.aug_core.proofs.Clients.{after_store, owns_what_it_stores}

-- the view after the store of one of a record's words
abbrev pub put : SeatView → ℕ → ℕ → ℕ → SeatView
put v number k x = storing v (record_start v.shape number + k) x

-- and after those of all five
abbrev pub filled_view : SeatView → ℕ → List ℕ → SeatView
filled_view v number five = stored v number five record_words

-- the views after one another
pub filled_is : (v v1 v2 v3 v4 v5 : SeatView) (number : ℕ) (five : List ℕ) → v1 ≡ put v number 0 (get_or five 0 0) → v2 ≡ put v1 number 1 (get_or five 1 0) → v3 ≡ put v2 number 2 (get_or five 2 0) → v4 ≡ put v3 number 3 (get_or five 3 0)
    → v5 ≡ put v4 number 4 (get_or five 4 0) → v5 ≡ filled_view v number five
filled_is v v1 v2 v3 v4 v5 number five a b c d e =
    let v2' = b ∙ ap (λ (z : SeatView). put z number 1 (get_or five 1 0)) a in let v3' = c ∙ ap (λ (z : SeatView). put z number 2 (get_or five 2 0)) v2' in
    let v4' = d ∙ ap (λ (z : SeatView). put z number 3 (get_or five 3 0)) v3' in e ∙ ap (λ (z : SeatView). put z number 4 (get_or five 4 0)) v4'

module _ (v : SeatView) (number : ℕ) (five : List ℕ) (may : MayStore v number) where
  abbrev after : ℕ → SeatView
  after n = stored v number five n

  -- the record may be stored still
  pub may_fill : (n : ℕ) → MayStore (stored v number five n) number
  may_fill zero = may
  may_fill (suc n) = after_store (after n) (record_start (after n).shape number + n) (get_or five n 0) number (may_fill n)

  -- and it has the words that were stored
  pub says : (n k : ℕ) → k < n → n ≤ record_words → get_or (may_fill n).own.words k 0 ≡ get_or five k 0
  unfolding may_fill
  says zero k small fits = absurd (omega arith)
  says (suc n) k small fits = let m = may_fill n in let numbered : m.own.number ≡ number = m.numbered in let long : length m.own.words ≡ record_words = m.long in ⊎_elim
      (λ (last : k ≡ n). with_here (after n).shape (record_start (after n).shape number + n) (get_or five n 0) m.own k (omega arith) (omega arith) ∙ ap (λ (z : ℕ). get_or five z 0) (sym last))
      (λ other. with_other (after n).shape (record_start (after n).shape number + n) (get_or five n 0) m.own k (λ is. other (omega arith)) ∙ says n k (omega arith) (omega arith)) (cases_eq k n)

  -- a record that says what was loaded may be published
  pub is_filled : (face : ℕ → ℕ → List (ℕ × ℕ) → List ℕ) (q old birth : ℕ) (loaded : SaysLoaded face v.shape v.seen q old five) → CoversUntil v q loaded.is_loaded.index loaded.is_loaded.from birth → IsBornBy v loaded.is_loaded.left.birth birth → IsBornBy v loaded.is_loaded.right.birth birth → IsFilled face (filled_view v number five) q old birth number
  is_filled face q old birth loaded covers left_born right_born = let l = loaded.is_loaded in record {
    is_loaded = l;
    covers = covers;
    left_born = left_born;
    right_born = right_born;
    own = (may_fill record_words).own;
    owns = owns_what_it_stores (filled_view v number five) number (may_fill record_words);
    full = λ k small. says record_words k small (omega arith) ∙ ap (λ (z : List ℕ). get_or z k 0) loaded.five_are
        ∙ (λ i. get_or (face (sym loaded.left_named i) (sym loaded.right_named i) (l.left.pairs ++ l.right.pairs)) k 0);
  }
