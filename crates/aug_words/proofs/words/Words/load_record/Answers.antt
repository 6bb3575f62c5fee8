use Rattle.std.proofs.Common.{arith, subst, sym, ◌≡◌, ◌∷◌, [], ℕ, List, get_or, ⊎_elim}
use Rattle.std.proofs.lemmas.Bool.{cases_eq}
use Rattle.aug_core.specs.Effects.{Says}
use Rattle.aug_core.specs.Places.{Shape}
use Rattle.aug_core.specs.declared.view.SeatView.{SeatView}
use Rattle.aug_words.proofs.Lays.{beside_on, says_on}
use Rattle.aug_words.proofs.words.Words.load_record.Goals as goal

pub returns-clause-says : goal.returns-clause-says
returns-clause-says g c field low =
    let b : ℕ = c.args.base in let s : Shape = c.args.self.now.shape in let n : ℕ = c.args.number in let v : SeatView = c.args.seat.now.me.0 in
    let zero = beside_on b s _ _ _ (beside_on b s _ _ _ c.fetch.ensures.view c.fetch-2.ensures.view) c.fetch-3.ensures.view in let one = beside_on b s _ _ _ zero c.load_field-left.ensures.view in let two = beside_on b s _ _ _ one c.load_field-right.ensures.view in let three = beside_on b s _ _ _ two c.load_field-count.ensures.view in let four = beside_on b s _ _ _ three c.load_field-a.ensures.view in
    let five : List ℕ = c.load_field-left.result ∷ c.load_field-right.result ∷ c.load_field-count.result ∷ c.load_field-a.result ∷ c.load_field-b.result ∷ [] in
    let at : (k : ℕ) → field ≡ k → Says v n k (get_or five k 0) → Says v n field (get_or five field 0) = λ k is told. subst (λ (z : ℕ). Says v n z (get_or five z 0)) (sym is) told in
    ⊎_elim (λ (z : field ≡ 0). at 0 z (says_on b s v _ n 0 _ zero c.load_field-left.ensures.says))
    (λ n0. ⊎_elim (λ (z : field ≡ 1). at 1 z (says_on b s v _ n 1 _ one c.load_field-right.ensures.says))
    (λ n1. ⊎_elim (λ (z : field ≡ 2). at 2 z (says_on b s v _ n 2 _ two c.load_field-count.ensures.says))
    (λ n2. ⊎_elim (λ (z : field ≡ 3). at 3 z (says_on b s v _ n 3 _ three c.load_field-a.ensures.says))
    (λ n3. at 4 (omega (arith, n0, n1, n2, n3)) (says_on b s v _ n 4 _ four c.load_field-b.ensures.says)) (cases_eq field 3)) (cases_eq field 2)) (cases_eq field 1)) (cases_eq field 0)

pub returns-clause-view : goal.returns-clause-view
returns-clause-view g c =
    let b : ℕ = c.args.base in let s : Shape = c.args.self.now.shape in
    let zero = beside_on b s _ _ _ (beside_on b s _ _ _ c.fetch.ensures.view c.fetch-2.ensures.view) c.fetch-3.ensures.view in
    let two = beside_on b s _ _ _ (beside_on b s _ _ _ zero c.load_field-left.ensures.view) c.load_field-right.ensures.view in
    beside_on b s _ _ _ (beside_on b s _ _ _ (beside_on b s _ _ _ two c.load_field-count.ensures.view) c.load_field-a.ensures.view) c.load_field-b.ensures.view
