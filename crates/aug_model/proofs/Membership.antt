-- Whether a list of keys has a key, by the places of its keys and in the words of std.
use Rattle.std.proofs.Common.{◌≡◌, ℕ, ◌==◌, true, false, ◌↔◌, List, sym, ◌∙◌, inl, inr, arith, Contains, Result, Ok, Err, IfOk, IfErr, IsTrue, is_ok}
use Rattle.std.proofs.lemmas.Bool.{eq-eqb, ne_eqb, cases_lt}
use Rattle.std.proofs.lemmas.Bool.Decides.{Decides-eqb}
use Rattle.std.proofs.lemmas.List.{get_or_default}
use Rattle.std.proofs.lemmas.List.Folds.{list_any_at, list_any_none, Any-from_list_any}
use Rattle.aug_model.specs.inside.Boundary.{IsKeyAt, WouldStandAt}
use Rattle.aug_model.specs.Keys.{is_member}

-- a key that stands at a place is a member
pub is_member-stands : (keys : List ℕ) (k place : ℕ) → IsKeyAt keys k place → is_member keys k ≡ true
is_member-stands keys k place there = list_any_at (λ x. x == k) keys place 0 there.within (eq-eqb _ _ there.is)

-- and one that would stand between its neighbours is none
pub is_member-absent : (keys : List ℕ) (k place : ℕ) → WouldStandAt keys k place → is_member keys k ≡ false
is_member-absent keys k place gap =
    list_any_none (λ x. x == k) keys (λ j d l.
    let at = get_or_default keys j d 0 l in
    ne_eqb _ _ (λ e. elim (cases_lt j place) [
      | inl lt ↦ omega (arith, at, e, gap.front j lt)
      | inr ge ↦ omega (arith, at, e, gap.back j ge l)
    ]))

-- whether a key was found is whether it is a member
pub is_member-found : (keys : List ℕ) (k : ℕ) (r : Result ℕ ℕ) → IfOk r (IsKeyAt keys k) → IfErr r (WouldStandAt keys k) → is_ok r ≡ is_member keys k
is_member-found keys k (Ok place) there absent = sym (is_member-stands keys k place there)
is_member-found keys k (Err place) there absent = sym (is_member-absent keys k place absent)

-- a member is what std says that the list contains
pub is_member-iff_Contains : (keys : List ℕ) (k : ℕ) → IsTrue (is_member keys k) ↔ Contains keys k
is_member-iff_Contains keys k = (
  (λ e. let some = Any-from_list_any (λ x. x == k) keys e in (some.0, some.2, get_or_default keys some.0 k some.1 some.2 ∙ some.3 ∙ (Decides-eqb some.1 k).0 some.4)),
  (λ h. list_any_at (λ x. x == k) keys h.0 k h.1 (eq-eqb _ _ h.2)),
)
