-- The place of the first key of a rising list that is not below a key, as the key grows.
use Rattle.std.proofs.Common.{◌≡◌, ◌≢◌, ℕ, ◌+◌, ◌-◌, ◌<◌, ◌≤◌, inl, inr, None, Some, List, [], length, get_or, slice_index, take, drop, ap, sym, ◌∙◌, arith}
use Rattle.std.proofs.lemmas.Bool.{cases_order}
use Rattle.std.specs.List.Sorted.{IsStrictlyIncreasing}
use Rattle.aug_model.specs.Keys.{keys_of}
use Rattle.aug_model.specs.Queries.{weight_of, weighted_range_of}
use Rattle.aug_model.specs.inside.Boundary.{IsBoundary, WouldStandAt}
use Rattle.aug_model.proofs.Boundaries.{range-at_boundaries}
use Rattle.aug_model.proofs.Pairs.{key_at, length-keys_of, weight-stands, weight-missing}
use Rattle.aug_model.proofs.Rising.{rises}

-- the keys before a place are below k, and so one more makes a narrower bound
pub before_middle : (xs : List ℕ) (k middle : ℕ) → IsStrictlyIncreasing xs → middle < length xs → slice_index xs middle < k → (i : ℕ) → i < middle + 1 → slice_index xs i < k
before_middle xs k middle up within low i less = elim (cases_order i middle) [
  | inl e ↦ omega (arith, low, ap (slice_index xs) e)
  | inr (inl lt) ↦ omega (arith, low, rises xs up i middle lt within)
  | inr (inr gt) ↦ absurd (omega arith)
]

pub from_middle : (xs : List ℕ) (k middle : ℕ) → IsStrictlyIncreasing xs → middle < length xs → k ≤ slice_index xs middle → (i : ℕ) → middle ≤ i → i < length xs → k ≤ slice_index xs i
from_middle xs k middle up within high i from l = elim (cases_order middle i) [
  | inl e ↦ omega (arith, high, ap (slice_index xs) e)
  | inr (inl lt) ↦ omega (arith, high, rises xs up middle i lt l)
  | inr (inr gt) ↦ absurd (omega arith)
]

module _ (ps : List (ℕ × ℕ)) (k place : ℕ) (up : IsStrictlyIncreasing (keys_of ps)) (at : IsBoundary (keys_of ps) k place) where
  -- the place stays, if the key does not grow past the member there
  pub boundary_stays : (e : ℕ) → k ≤ e → (place < length ps → e ≤ (get_or ps place (0, 0)).0) → IsBoundary (keys_of ps) e place
  boundary_stays e more least = record {
    within = at.within;
    front = λ i l. omega (arith, at.front i l, more);
    back = λ i from l. let long = length-keys_of ps in let some : place < length ps = omega (arith, from, l) in
        from_middle (keys_of ps) e place up (omega (arith, from, l)) (omega (arith, key_at ps place (0, 0) some, least some)) i from l;
  }

  -- where k is no member
  gap : (place < length ps → (get_or ps place (0, 0)).0 ≢ k) → WouldStandAt (keys_of ps) k place
  gap other = record {
    within = at.within;
    front = at.front;
    back = λ i from l. let long = length-keys_of ps in let some : place < length ps = omega (arith, from, l) in
        let here = key_at ps place (0, 0) some in let least = at.back place (omega arith) (omega (arith, from, l)) in
        let not : slice_index (keys_of ps) place ≢ k = λ e. other some (sym here ∙ e) in
        omega (arith, from_middle (keys_of ps) (k + 1) place up (omega (arith, from, l)) (omega (arith, not, least)) i from l);
  }

  pub missing_weighs : (place < length ps → (get_or ps place (0, 0)).0 ≢ k) → None ≡ weight_of ps k
  missing_weighs other = sym (weight-missing ps k place (gap other))

  pub missing_moves : (place < length ps → (get_or ps place (0, 0)).0 ≢ k) → IsBoundary (keys_of ps) (k + 1) place
  missing_moves other = let none = gap other in record {
    within = at.within;
    front = λ i l. omega (arith, at.front i l);
    back = λ i from l. omega (arith, none.back i from l);
  }

  -- where it is one
  pub member_weighs : place < length ps → (get_or ps place (0, 0)).0 ≡ k → Some (get_or ps place (0, 0)).1 ≡ weight_of ps k
  member_weighs some same = let long = length-keys_of ps in
      sym (weight-stands ps k place up (record { within = omega (arith, some, long); is = key_at ps place (0, 0) some ∙ same }))

  pub member_moves : place < length ps → (get_or ps place (0, 0)).0 ≡ k → IsBoundary (keys_of ps) (k + 1) (place + 1)
  member_moves some same = let long = length-keys_of ps in let here = key_at ps place (0, 0) some in record {
    within = omega (arith, some, long);
    front = before_middle (keys_of ps) (k + 1) place up (omega (arith, some, long)) (omega (arith, here, same));
    back = λ i from l. omega (arith, rises (keys_of ps) up place i (omega (arith, from)) l, here, same);
  }

-- no member is between two keys with one place
pub none_between : (ps : List (ℕ × ℕ)) (a b place : ℕ) → IsBoundary (keys_of ps) a place → IsBoundary (keys_of ps) b place → weighted_range_of ps a b ≡ []
none_between ps a b place low high = let none : place - place ≡ 0 = omega arith in range-at_boundaries ps a b place place low high ∙ ap (λ n. take n (drop place ps)) none
