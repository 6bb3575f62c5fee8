-- How large a set of keys can be.
use Rattle.std.proofs.Common.{ℕ, suc, ◌≡◌, ◌+◌, ◌^◌, ◌<◌, ◌≤◌, ◌∷◌, List, length, slice_index, take, drop, set, insert, remove, All, ap, sym, subst, inl, inr, arith}
use Rattle.std.specs.List.Sorted.{IsStrictlyIncreasing}
use Rattle.std.proofs.lemmas.Bool.{cases_lt}
use Rattle.std.proofs.lemmas.List.Edits.{length-remove, get_or-remove_below, get_or-remove_above}
use Rattle.std.proofs.Math.Pow.{pow_mono}
use Rattle.std.proofs.lemmas.List.Elements.{All-append, All-cons, All-take, All-drop, All-set}
use Rattle.aug_monoid.specs.Weighted.{FitsPair}
use Rattle.aug_model.specs.inside.Boundary.{IsKeyAt, WouldStandAt}
use Rattle.aug_model.specs.Keys.{IsKeySet, keys_of}
use Rattle.aug_model.specs.inside.Stored.{IsStored}
use Rattle.aug_model.proofs.Boundaries.{IsKeySet-few, IsKeySet-insert, length-absent}
use Rattle.aug_model.proofs.Rising.{rises}
use Rattle.aug_model.proofs.Pairs.{length-keys_of, keys_of-set, keys_of-insert, keys_of-remove}

-- a set has no more members than there are keys
pub length-le-universe : (bits : ℕ) (ps : List (ℕ × ℕ)) (capacity : ℕ) → IsStored bits ps capacity → length ps ≤ 2 ^ bits
length-le-universe bits ps capacity h = omega (arith, length-keys_of ps, IsKeySet-few bits (keys_of ps) h.set)

-- so their number fits a `u32`
pub length-fits : (bits : ℕ) (ps : List (ℕ × ℕ)) (capacity : ℕ) → IsStored bits ps capacity → length ps ≤ 65536
length-fits bits ps capacity h =
    let most : 2 ^ bits ≤ 2 ^ 16 = pow_mono h.at_most in
    omega (arith, length-le-universe bits ps capacity h)

module _ (ps : List (ℕ × ℕ)) (k w place : ℕ) (fits : FitsPair (k, w)) where
  -- a weight that is written over leaves the keys
  pub set-stored : (bits capacity : ℕ) → IsKeyAt (keys_of ps) k place → IsStored bits ps capacity → IsStored bits (set ps place (k, w)) capacity
  set-stored bits capacity there h = record {
    set = subst (IsKeySet bits) (sym (keys_of-set ps place k w there)) h.set;
    fit = All-set FitsPair ps place (k, w) fits h.fit;
    at_least = h.at_least;
    at_most = h.at_most;
    room = h.room;
  }

  -- a key that is put in leaves a set, and its pair fits
  pub insert-set : (bits : ℕ) → k < 2 ^ bits → WouldStandAt (keys_of ps) k place → IsKeySet bits (keys_of ps) → IsKeySet bits (keys_of (insert ps place (k, w)))
  insert-set bits is_key gap set = subst (IsKeySet bits) (sym (keys_of-insert ps place k w)) (IsKeySet-insert (keys_of ps) k place gap bits is_key set)

  pub insert-fit : All FitsPair ps → All FitsPair (insert ps place (k, w))
  insert-fit fit = All-append FitsPair (take place ps) ((k, w) ∷ drop place ps) (All-take FitsPair place ps fit) (All-cons FitsPair (k, w) (drop place ps) fits (All-drop FitsPair place ps fit))

-- where a key that is absent may be put in there is room for it
pub room_left : (ps : List (ℕ × ℕ)) (k place bits capacity : ℕ) → k < 2 ^ bits → WouldStandAt (keys_of ps) k place → IsStored bits ps capacity → length ps < capacity
room_left ps k place bits capacity is_key gap h = let few = length-absent (keys_of ps) k place gap bits is_key h.set in let room = h.room in let long = length-keys_of ps in omega arith

-- a list without one of its keys rises still
rising-remove : (xs : List ℕ) (place : ℕ) → place < length xs → IsStrictlyIncreasing xs → IsStrictlyIncreasing (remove xs place)
rising-remove xs place within up j l =
    let less = length-remove xs place within in
    elim (cases_lt j place) [
      | inl low ↦ elim (cases_lt (j + 1) place) [
        | inl next ↦ omega (arith, get_or-remove_below xs place 0 j low within, get_or-remove_below xs place 0 (j + 1) next within, up j (omega arith))
        | inr at ↦ omega (arith, get_or-remove_below xs place 0 j low within, get_or-remove_above xs place 0 (j + 1) at within, rises xs up j (j + 2) (omega arith) (omega arith), ap (slice_index xs) (two j))
      ]
      | inr from ↦ omega (arith, get_or-remove_above xs place 0 j from within, get_or-remove_above xs place 0 (j + 1) (omega arith) within, up (j + 1) (omega arith))
    ]
  where
    two : (j : ℕ) → suc (j + 1) ≡ j + 2
    two j = omega arith

-- a pair that is taken out leaves a set
pub remove-set : (ps : List (ℕ × ℕ)) (place bits : ℕ) → place < length (keys_of ps) → IsKeySet bits (keys_of ps) → IsKeySet bits (keys_of (remove ps place))
remove-set ps place bits within set = subst (IsKeySet bits) (sym (keys_of-remove ps place)) record {
  rising = rising-remove (keys_of ps) place within set.rising;
  below = All-append (λ k. k < 2 ^ bits) (take place (keys_of ps)) (drop (suc place) (keys_of ps)) (All-take (λ k. k < 2 ^ bits) place (keys_of ps) set.below) (All-drop (λ k. k < 2 ^ bits) (suc place) (keys_of ps) set.below);
}

pub remove-fit : (ps : List (ℕ × ℕ)) (place : ℕ) → All FitsPair ps → All FitsPair (remove ps place)
remove-fit ps place fit = All-append FitsPair (take place ps) (drop (suc place) ps) (All-take FitsPair place ps fit) (All-drop FitsPair (suc place) ps fit)
