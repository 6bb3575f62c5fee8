-- Lists of what is said of each member.
use Rattle.std.proofs.Common.{◌≡◌, ℕ, Bool, true, false, eqb, ◌||◌, if◌then◌else◌, List, [], ◌∷◌, ◌++◌, length, map, Some, is_some, refl, sym, ◌∙◌, arith}
use Rattle.std.proofs.lemmas.List.{append-nil, map-append}
use Rattle.aug_model.specs.Keys.{SetFacts, is_member, keys_of, list_of}
use Rattle.aug_model.specs.Queries.{weight_in, weight_of}
use Rattle.aug_model.proofs.Pairs.{agrees-own, pairs-again}
use Rattle.aug_model.proofs.Ranges.{rises_from}
use Rattle.aug_query.specs.Tree.{IsTreeSet}

-- the items of some members, each made of a key and its weight
abbrev pub items : {X : Type 0} → (ℕ → ℕ → X) → List (ℕ × ℕ) → List ℕ → List X
items item pairs keys = map (λ k. item k (weight_in pairs k)) keys

-- those of some and then those of more
pub items-append : {X : Type 0} (item : ℕ → ℕ → X) (pairs : List (ℕ × ℕ)) (xs ys : List ℕ) → items item pairs (xs ++ ys) ≡ items item pairs xs ++ items item pairs ys
items-append item pairs xs ys = map-append (λ k. item k (weight_in pairs k)) xs ys

-- the members with their weights are the pairs of the set
pub pairs-listed : {set : SetFacts} → IsTreeSet set → items (λ k w. (k, w)) set.pairs (list_of set) ≡ set.pairs
pairs-listed {set = set} is = pairs-again (weight_in set.pairs) set.pairs (agrees-own set.pairs (rises_from (list_of set) is.is_key_set.rising))

-- a key is a member where it has a weight
pub has_weight : (pairs : List (ℕ × ℕ)) (k : ℕ) → is_some (weight_of pairs k) ≡ is_member (keys_of pairs) k
has_weight [] k = refl
has_weight (p ∷ ps) k = either (eqb p.0 k) (has_weight ps k)
  where
    either : (b : Bool) → is_some (weight_of ps k) ≡ is_member (keys_of ps) k → is_some (if b then Some p.1 else weight_of ps k) ≡ (b || is_member (keys_of ps) k)
    either true rest = refl
    either false rest = rest

module _ {X : Type 0} (answer : SetFacts → ℕ → X) where
  -- no key has no answers
  pub no_part : (set : SetFacts) (keys : List ℕ) (old new : List X) → length keys ≡ 0 → new ≡ old → new ≡ old ++ map (answer set) keys
  no_part set [] old new empty is = is ∙ sym (append-nil old)
  no_part set (k ∷ keys) old new empty is = absurd (omega (arith, empty))
