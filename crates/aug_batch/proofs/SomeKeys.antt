-- Batches of queries: the answers for some keys, and then for those behind them.
use Rattle.std.proofs.Common.{◌≡◌, ℕ, ◌+◌, ◌*◌, ◌≤◌, List, ◌++◌, map, take, drop, ap, sym, ◌∙◌, arith, append_assoc}
use Rattle.std.proofs.Math.Seq.{take-add}
use Rattle.std.proofs.lemmas.List.{map-append}
use Rattle.aug_model.specs.Keys.{SetFacts}

-- what so many keys load and then so many more, together
pub loads_more : (a n most : ℕ) → a * most + n * most ≤ (a + n) * most
loads_more a n most = omega arith

module _ {X : Type 0} (answer : SetFacts → ℕ → X) where
  -- the answers for the first keys, and then for some more, where their set is written in another way
  pub more_answers : (set other : SetFacts) (keys : List ℕ) (at n : ℕ) (old mid new : List X) → other ≡ set → mid ≡ old ++ map (answer set) (take at keys) → new ≡ mid ++ map (answer other) (take n (drop at keys)) → new ≡ old ++ map (answer set) (take (at + n) keys)
  more_answers set other keys at n old mid new same front back =
      back ∙ ap (λ s. mid ++ map (answer s) (take n (drop at keys))) same ∙ ap (λ xs. xs ++ map (answer set) (take n (drop at keys))) front
      ∙ append_assoc old (map (answer set) (take at keys)) (map (answer set) (take n (drop at keys)))
      ∙ ap (λ xs. old ++ xs) (sym (map-append (answer set) (take at keys) (take n (drop at keys))) ∙ ap (map (answer set)) (sym (take-add at n keys)))
