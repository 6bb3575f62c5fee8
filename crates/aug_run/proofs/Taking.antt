-- What a filter keeps of one element more.
use Rattle.std.proofs.Common.{◌≡◌, ℕ, ◌+◌, ◌<◌, Bool, true, false, cond, List, [], ◌∷◌, ◌++◌, length, filter, take, drop, get_or, sym, ap, ◌∙◌, arith, add-one}
use Rattle.std.proofs.lemmas.List.{take-append-drop, append-nil, length-append}
use Rattle.std.proofs.lemmas.List.Elements.{filter-append}
use Rattle.std.proofs.Math.Seq.{take-suc}

module _ {X : Type 0} (p : X → Bool) (xs : List X) (i : ℕ) (d : X) (low : i < length xs) where
  filter_next : filter p (take (i + 1) xs) ≡ filter p (take i xs) ++ cond (p (get_or xs i d)) (get_or xs i d ∷ []) []
  filter_next = ap (λ n. filter p (take n xs)) (add-one i) ∙ ap (filter p) (take-suc xs i d low) ∙ filter-append p (take i xs) (get_or xs i d ∷ [])

  -- an element that passes is kept
  pub filter_keeps : p (get_or xs i d) ≡ true → filter p (take (i + 1) xs) ≡ filter p (take i xs) ++ get_or xs i d ∷ []
  filter_keeps is = filter_next ∙ ap (λ b. filter p (take i xs) ++ cond b (get_or xs i d ∷ []) []) is

  -- and one that does not is not
  pub filter_skips : p (get_or xs i d) ≡ false → filter p (take (i + 1) xs) ≡ filter p (take i xs)
  filter_skips is = filter_next ∙ ap (λ b. filter p (take i xs) ++ cond b (get_or xs i d ∷ []) []) is ∙ append-nil (filter p (take i xs))

  -- so more pass than those before it
  pub filter_has_room : p (get_or xs i d) ≡ true → length (filter p (take i xs)) < length (filter p xs)
  filter_has_room is =
      let whole : filter p xs ≡ filter p (take (i + 1) xs) ++ filter p (drop (i + 1) xs) = ap (filter p) (sym (take-append-drop (i + 1) xs)) ∙ filter-append p (take (i + 1) xs) (drop (i + 1) xs) in
      let long = ap (λ (ys : List X). length ys) whole ∙ length-append (filter p (take (i + 1) xs)) (filter p (drop (i + 1) xs)) in
      let front = ap (λ (ys : List X). length ys) (filter_keeps is) ∙ length-append (filter p (take i xs)) (get_or xs i d ∷ []) in
      omega (arith, long, front)
