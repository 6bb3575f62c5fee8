-- What the laws of a monoid give of the fold of a list of keys with weights.
use Rattle.std.proofs.Common.{◌≡◌, ℕ, List, [], ◌∷◌, ◌++◌, length, take, drop, All, refl, sym, ap, ◌∙◌}
use Rattle.std.proofs.Math.Seq.{take-append_seam, drop-append_seam}
use Rattle.std.proofs.lemmas.List.Elements.{All-nil, All-cons, All-head, All-tail, All-take, All-drop, All-same}
use Rattle.aug_monoid.specs.Fold.{fold_of}
use Rattle.aug_monoid.specs.inside.Laws.{IsMonoid}
use Rattle.aug_monoid.specs.Parts.{Parts}
use Rattle.aug_monoid.specs.Weighted.{FitsPair}

-- where a list of pairs is cut in two, the first part is a list of pairs
pub left_fit : (ps xs ys : List (ℕ × ℕ)) → All FitsPair ps → ps ≡ xs ++ ys → All FitsPair xs
left_fit ps xs ys fit cut =
    let first_part : take (length xs) ps ≡ xs = ap (take (length xs)) cut ∙ take-append_seam xs ys in
    All-same FitsPair xs (take (length xs) ps) (sym first_part) (All-take FitsPair (length xs) ps fit)

-- and so is the second
pub right_fit : (ps xs ys : List (ℕ × ℕ)) → All FitsPair ps → ps ≡ xs ++ ys → All FitsPair ys
right_fit ps xs ys fit cut =
    let second_part : drop (length xs) ps ≡ ys = ap (drop (length xs)) cut ∙ drop-append_seam xs ys in
    All-same FitsPair ys (drop (length xs) ps) (sym second_part) (All-drop FitsPair (length xs) ps fit)

module _ {M : Type 0} {parts : Parts M} (laws : IsMonoid parts) where
  -- the fold of pairs is proper
  pub fold_of-is_proper : (ps : List (ℕ × ℕ)) → All FitsPair ps → parts.IsProper (fold_of parts ps)
  fold_of-is_proper [] _ = laws.unit_is_proper
  fold_of-is_proper (p ∷ ps) fit =
      let one : FitsPair p = All-head FitsPair p ps fit in
      laws.join_is_proper _ _ (laws.key_is_proper p.0 p.1 one.0 one.1) (fold_of-is_proper ps (All-tail FitsPair p ps fit))

  -- the fold of one pair is its value
  pub fold_of-one : (p : ℕ × ℕ) → FitsPair p → fold_of parts (p ∷ []) ≡ parts.of_key p.0 p.1
  fold_of-one p fits = laws.unit_right (parts.of_key p.0 p.1) (laws.key_is_proper p.0 p.1 fits.0 fits.1)

  -- the fold of a list that is cut in two is the join of the folds of its parts
  pub fold_of-append : (xs ys : List (ℕ × ℕ)) → All FitsPair xs → All FitsPair ys → fold_of parts (xs ++ ys) ≡ parts.join (fold_of parts xs) (fold_of parts ys)
  fold_of-append [] ys _ ys_fit = sym (laws.unit_left _ (fold_of-is_proper ys ys_fit))
  fold_of-append (x ∷ xs) ys xs_fit ys_fit =
      let x_fits : FitsPair x = All-head FitsPair x xs xs_fit in
      let rest_fit : All FitsPair xs = All-tail FitsPair x xs xs_fit in
      ap (parts.join (parts.of_key x.0 x.1)) (fold_of-append xs ys rest_fit ys_fit)
      ∙ sym (laws.associates _ _ _ (laws.key_is_proper x.0 x.1 x_fits.0 x_fits.1) (fold_of-is_proper xs rest_fit) (fold_of-is_proper ys ys_fit))

  -- one pair more at the end
  pub fold_of-push : (xs : List (ℕ × ℕ)) (p : ℕ × ℕ) → All FitsPair xs → FitsPair p → fold_of parts (xs ++ p ∷ []) ≡ parts.join (fold_of parts xs) (parts.of_key p.0 p.1)
  fold_of-push xs p xs_fit fits =
      fold_of-append xs (p ∷ []) xs_fit (All-cons FitsPair p [] fits (All-nil FitsPair))
      ∙ ap (parts.join (fold_of parts xs)) (fold_of-one p fits)

  -- the word of a fold stands for it
  pub of_word-fold_of : (ps : List (ℕ × ℕ)) → All FitsPair ps → parts.from_word (parts.to_word (fold_of parts ps)) ≡ fold_of parts ps
  of_word-fold_of ps fit = laws.round_trip _ (fold_of-is_proper ps fit)

  -- the fold of a list that is cut in two is what the words of the two folds stand for, joined
  pub fold_of-append_words : (xs ys : List (ℕ × ℕ)) (left right : ℕ) → All FitsPair xs → All FitsPair ys → left ≡ parts.to_word (fold_of parts xs) → right ≡ parts.to_word (fold_of parts ys) → fold_of parts (xs ++ ys) ≡ parts.join (parts.from_word left) (parts.from_word right)
  fold_of-append_words xs ys left right xs_fit ys_fit left_is right_is =
      fold_of-append xs ys xs_fit ys_fit
      ∙ sym (rw (left_is, right_is, of_word-fold_of xs xs_fit, of_word-fold_of ys ys_fit))

  -- the fold of a list of pairs is the join of the folds of its parts, wherever it is cut in two
  pub fold_of-cut : (ps xs ys : List (ℕ × ℕ)) → All FitsPair ps → ps ≡ xs ++ ys → fold_of parts ps ≡ parts.join (fold_of parts xs) (fold_of parts ys)
  fold_of-cut ps xs ys fit cut =
      ap (fold_of parts) cut ∙ fold_of-append xs ys (left_fit ps xs ys fit cut) (right_fit ps xs ys fit cut)

  -- and so it is where those folds are read back from their words
  pub fold_of-cut_words : (ps xs ys : List (ℕ × ℕ)) → All FitsPair ps → ps ≡ xs ++ ys → fold_of parts ps ≡ parts.join (parts.from_word (parts.to_word (fold_of parts xs))) (parts.from_word (parts.to_word (fold_of parts ys)))
  fold_of-cut_words ps xs ys fit cut =
      ap (fold_of parts) cut
      ∙ fold_of-append_words xs ys _ _ (left_fit ps xs ys fit cut) (right_fit ps xs ys fit cut) refl refl
