-- What the place of a key in a rising list says of the list.
use Rattle.std.proofs.Common.{◌≡◌, ℕ, zero, suc, ◌+◌, ◌-◌, ◌^◌, ◌<◌, ◌≤◌, Bool, true, false, not, ◌==◌, ◌&&◌, nat_lt, nat_le, List, [], ◌∷◌, ◌++◌, length, get_or, slice_index, slice_get, option_map, take, drop, set, filter, refl, ap, sym, ◌∙◌, inl, inr, arith, insert, remove, length-take, length-drop, length-take-le}
use Rattle.std.specs.List.Sorted.{IsStrictlyIncreasing}
use Rattle.std.proofs.lemmas.List.{take_rest}
use Rattle.std.proofs.lemmas.Option.{slice_get-map}
use Rattle.std.proofs.lemmas.List.Elements.{All-append, All-cons, All-take, All-drop}
use Rattle.std.proofs.lemmas.List.Edits.{length-insert, get_or-insert_below, get_or-insert_at, get_or-insert_above}
use Rattle.std.proofs.lemmas.Bool.{lt-ltb, le-ltb, le-leb, lt-leb, eq-eqb, ne_eqb, cases_lt, cases_order, and_from, and_left, and_right, not_from_true, not_from_false}
use Rattle.aug_model.specs.Keys.{IsKeySet, keys_of, with_pair, without_pair}
use Rattle.aug_model.specs.Queries.{rank_of, select_of, last_of, first_of, before_of, after_of, weighted_range_of}
use Rattle.aug_model.specs.inside.Boundary.{IsBoundary, IsKeyAt, WouldStandAt}
use Rattle.aug_model.proofs.Filters.{PassesBetween, filter-front, filter-back, find-at, filter-between_pairs, filter-all_pairs, filter-but_pairs}
use Rattle.aug_model.proofs.Pairs.{length-keys_of, keys_of-take, keys_of-between, last-keys_of}
use Rattle.aug_model.proofs.Rising.{rises, length-le-bound}

-- a list with one element written over
set-split : (xs : List (ℕ × ℕ)) (i : ℕ) (y : ℕ × ℕ) → i < length xs → set xs i y ≡ take i xs ++ y ∷ drop (suc i) xs
set-split [] i y l = absurd (omega arith)
set-split (x ∷ xs) zero y l = refl
set-split (x ∷ xs) (suc i) y l = ap (λ z. x ∷ z) (set-split xs i y (omega arith))

-- and a set of keys no more members than there are keys
pub IsKeySet-few : (bits : ℕ) (keys : List ℕ) → IsKeySet bits keys → length keys ≤ 2 ^ bits
IsKeySet-few bits keys set = length-le-bound keys (2 ^ bits) set.rising set.below

module _ (xs : List ℕ) (k place : ℕ) (boundary : IsBoundary xs k place) where
  pub filter-below_boundary : filter (λ x. nat_lt x k) xs ≡ take place xs
  filter-below_boundary =
      filter-front (λ x. nat_lt x k) xs place (record {
        before = λ j l q. absurd (omega arith);
        between = λ j l q r. lt-ltb _ _ (boundary.front j (omega arith));
        behind = λ j l q. le-ltb _ _ (boundary.back j (omega arith) l);
      })

  pub rank-at_boundary : rank_of xs k ≡ place
  rank-at_boundary = ap length filter-below_boundary ∙ length-take-le place xs boundary.within

  -- the keys from the place on are those that are not below k
  pub filter-from_boundary : (p : ℕ → Bool) → ((x : ℕ) → x < k → p x ≡ false) → ((x : ℕ) → k ≤ x → p x ≡ true) → filter p xs ≡ drop place xs
  filter-from_boundary p fails passes =
      filter-back p xs place (record {
        before = λ j l q. fails _ (boundary.front j q);
        between = λ j l q r. passes _ (boundary.back j q l);
        behind = λ j l q. absurd (omega (arith, boundary.within));
      })

-- the keys above k are those from the place of k + 1 on
pub filter-above_boundary : (xs : List ℕ) (k place : ℕ) → IsBoundary xs (k + 1) place → filter (λ x. nat_lt k x) xs ≡ take (length xs - place) (drop place xs)
filter-above_boundary xs k place boundary =
    filter-from_boundary xs (k + 1) place boundary (λ x. nat_lt k x) (λ x lt. le-ltb _ _ (omega arith)) (λ x le. lt-ltb _ _ (omega arith)) ∙ sym (take_rest xs place)

module _ (xs : List ℕ) (k place : ℕ) (up : IsStrictlyIncreasing xs) (there : IsKeyAt xs k place) where
  -- a key is below k exactly before the place of k, and above it exactly behind
  below-at_place : (j : ℕ) → j < length xs → j < place → slice_index xs j < k
  below-at_place j l lt = omega (arith, there.is, rises xs up j place lt there.within)

  above-at_place : (j : ℕ) → j < length xs → place < j → k < slice_index xs j
  above-at_place j l gt = omega (arith, there.is, rises xs up place j gt l)

  pub passes_below : PassesBetween (λ x. nat_lt x k) xs 0 place
  passes_below = record {
    before = λ j l q. absurd (omega arith);
    between = λ j l q r. lt-ltb _ _ (below-at_place j l (omega arith));
    behind = λ j l q. le-ltb _ _ (elim (cases_order j place) [
      | inl e ↦ omega (arith, there.is, ap (slice_index xs) e)
      | inr (inl lt) ↦ absurd (omega arith)
      | inr (inr gt) ↦ omega (arith, above-at_place j l gt)
    ]);
  }

  pub passes_above : PassesBetween (λ x. nat_lt k x) xs (suc place) (length xs - suc place)
  passes_above = record {
    before = λ j l q. le-ltb _ _ (elim (cases_order j place) [
      | inl e ↦ omega (arith, there.is, ap (slice_index xs) e)
      | inr (inl lt) ↦ omega (arith, below-at_place j l lt)
      | inr (inr gt) ↦ absurd (omega arith)
    ]);
    between = λ j l q r. lt-ltb _ _ (above-at_place j l (omega arith));
    behind = λ j l q. absurd (omega (arith, there.within));
  }

  pub other : (j : ℕ) → j < length xs → (j ≡ place → ⊥) → not (get_or xs j 0 == k) ≡ true
  other j l ne = not_from_false _ (ne_eqb _ _ (λ e. elim (cases_order j place) [
    | inl same ↦ ne same
    | inr (inl lt) ↦ omega (arith, below-at_place j l lt)
    | inr (inr gt) ↦ omega (arith, above-at_place j l gt)
  ]))

module _ (xs : List ℕ) (k place : ℕ) (gap : WouldStandAt xs k place) where
  pub passes_below_gap : PassesBetween (λ x. nat_lt x k) xs 0 place
  passes_below_gap = record {
    before = λ j l q. absurd (omega arith);
    between = λ j l q r. lt-ltb _ _ (gap.front j (omega arith));
    behind = λ j l q. le-ltb _ _ (omega (arith, gap.back j (omega arith) l));
  }

  pub passes_above_gap : PassesBetween (λ x. nat_lt k x) xs place (length xs - place)
  passes_above_gap = record {
    before = λ j l q. le-ltb _ _ (omega (arith, gap.front j q));
    between = λ j l q r. lt-ltb _ _ (gap.back j q l);
    behind = λ j l q. absurd (omega (arith, gap.within));
  }

  pub none : (j : ℕ) → j < length xs → not (get_or xs j 0 == k) ≡ true
  none j l = not_from_false _ (ne_eqb _ _ (λ e. elim (cases_lt j place) [
    | inl lt ↦ omega (arith, e, gap.front j lt)
    | inr ge ↦ omega (arith, e, gap.back j ge l)
  ]))

  -- the key k put in at its place leaves a set of keys
  pub IsKeySet-insert : (bits : ℕ) → k < 2 ^ bits → IsKeySet bits xs → IsKeySet bits (insert xs place k)
  IsKeySet-insert bits fits set = record {
    rising = λ j l.
        let long = length-insert xs place k gap.within in
        elim (cases_order (j + 1) place) [
          | inl e ↦ omega (arith, get_or-insert_below xs place k 0 j (omega arith) gap.within, get_or-insert_at xs place k 0 gap.within, ap (slice_index (insert xs place k)) e, gap.front j (omega arith))
          | inr (inl lt) ↦ omega (arith, get_or-insert_below xs place k 0 j (omega arith) gap.within, get_or-insert_below xs place k 0 (j + 1) lt gap.within, set.rising j (omega (arith, gap.within)))
          | inr (inr gt) ↦ elim (cases_order j place) [
            | inl e ↦ omega (arith, get_or-insert_at xs place k 0 gap.within, ap (slice_index (insert xs place k)) e, get_or-insert_above xs place k 0 j (omega arith) gap.within, gap.back j (omega arith) (omega arith))
            | inr (inl lt) ↦ absurd (omega arith)
            | inr (inr past) ↦
                let e : j - 1 + 1 ≡ j = omega arith in
                omega (arith, get_or-insert_above xs place k 0 (j - 1) (omega arith) gap.within, get_or-insert_above xs place k 0 j (omega arith) gap.within, set.rising (j - 1) (omega arith), ap (slice_index (insert xs place k)) e, ap (slice_index xs) e)
          ]
        ];
    below = All-append (λ x. x < 2 ^ bits) (take place xs) (k ∷ drop place xs) (All-take (λ x. x < 2 ^ bits) place xs set.below) (All-cons (λ x. x < 2 ^ bits) k (drop place xs) fits (All-drop (λ x. x < 2 ^ bits) place xs set.below));
  }

  -- so there is room for it
  pub length-absent : (bits : ℕ) → k < 2 ^ bits → IsKeySet bits xs → length xs < 2 ^ bits
  length-absent bits fits set =
      let new = IsKeySet-insert bits fits set in
      omega (arith, length-le-bound (insert xs place k) (2 ^ bits) new.rising new.below, length-insert xs place k gap.within)

-- a member stands at its place
pub member-IsBoundary : (xs : List ℕ) → IsStrictlyIncreasing xs → (i : ℕ) → i < length xs → IsBoundary xs (slice_index xs i) i
member-IsBoundary xs up i l = record {
  within = omega arith;
  front = λ j lt. rises xs up j i lt l;
  back = λ j le l'. elim (cases_order i j) [
    | inl e ↦ omega (arith, ap (slice_index xs) e)
    | inr (inl lt) ↦ omega (arith, rises xs up i j lt l')
    | inr (inr gt) ↦ absurd (omega arith)
  ];
}

-- the member with i members below it is the one at the place i
pub select_of-rising : (xs : List ℕ) → IsStrictlyIncreasing xs → (i : ℕ) → select_of xs i ≡ slice_get xs i
select_of-rising xs up i =
    find-at (λ x. rank_of xs x == i) xs i
    (λ l. eq-eqb _ _ (rank-at_boundary xs (slice_index xs i) i (member-IsBoundary xs up i l)))
    (λ j l ne. ne_eqb _ _ (λ e. ne (omega (arith, e, rank-at_boundary xs (slice_index xs j) j (member-IsBoundary xs up j l)))))

module _ (ps : List (ℕ × ℕ)) (k place : ℕ) where
  -- the greatest key below k is that of the last pair before the place of k
  pub before-at_boundary : IsBoundary (keys_of ps) k place → before_of (keys_of ps) k ≡ option_map (λ p. p.0) (slice_get (take place ps) (length (take place ps) - 1))
  before-at_boundary boundary = ap last_of (filter-below_boundary (keys_of ps) k place boundary ∙ keys_of-take place ps) ∙ last-keys_of (take place ps)

  -- the least key above k is that of the first pair from the place of k + 1 on
  pub after-at_boundary : IsBoundary (keys_of ps) (k + 1) place → after_of (keys_of ps) k ≡ option_map (λ p. p.0) (slice_get (take (length ps - place) (drop place ps)) 0)
  after-at_boundary boundary =
      ap first_of (filter-above_boundary (keys_of ps) k place boundary ∙ ap (λ n. take (n - place) (drop place (keys_of ps))) (length-keys_of ps) ∙ keys_of-between place (length ps - place) ps)
      ∙ slice_get-map (λ (p : ℕ × ℕ). p.0) (take (length ps - place) (drop place ps)) 0

module _ (ps : List (ℕ × ℕ)) (k w place : ℕ) where
  -- a pair written over at a place
  pub with_pair-member : IsStrictlyIncreasing (keys_of ps) → IsKeyAt (keys_of ps) k place → with_pair ps k w ≡ set ps place (k, w)
  with_pair-member up there =
      let long = length-keys_of ps in
      rw (filter-between_pairs (λ x. nat_lt x k) ps 0 place (passes_below (keys_of ps) k place up there), filter-between_pairs (λ x. nat_lt k x) ps (suc place) (length (keys_of ps) - suc place) (passes_above (keys_of ps) k place up there), long, take_rest ps (suc place))
      (sym (set-split ps place (k, w) (omega (arith, there.within))))

  -- a pair put in at a place
  pub with_pair-absent : WouldStandAt (keys_of ps) k place → with_pair ps k w ≡ insert ps place (k, w)
  with_pair-absent gap =
      let long = length-keys_of ps in
      rw (filter-between_pairs (λ x. nat_lt x k) ps 0 place (passes_below_gap (keys_of ps) k place gap), filter-between_pairs (λ x. nat_lt k x) ps place (length (keys_of ps) - place) (passes_above_gap (keys_of ps) k place gap), long, take_rest ps place)

module _ (ps : List (ℕ × ℕ)) (k place : ℕ) where
  pub without_pair-member : IsStrictlyIncreasing (keys_of ps) → IsKeyAt (keys_of ps) k place → without_pair ps k ≡ remove ps place
  without_pair-member up there = filter-but_pairs (λ x. not (x == k)) ps place there.within (not_from_true _ (eq-eqb _ _ there.is)) (other (keys_of ps) k place up there)

  pub without_pair-absent : WouldStandAt (keys_of ps) k place → without_pair ps k ≡ ps
  without_pair-absent gap = filter-all_pairs (λ x. not (x == k)) ps (none (keys_of ps) k place gap)

-- the pairs whose keys are from a on and below b, by the places of a and b
pub range-at_boundaries : (ps : List (ℕ × ℕ)) (a b from to : ℕ) → IsBoundary (keys_of ps) a from → IsBoundary (keys_of ps) b to → weighted_range_of ps a b ≡ take (to - from) (drop from ps)
range-at_boundaries ps a b from to boundary_a boundary_b =
    filter-between_pairs (λ x. nat_le a x && nat_lt x b) ps from (to - from) (record {
      before = λ j l q. and_left _ _ (lt-leb _ _ (boundary_a.front j q));
      between = λ j l q r. and_from _ _ (le-leb _ _ (boundary_a.back j q l)) (lt-ltb _ _ (boundary_b.front j (omega arith)));
      behind = λ j l q. elim (cases_lt j from) [
        | inl lt ↦ and_left _ _ (lt-leb _ _ (boundary_a.front j lt))
        | inr ge ↦ and_right _ _ (le-ltb _ _ (boundary_b.back j (omega arith) l))
      ];
    })

-- a part of a list is no longer than the list
pub length-between-le : (xs : List (ℕ × ℕ)) (start n : ℕ) → length (take n (drop start xs)) ≤ length xs
length-between-le xs start n = omega (arith, length-take n (drop start xs), length-drop start xs)
