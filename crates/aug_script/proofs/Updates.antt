-- How many of some rows are updates of a lane.
use Rattle.std.proofs.Common.{◌≡◌, ℕ, ◌+◌, ◌≤◌, Bool, true, false, ◌==◌, ◌&&◌, not, if◌then◌else◌, List, [], ◌∷◌, ◌++◌, length, filter, refl, ap, ◌∙◌, arith}
use Rattle.std.proofs.Math.ListN.{length-append}
use Rattle.std.proofs.lemmas.List.Elements.{filter-append}
use Rattle.std.proofs.lemmas.List.Filters.{length-filter_both}
use Rattle.aug_script.specs.Script.{is_update, updates_of}
use Rattle.aug_script.specs.declared.row.Row.{Row}

-- not more than there are rows
pub length-filter-le : {X : Type 0} (p : X → Bool) (xs : List X) → length (filter p xs) ≤ length xs
length-filter-le p xs = omega (arith, length-filter_both p (λ x. not (p x)) (λ x. refl) xs)

-- one more row is one more where it is an update of the lane
pub updates_of-push : (lane : ℕ) (rows : List Row) (row : Row)
    → updates_of lane (rows ++ row ∷ []) ≡ updates_of lane rows + (if (row.lane == lane) && is_update row.verb then 1 else 0)
updates_of-push lane rows row = all ∙ ap (λ (n : ℕ). updates_of lane rows + n) (count (p row) refl)
  where
    p : Row → Bool
    p r = (r.lane == lane) && is_update r.verb

    all : length (filter p (rows ++ row ∷ [])) ≡ length (filter p rows) + length (filter p (row ∷ []))
    all = ap length (filter-append p rows (row ∷ [])) ∙ length-append (filter p rows) (filter p (row ∷ []))

    count : (b : Bool) → p row ≡ b → length (filter p (row ∷ [])) ≡ (if p row then 1 else 0)
    count true is = rw is refl
    count false is = rw is refl
