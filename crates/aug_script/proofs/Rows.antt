-- What is read of a script, one record at a time.
use Rattle.std.proofs.Common.{◌≡◌, ℕ, ◌+◌, List, [], ◌∷◌, Result, Ok, Err, refl, sym, ap, ◌∙◌}
use Rattle.aug_script.specs.Limits.{Bounds}
use Rattle.std.specs.Result.{result_flatten, result_map_both}
use Rattle.aug_script.specs.Script.{Progress, item_of, read_from, with_item}
use Rattle.aug_script.specs.declared.item.Item.{Item}
use Rattle.aug_script.specs.declared.item.Item.TheVariants as item
use Rattle.aug_script.specs.declared.script_error.ScriptError.{ScriptError}

-- each item takes a number
pub next-with_item : (read : Progress) (next : Item) → (with_item read next).next ≡ read.next + 1
next-with_item read (item.Row row) = refl
next-with_item read item.End = refl
next-with_item read (item.Grow bits) = refl

module _ (limits : Bounds) (read : Progress) (total : Result Progress ScriptError) where
  -- a record that is a row or the end of a round
  pub read_from-item : (records rest : List (List (List ℕ))) (fields : List (List ℕ)) (next : Item) → records ≡ fields ∷ rest
      → item_of limits read fields ≡ Ok next → read_from limits read records ≡ total → read_from limits (with_item read next) rest ≡ total
  unfolding read_from
  read_from-item records rest fields next is good all =
      sym (ap (λ (r : Result Item ScriptError). result_flatten (result_map_both (λ later. read_from limits (with_item read later) rest) (λ fault. fault) r)) good)
      ∙ sym (ap (read_from limits read) is) ∙ all

  -- a record that has a fault
  pub read_from-fault : (records rest : List (List (List ℕ))) (fields : List (List ℕ)) (fault : ScriptError) → records ≡ fields ∷ rest
      → item_of limits read fields ≡ Err fault → read_from limits read records ≡ total → total ≡ Err fault
  unfolding read_from
  read_from-fault records rest fields fault is bad all =
      sym all ∙ ap (read_from limits read) is
      ∙ ap (λ (r : Result Item ScriptError). result_flatten (result_map_both (λ next. read_from limits (with_item read next) rest) (λ fault. fault) r)) bad

  -- no record is left
  pub read_from-none : (records : List (List (List ℕ))) → records ≡ [] → read_from limits read records ≡ total → total ≡ Ok read
  unfolding read_from
  read_from-none records is all = sym all ∙ ap (read_from limits read) is
