-- The fields of a record, and tests of all of them.
use Rattle.std.proofs.Common.{◌≡◌, ℕ, List, [], Option, Some, None, length, get_or, ◌∙◌, sym, inl, inr, Bor}
use Rattle.std.specs.Option.{option_map, unwrap_or}
use Rattle.std.proofs.Math.ListN.{get_or-eq_default}
use Rattle.std.proofs.lemmas.Bool.{cases_lt}
use Rattle.csv.specs.Records.{field_at}
use Rattle.csv.proofs.RecordFacts.{field-get, field-there}

-- a field that is looked up, or an empty one past the last
pub field_or_empty : (fields : List (List ℕ)) (place : ℕ) (found : Option (Bor (List ℕ))) (empty : Bor (List ℕ)) → empty.now ≡ []
    → option_map (λ s. s.now) found ≡ field_at fields place → (unwrap_or found empty).now ≡ get_or fields place []
field_or_empty fields place None empty none e =
    elim (cases_lt place (length fields)) [
      | inl below ↦ absurd (field-there fields place below (sym e))
      | inr above ↦ none ∙ sym (get_or-eq_default fields [] above)
    ]
field_or_empty fields place (Some s) empty none e = sym (field-get fields place s.now (sym e))
