-- What a read of the next record does to the records that a reader has left.
use Rattle.std.proofs.Common.{◌≡◌, ℕ, ◌+◌, List, [], ◌∷◌, length, Option, Some, None, IsSome, true, false, Bor, refl, sym, ap, ◌∙◌, subst, inl}
use Rattle.csv.specs.Machine.{ends_at_end}
use Rattle.csv.specs.Reading.{Reached, ReadRecord, default_config, is_flexible, records_from, took_first, reader_state}
use Rattle.csv.specs.declared.parser.State.{State}
use Rattle.csv.specs.declared.reader.Reader.{Reader}
use Rattle.csv.proofs.ReadFacts.{rows-more, rows-end}
use Rattle.aug_script.specs.inside.RecordsLeft.{IsReading, bytes_left, records_in, records_left}
use Rattle.aug_script.proofs.RecordLemmas.{next_record-shorter, records_from-next, records_from-none}

abbrev bytes_of : Bor (List ℕ) → Option (List ℕ)
bytes_of s = Some s.now

some_of : (o : Option (List ℕ)) → IsSome o → (y : List ℕ) × (o ≡ Some y)
some_of None h = cc
some_of (Some y) h = (y, refl)

-- a record was read
pub found_more : (a b : Reader (Bor (List ℕ))) (fields : List (List ℕ)) → IsReading a → ReadRecord bytes_of a b true fields
    → took_first b ≡ true → is_flexible b ≡ is_flexible a → IsReading b × (records_left false a ≡ fields ∷ records_left false b)
unfolding Reached
found_more a b fields reading r took flexible =
    let y = some_of (bytes_left a) reading.known in
    let m = rows-more bytes_of a b fields default_config (reader_state a) y.0 y.0 [] reading.plain y.1 (refl, refl) r in
    let p = m.2.0 in
    let shorter = next_record-shorter default_config (reader_state a) y.0 p reading.between m.2.1 in
    let left : records_left false b ≡ records_from default_config (length p.2 + 1) p.1 p.2 =
    ap (λ (o : Option (List ℕ)). records_in (reader_state b) o) (m.1 ∙ ap Some (sym m.2.3.1)) ∙ ap (λ (s : State). records_in s (Some p.2)) (sym m.2.3.0) in (
      record {
        untrimmed = r.3 ∙ reading.untrimmed;
        any_length = flexible ∙ reading.any_length;
        plain = r.2 ∙ reading.plain;
        ready = inl took;
        known = subst IsSome (sym m.1) refl;
        between = subst (λ (s : State). ends_at_end s ≡ false) m.2.3.0 shorter.0;
      },
      ap (λ (o : Option (List ℕ)). records_in (reader_state a) o) y.1 ∙ records_from-next default_config (reader_state a) y.0 p reading.between m.2.1
          ∙ ap (λ (f : List (List ℕ)). f ∷ records_from default_config (length p.2 + 1) p.1 p.2) (sym m.2.2) ∙ ap (λ (rest : List (List (List ℕ))). fields ∷ rest) (sym left),
    )

-- there was no record
pub found_none : (a b : Reader (Bor (List ℕ))) (fields : List (List ℕ)) → IsReading a → ReadRecord bytes_of a b false fields → records_left false a ≡ []
found_none a b fields reading r =
    let y = some_of (bytes_left a) reading.known in
    ap (λ (o : Option (List ℕ)). records_in (reader_state a) o) y.1
    ∙ records_from-none default_config (reader_state a) y.0 (rows-end bytes_of a b fields default_config y.0 reading.plain y.1 r)
