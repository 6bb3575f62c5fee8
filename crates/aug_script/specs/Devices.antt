-- What calls do to a sink. All of a text goes out (`Writes`), or a prefix of it before a fault (`WritesBeginning`), such as `1 0 si` if a disk was
-- full after six bytes. If a device shows nothing of its bytes, such as a terminal, the statements about them claim nothing.
use Rattle.std.specs.Prelude.{◌≡◌, ℕ, ◌+◌, ◌≤◌, ◌⊎◌, Option, List, length, take}
use Rattle.std.specs.Io.KnownBytes.{Appends}

-- what a sink did so far: the bytes that went out, if they are known, how often `finish` was called, and how many calls failed
pub record SinkState : Type 0 where
  pub bytes : Option (List ℕ)
  pub finishes : ℕ
  pub faults : ℕ

-- all of a text went out, with `finishes` calls of `finish` and no fault
pub record Writes (old new : SinkState) (text : List ℕ) (finishes : ℕ) : Type 0 where
  pub bytes : Appends old.bytes new.bytes text
  pub finished : new.finishes ≡ old.finishes + finishes
  pub no_fault : new.faults ≡ old.faults

-- a prefix of a text went out, and then there was one fault; `finish` was not called, or once, after all of the text
pub record WritesBeginning (old new : SinkState) (text : List ℕ) : Type 0 where
  pub count : ℕ
  pub within : count ≤ length text
  pub bytes : Appends old.bytes new.bytes (take count text)
  pub last : (new.finishes ≡ old.finishes) ⊎ ((new.finishes ≡ old.finishes + 1) × (count ≡ length text))
  pub one_fault : new.faults ≡ old.faults + 1
