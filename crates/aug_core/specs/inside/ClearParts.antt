-- Where nobody reads.
use Rattle.std.specs.Prelude.{◌⊎◌, ℕ, ◌+◌, ◌<◌, ◌≤◌, List}
use Rattle.aug_core.specs.Records.{Lists}
use Rattle.aug_core.specs.Readers.{IsAside}

-- a word lies in none of the parts that begin at these words
abbrev pub IsClear : ℕ → List ℕ → ℕ → Type 0
IsClear size bases i = (b : ℕ) → Lists bases b → (i < b) ⊎ (b + size ≤ i)

-- a part lies aside of all of them
abbrev pub IsClearPart : ℕ → List ℕ → ℕ → Type 0
IsClearPart size bases base = (b : ℕ) → Lists bases b → IsAside size base b
