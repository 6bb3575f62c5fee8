-- A key or none, and the word that stands for it.
use Rattle.std.specs.Prelude.{ℕ, ◌^◌, ◌<◌, Option, Some, None, nat_lt, if◌then◌else◌}

-- there is no key, or it is a key of 32 bits
abbrev pub IsKeyOrNone : Option ℕ → Type 0
IsKeyOrNone None = Unit {0}
IsKeyOrNone (Some k) = k < 2 ^ 32

-- the key itself, and 2^32 for no key
abbrev pub word_of_key : Option ℕ → ℕ
word_of_key None = 2 ^ 32
word_of_key (Some k) = k

-- the key that a word is, and no key for any word above the keys
abbrev pub key_of_word : ℕ → Option ℕ
key_of_word w = if nat_lt w (2 ^ 32) then Some w else None
