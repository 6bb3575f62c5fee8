-- A word gives a key or none, and gives back the key that it was made of.
use Rattle.std.specs.Prelude.{◌≡◌, ℕ, ◌^◌, ◌<◌, Bool, true, false, Option, Some, None, nat_lt, if◌then◌else◌, refl}
use Rattle.std.proofs.Common.{arith}
use Rattle.std.proofs.lemmas.Bool.{lt-ltb, ltb-true}
use Rattle.aug_monoid.specs.KeyWord.{IsKeyOrNone, word_of_key, key_of_word}

-- a word gives a key of 32 bits or none
pub key_of_word-is_key : (w : ℕ) → IsKeyOrNone (key_of_word w)
key_of_word-is_key w = chosen (nat_lt w (2 ^ 32)) (ltb-true w (2 ^ 32))
  where
    chosen : (small : Bool) → (small ≡ true → w < 2 ^ 32) → IsKeyOrNone (if small then Some w else None)
    chosen true is_key = is_key refl
    chosen false _ = tt

pub word_of_key-fits : (k : Option ℕ) → IsKeyOrNone k → word_of_key k < 2 ^ 64
word_of_key-fits None _ = omega arith
word_of_key-fits (Some k) is_key = omega arith

pub key_of_word-word_of_key : (k : Option ℕ) → IsKeyOrNone k → key_of_word (word_of_key k) ≡ k
key_of_word-word_of_key None _ = refl
key_of_word-word_of_key (Some k) is_key = rw (lt-ltb k (2 ^ 32) is_key)
