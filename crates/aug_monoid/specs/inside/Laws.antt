-- What a monoid over keys keeps, as one record of facts about its plain parts.
use Rattle.std.specs.Prelude.{◌≡◌, ℕ, ◌^◌, ◌<◌}
use Rattle.aug_monoid.specs.Parts.{Parts}

-- a unit, a value of each key, a join and words that keep the laws, on the values that are proper
pub record IsMonoid {M : Type 0} (parts : Parts M) : Type 0 where
  -- the fold of no keys is proper
  pub unit_is_proper : parts.IsProper parts.unit
  -- so is the value of a key with its weight
  pub key_is_proper : (k w : ℕ) → k < 2 ^ 32 → w < 2 ^ 32 → parts.IsProper (parts.of_key k w)
  -- so is what two proper values give together
  pub join_is_proper : (x y : M) → parts.IsProper x → parts.IsProper y → parts.IsProper (parts.join x y)
  -- so is what a word stands for
  pub of_word_is_proper : (w : ℕ) → w < 2 ^ 64 → parts.IsProper (parts.from_word w)
  -- three neighbours give the same, whichever two are joined first
  pub associates : (x y z : M) → parts.IsProper x → parts.IsProper y → parts.IsProper z → parts.join (parts.join x y) z ≡ parts.join x (parts.join y z)
  -- the unit adds nothing on the left
  pub unit_left : (x : M) → parts.IsProper x → parts.join parts.unit x ≡ x
  -- nor on the right
  pub unit_right : (x : M) → parts.IsProper x → parts.join x parts.unit ≡ x
  -- a value has a word of 64 bits
  pub word_fits : (x : M) → parts.IsProper x → parts.to_word x < 2 ^ 64
  -- and its word stands for it
  pub round_trip : (x : M) → parts.IsProper x → parts.from_word (parts.to_word x) ≡ x
