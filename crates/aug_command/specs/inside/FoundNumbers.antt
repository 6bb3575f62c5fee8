-- Which numbers the reader of the command line finds.
use Rattle.std.specs.Prelude.{◌≡◌, ℕ, pos, Some, codes}
use Rattle.clap.specs.Words.{IsSignedIn, Text, one_text, without_minus}
use Rattle.clap.specs.declared.parser.matches.Found.{Found}

-- a number from 1 to `most` was found for the option of this name
pub record FindsNumber (found : Found) (name : Text) (most : ℕ) : Type 0 where
  pub text : Text
  pub read : one_text found name ≡ Some (without_minus text)
  pub in_range : IsSignedIn (pos 1) (pos most) text

-- a number was found for each option that takes one
pub record FindsNumbers (found : Found) : Type 0 where
  pub bits : FindsNumber found (codes "bits") 16
  pub workers : FindsNumber found (codes "workers") 64
  pub updates : FindsNumber found (codes "updates") 65536
