-- How any query of a look is answered with a number.
use Rattle.std.specs.Prelude.{◌≡◌, ℕ, ℤ}
use Rattle.aug_model.specs.Keys.{SetFacts}
use Rattle.aug_live.specs.LiveHandles.{LookFacts, IsAsked, set_of_look}
use Rattle.aug_c.specs.UserCalls.{span_of}

-- a query is answered right for the snapshot's set, by a number, and changes nothing that a later one could see
pub record AnswersLook {X : Type 0} (is_answer : SetFacts → X → Type 0) (number_of : X → ℤ) (old new : LookFacts) (code : ℤ) : Type 0 where
  pub answer : X
  pub is : is_answer (set_of_look old) answer
  pub says : code ≡ number_of answer
  pub most : ℕ
  pub asked : IsAsked span_of most old new
