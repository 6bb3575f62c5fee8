-- What contracts see of a tree in memory. The tree of the example, asked once for its top, has the same set and 1 call.
use Rattle.std.specs.Prelude.{ℕ}
use Rattle.aug_model.specs.Keys.{SetFacts}

-- a tree in memory as contracts see it: the set that it is of, and how often it was called
pub record Asked : Type 0 where
  pub set : SetFacts
  pub calls : ℕ
