-- The plain parts of a monoid over keys with weights, as one record: folds, summaries and laws take it. The laws of the trait `Monoid` say when they
-- form one. Each of the six types is proved to, so only those who write a monoid of their own have to read the laws.
use Rattle.std.specs.Prelude.{ℕ, Option, Some, None}

-- what a member carries in a fold over keys, and what becomes of it
pub record Parts (M : Type 0) : Type 1 where
  -- the value is one that a program can hold
  pub IsProper : M → Type 0
  -- the fold of no keys
  pub unit : M
  -- the fold of one key with its weight
  pub of_key : ℕ → ℕ → M
  -- what two neighbouring folds give together
  pub join : M → M → M
  -- the word that stands for a value
  pub to_word : M → ℕ
  -- the value that a word stands for
  pub from_word : ℕ → M

-- the join of two values by a function; where one side has none, the other side's
abbrev pub joined_by : {A : Type 0} → (A → A → A) → Option A → Option A → Option A
joined_by f None y = y
joined_by f (Some x) None = Some x
joined_by f (Some x) (Some y) = Some (f x y)
