-- The two numbers that a program holds for bounds.
use Rattle.std.specs.Prelude.{◌≡◌, ◌⊎◌, ℕ, ◌≤◌, Option, Some, None}

-- the two numbers that a program holds for bounds: for none the greatest of 32 bits and 0, which min and max pass over
abbrev pub held_bounds : Option (ℕ × ℕ) → ℕ × ℕ
held_bounds None = (4294967295, 0)
held_bounds (Some b) = b

-- they are bounds, or those for none
abbrev pub AreHeld : ℕ → ℕ → Type 0
AreHeld least greatest = (least ≤ greatest) ⊎ ((least ≡ 4294967295) × (greatest ≡ 0))
