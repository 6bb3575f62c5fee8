-- No two codes are one.
use Rattle.std.proofs.Common.{◌≡◌, ◌∙◌, ap, sym, eqb, false, true≢false}
use Rattle.std.specs.Prelude.{ℤ, nat_abs}
use Rattle.std.proofs.lemmas.Bool.{eq-eqb}

-- numbers of two sizes are not one
pub apart : {X : Type 0} (a b : ℤ) → eqb (nat_abs a) (nat_abs b) ≡ false → a ≡ b → X
apart a b differ same = absurd (true≢false (sym (eq-eqb (nat_abs a) (nat_abs b) (ap nat_abs same)) ∙ differ))
