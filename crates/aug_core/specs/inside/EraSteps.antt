-- What a step leaves of its seat's era.
use Rattle.std.specs.Prelude.{◌≡◌, ℕ, Some}
use Rattle.aug_core.specs.Effects.{Sat}
use Rattle.aug_core.specs.Eras.{IsAtWork}
use Rattle.aug_core.specs.declared.view.SeatView.{SeatView}

-- a step leaves the era of its seat and those before it, where it works, what notes told, what it knows beside; who leads led
pub record Remains (v w : SeatView) : Type 0 where
  pub live : w.live ≡ v.live
  pub era : w.era ≡ v.era
  pub past : w.past ≡ v.past
  pub shape : w.shape ≡ v.shape
  pub members : w.members ≡ v.members
  pub told : w.told ≡ v.told
  pub base : w.base ≡ v.base
  pub whole : w.whole ≡ v.whole
  pub led : (n : ℕ) → w.spare ≡ Some n → (m : ℕ) × (v.spare ≡ Some m)

-- and it leaves whether its seat reads, and for which readers it answers; who is at work stays so, and who leads
pub record LendsAs (v w : SeatView) : Type 0 where
  pub reads : w.reads ≡ v.reads
  pub lent : w.lent ≡ v.lent
  pub leads : (n : ℕ) → v.spare ≡ Some n → (m : ℕ) × (w.spare ≡ Some m)
  pub works : IsAtWork v → IsAtWork w

-- what a step shows, and these
abbrev pub WithEra : Sat → (ℕ → Sat → Type 0) → ℕ → Sat → Type 0
WithEra me told r m = told r m × Remains me.0 m.0 × LendsAs me.0 m.0
