-- `joined_by` keeps the laws of a monoid if its function is associative, as `min` and `max` are.
use Rattle.std.specs.Prelude.{◌≡◌, ℕ, ◌^◌, ◌<◌, min, max, Option, Some, None, refl}
use Rattle.std.proofs.Common.{ap, arith}
use Rattle.aug_monoid.specs.Parts.{joined_by}

pub joined_by-none_right : {A : Type 0} (f : A → A → A) (x : Option A) → joined_by f x None ≡ x
joined_by-none_right f None = refl
joined_by-none_right f (Some x) = refl

pub joined_by-assoc : {A : Type 0} (f : A → A → A) → ((x y z : A) → f (f x y) z ≡ f x (f y z)) → (x y z : Option A) → joined_by f (joined_by f x y) z ≡ joined_by f x (joined_by f y z)
joined_by-assoc f _ None y z = refl
joined_by-assoc f _ (Some x) None z = refl
joined_by-assoc f _ (Some x) (Some y) None = refl
joined_by-assoc f assoc (Some x) (Some y) (Some z) = ap Some (assoc x y z)

pub joined_by-is_proper : {A : Type 0} (f : A → A → A) (IsProper : Option A → Type 0) → ((x y : A) → IsProper (Some x) → IsProper (Some y) → IsProper (Some (f x y))) → (x y : Option A) → IsProper x → IsProper y → IsProper (joined_by f x y)
joined_by-is_proper f IsProper _ None y _ y_is = y_is
joined_by-is_proper f IsProper _ (Some x) None x_is _ = x_is
joined_by-is_proper f IsProper keeps (Some x) (Some y) x_is y_is = keeps x y x_is y_is

pub min-assoc : (x y z : ℕ) → min (min x y) z ≡ min x (min y z)
min-assoc x y z = omega arith

pub max-assoc : (x y z : ℕ) → max (max x y) z ≡ max x (max y z)
max-assoc x y z = omega arith

pub min-is_key : (x y : ℕ) → x < 2 ^ 32 → y < 2 ^ 32 → min x y < 2 ^ 32
min-is_key x y x_is_key y_is_key = omega arith

pub max-is_key : (x y : ℕ) → x < 2 ^ 32 → y < 2 ^ 32 → max x y < 2 ^ 32
max-is_key x y x_is_key y_is_key = omega arith
