-- What contracts see of a key on a lock, and what a caller shows of a rule of its own. While a key has the value out, the rule holds for it as it
-- was taken. A rule that says of the value 3 that the one view is 3 too lets a key put 5 in, if its view becomes 5.
use Rattle.std.specs.Prelude.{◌≡◌, ℕ, List, [], ◌∷◌, ◌++◌, slice_set, Option, Some, None}
use mathlib.Core.Option.{some}
use lib.ListN.{get_elem?}
use Rattle.atomic_table.specs.declared.shared.Seat.{Seat}
use Rattle.ruled_lock.specs.declared.holding.Holding.{Holding}

module _ {T V : Type 0} where
  -- what the caller's rule sees of a key
  abbrev pub client_of : Seat (Option T) (Holding T V) → V
  client_of p = p.me.0.client

  -- how often a key tried to take the value and found it out
  abbrev pub missed_of : Seat (Option T) (Holding T V) → ℕ
  missed_of p = p.me.0.missed

  abbrev pub IsSameKey : Seat (Option T) (Holding T V) → Seat (Option T) (Holding T V) → Type 0
  IsSameKey p q = (q.table_id ≡ p.table_id) × (q.id ≡ p.id)

  -- the key holds nothing
  abbrev pub HoldsNothing : Seat (Option T) (Holding T V) → Type 0
  HoldsNothing p = (p.me.0.taken ≡ None) × (p.me.1 ≡ [])

  -- the key took t, and this is in the slot that is used
  abbrev pub Holds : T → Option T → Seat (Option T) (Holding T V) → Type 0
  Holds t slot p = (p.me.0.taken ≡ Some t) × (p.me.1 ≡ (8, slot) ∷ [])

-- What a caller shows.
module _ {T V : Type 0} (holds : T → List V → Type 0) where
  -- whatever the others know, this is known of the value
  abbrev pub Learns : ℕ → V → (V → T → Type 0) → Type 0
  Learns key v fact = (x : T) (views : List V) → holds x views → get_elem? views key ≡ some v → fact v x

  -- whatever the others know, the rule stays when the value goes from x to y, and this key's view becomes some w
  abbrev pub TurnsAt : ℕ → V → T → T → (V → T → T → V → Type 0) → Type 0
  TurnsAt key v x y then = (views : List V) → holds x views → get_elem? views key ≡ some v → (w : V) × holds y (slice_set views key w) × then v x y w

  -- this key's view is cut in two, and a new key has the second
  abbrev pub Forks : ℕ → V → V → V → Type 0
  Forks key v left right = (x : T) (views : List V) → holds x views → get_elem? views key ≡ some v → holds x (slice_set views key left ++ right ∷ [])

  -- this key takes in what another knows, which is spent then
  abbrev pub Meets : ℕ → V → ℕ → V → V → V → Type 0
  Meets key v other w both spent = (x : T) (views : List V) → holds x views → get_elem? views key ≡ some v → (other ≡ key → ⊥) → get_elem? views other ≡ some w → holds x (slice_set (slice_set views key both) other spent)
