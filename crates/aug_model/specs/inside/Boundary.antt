-- The places of keys in a rising list.
use Rattle.std.specs.Prelude.{◌≡◌, ℕ, ◌<◌, ◌≤◌, List, length, slice_index}

-- the keys before the place are below k, and those from the place on are not
pub record IsBoundary (keys : List ℕ) (k place : ℕ) : Type 0 where
  pub within : place ≤ length keys
  pub front : (i : ℕ) → i < place → slice_index keys i < k
  pub back : (i : ℕ) → place ≤ i → i < length keys → k ≤ slice_index keys i

-- the key k stands at the place
pub record IsKeyAt (keys : List ℕ) (k place : ℕ) : Type 0 where
  pub within : place < length keys
  pub is : slice_index keys place ≡ k

-- the key k would stand at the place: those before it are below k, and those from it on above
pub record WouldStandAt (keys : List ℕ) (k place : ℕ) : Type 0 where
  pub within : place ≤ length keys
  pub front : (i : ℕ) → i < place → slice_index keys i < k
  pub back : (i : ℕ) → place ≤ i → i < length keys → k < slice_index keys i
