-- What the ends of a desk's lock know of what lies there, and the rule between them.
use Rattle.std.specs.Prelude.{◌≡◌, ◌⊎◌, ℕ, ◌<◌, List, Option, Some, None, IfSome, IsSome, true, false}
use mathlib.Core.Option.{some}
use lib.ListN.{get_elem?}
use Rattle.atomic_table.specs.declared.shared.Seat.{Seat}
use Rattle.ruled_lock.specs.Locks.{Holds, client_of}
use Rattle.ruled_lock.specs.declared.holding.Holding.{Holding}
use Rattle.aug_live.specs.LiveTries.{TrieFacts, KnowsMore}
use Rattle.aug_live.specs.declared.desk_end.Desk.{Desk}

-- the owner's end, which is the first, knows that a round works there unless the owner closed the trie, and how many handles were made, since nobody else makes any
pub record OwnerKnows {A B : Type 0} (desk : Desk A B) (v : TrieFacts) : Type 0 where
  pub works : desk.opened ≡ true → v.closed ≡ false → IsSome desk.working
  pub given : IfSome desk.working (λ t. t.given ≡ v.given)

-- an end knows whether a trie was laid there yet, before which there is no other end, and what it knows of the trie is a part of what lies there. So where it knows
-- that the trie was closed, none lies there
pub record EndKnows {A B : Type 0} (desk : Desk A B) (end : ℕ) (v : TrieFacts) : Type 0 where
  pub alone : desk.opened ≡ false → end ≡ 0
  pub none : desk.opened ≡ false → v.bits ≡ 0
  pub some : desk.opened ≡ true → 0 < v.bits
  pub there : IsSome desk.working → desk.opened ≡ true
  pub knows : IfSome desk.working (KnowsMore v)
  pub owner : end ≡ 0 → OwnerKnows desk v

abbrev pub OnDesk : {A B : Type 0} → Desk A B → List TrieFacts → Type 0
OnDesk desk views = (j : ℕ) (v : TrieFacts) → get_elem? views j ≡ some v → EndKnows desk j v

-- what an end learns that takes what lies there
pub record KnowsDesk {A B : Type 0} (v : TrieFacts) (desk : Desk A B) : Type 0 where
  pub unopened : v.bits ≡ 0 → desk.opened ≡ false
  pub opened : 0 < v.bits → desk.opened ≡ true
  pub there : IsSome desk.working → desk.opened ≡ true
  pub knows : IfSome desk.working (KnowsMore v)

-- and what the owner's end learns of an open trie
pub record KnowsOwn {A B : Type 0} (v : TrieFacts) (desk : Desk A B) : Type 0 where
  pub knows : KnowsDesk v desk
  pub owner : OwnerKnows desk v

-- who puts something there knows it, and who leaves nothing there knows that the trie was closed
abbrev pub known_after : Option TrieFacts → TrieFacts → TrieFacts
known_after None v = record v { closed = true }
known_after (Some t) v = t

abbrev pub is_known : {A B : Type 0} → TrieFacts → Desk A B → Desk A B → TrieFacts → Type 0
is_known v old new w = w ≡ known_after new.working v

-- what the owner's end is, while its trie is open
pub record IsOwner (end : ℕ) (v : TrieFacts) : Type 0 where
  pub first : end ≡ 0
  pub is_open : v.closed ≡ false
  pub some : 0 < v.bits

-- what an end may make of what lies there: a round goes on, and there are as many handles as before unless the owner made one; and the owner closes the trie
abbrev pub Moves : ℕ → Option TrieFacts → Option TrieFacts → Type 0
Moves end None None = Unit {0}
Moves end None (Some t) = ⊥
Moves end (Some t) None = end ≡ 0
Moves end (Some t) (Some u) = KnowsMore t u × ((end ≡ 0) ⊎ (u.given ≡ t.given))

-- what lies there goes on, with as many handles as before
abbrev pub DeskStays : Option TrieFacts → Option TrieFacts → Type 0
DeskStays None None = Unit {0}
DeskStays None (Some t) = ⊥
DeskStays (Some t) None = ⊥
DeskStays (Some t) (Some u) = KnowsMore t u × (u.given ≡ t.given)

-- an end that took a round lays it there again, or what became of it
pub record GoesOnFrom {A B : Type 0} (pass : Seat (Option (Desk A B)) (Holding (Desk A B) TrieFacts)) (working : TrieFacts) : Type 0 where
  pub was : TrieFacts
  pub holds : Holds (record { working = Some was; opened = true }) None pass
  pub knows : KnowsMore (client_of pass) was
  pub more : KnowsMore was working
  pub given : (pass.id ≡ 0) ⊎ (working.given ≡ was.given)
