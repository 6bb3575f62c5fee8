-- What the handles stand for, and what a call on one says. A handle stands for an open trie with the accesses that no user was given yet, for a user, or for
-- nothing (`HandleState`). By `OnUser` a call does what its own definition says to a user; on anything else it answers `closed`, and leaves all as it was. By
-- `HandleCall` the handle stands for what that comes to from then on, and memory that is no open handle stays as it is. An update is made beside the user's
-- look, which shows what it showed (`ToAccess`). A query is made of the look, and without one it answers `not_looking` (`ToLook`).
use Rattle.std.specs.Prelude.{◌≡◌, ℤ, Option, Some, None, IsNone}
use Rattle.aug_live.specs.LiveHandles.{HandleFacts, LookFacts}
use Rattle.aug_c.specs.Codes as codes
use Rattle.aug_c.specs.Users.{UserFacts}
use Rattle.aug_c.specs.declared.state.HandleState.{HandleState}
use Rattle.aug_c.specs.declared.state.HandleState.TheVariants.{Closed, User}
use Rattle.aug_c.specs.declared.raw_handle.HandleSlot.{HandleSlot}
use Rattle.aug_c.specs.declared.raw_handle.RawHandle.{RawHandle}

abbrev pub state_in : Option HandleSlot → HandleState
state_in None = Closed
state_in (Some slot) = slot.state

-- what a handle stands for
abbrev pub state_of : RawHandle → HandleState
state_of handle = state_in handle.held.value

-- a call on a handle does this to what it stands for
pub record HandleCall (Does : HandleState → HandleState → ℤ → Type 0) (old new : RawHandle) (code : ℤ) : Type 0 where
  pub does : Does (state_of old) (state_of new) code
  pub tag : new.tag ≡ old.tag
  pub foreign : IsNone old.held.value → new ≡ old

-- a call of a user does this, and any other does nothing, of which `Same` says what else that comes to
abbrev pub OnUser : (UserFacts → UserFacts → ℤ → Type 0) → Type 0 → HandleState → HandleState → ℤ → Type 0
OnUser Does Same (User old) new code = (user : UserFacts) × (new ≡ User user) × Does old user code
OnUser Does Same other new code = (new ≡ other) × (code ≡ codes.closed) × Same

-- this is done to a user's access, and its look stays as it is
abbrev pub ToAccess : (HandleFacts → HandleFacts → ℤ → Type 0) → UserFacts → UserFacts → ℤ → Type 0
ToAccess Does old new code = (access : HandleFacts) × (new ≡ record { access = access; look = old.look }) × Does old.access access code

-- this is done to the look of a user with such an access, if it has one, and the access stays as it is
abbrev pub ToLook : (LookFacts → LookFacts → ℤ → Type 0) → Type 0 → HandleFacts → Option LookFacts → UserFacts → ℤ → Type 0
ToLook Does Same access (Some old) new code = (look : LookFacts) × (new ≡ record { access = access; look = Some look }) × Does old look code
ToLook Does Same access None new code = (new ≡ record { access = access; look = None }) × (code ≡ codes.not_looking) × Same

-- a call on a handle that does this to the access of a user, or to its look
abbrev pub UpdatesUser : (HandleFacts → HandleFacts → ℤ → Type 0) → Type 0 → RawHandle → RawHandle → ℤ → Type 0
UpdatesUser Does Same = HandleCall (OnUser (ToAccess Does) Same)

abbrev pub AsksUser : (LookFacts → LookFacts → ℤ → Type 0) → Type 0 → RawHandle → RawHandle → ℤ → Type 0
AsksUser Does Same = HandleCall (OnUser (λ old new code. ToLook Does Same old.access old.look new code) Same)
