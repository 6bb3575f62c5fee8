-- From what a call did to what a handle stands for to what it says of the handle.
use Rattle.std.proofs.Common.{◌≡◌, ◌∙◌, ◌<◌, w64, to_z, of_z, ap, refl, sym, subst, true≢false}
use lib.Signed.{mag}
use Rattle.std.proofs.Math.Facts.{to_z-of_z}
use Rattle.std.specs.Prelude.{ℤ, ⊤, Option, Some, None, IsSome, IsNone}
use Rattle.aug_model.specs.Keys.{SetFacts}
use Rattle.aug_live.specs.LiveHandles.{HandleFacts, LookFacts, set_of_look}
use Rattle.aug_c.specs.Codes as codes
use Rattle.aug_c.specs.Handles.{state_in, state_of, AsksUser, HandleCall, OnUser, ToAccess, ToLook, UpdatesUser}
use Rattle.aug_c.specs.UserCalls.{Asks, AsksLook}
use Rattle.aug_c.specs.Users.{UserFacts}
use Rattle.aug_c.specs.declared.raw_handle.HandleSlot.{HandleSlot}
use Rattle.aug_c.specs.declared.raw_handle.RawHandle.{RawHandle}
use Rattle.aug_c.specs.declared.state.HandleState.{HandleState}
use Rattle.aug_c.specs.declared.state.HandleState.TheVariants.{Closed, Trie, User}
use Rattle.aug_c.specs.inside.Answered.{AnswersLook}

-- a code is what its bits say
pub same_code : (code : ℤ) → mag code < 9223372036854775808 → to_z w64 (of_z w64 code) ≡ code
same_code code fits = to_z-of_z {w = w64} {z = code} (record { sfits = fits })

pub not_none : {X : Type 0} (o : Option X) → IsSome o → ¬ IsNone o
not_none None some none = true≢false (sym some)
not_none (Some x) some none = true≢false none

abbrev pub user_by : HandleFacts → Option LookFacts → UserFacts
user_by access look = record { access = access; look = look }

-- the look of a user was asked
pub looking_call : (Does : LookFacts → LookFacts → ℤ → Type 0) (Same : Type 0) (old new : RawHandle) (user : UserFacts) (access : HandleFacts) (has : Option LookFacts) (look after : LookFacts) (code said : ℤ) → IsSome old.held.value → state_of old ≡ User user
    → user_by access has ≡ user → has ≡ Some look → state_of new ≡ User (user_by access (Some after)) → new.tag ≡ old.tag → code ≡ said → Does look after said → AsksUser Does Same old new code
looking_call Does Same old new user access has look after code said some was seen there is tag says done = record {
  does = subst (λ (s : HandleState). OnUser (λ x y c. ToLook Does Same x.access x.look y c) Same s (state_of new) code) (sym (was ∙ ap (λ (u : UserFacts). User u) (sym seen ∙ ap (user_by access) there)))
      (user_by access (Some after), is, (after, refl, subst (Does look after) (sym says) done));
  tag = tag;
  foreign = λ none. absurd (not_none old.held.value some none);
}

no_user : (Does : UserFacts → UserFacts → ℤ → Type 0) (Same : Type 0) (s : HandleState) (code : ℤ) → ((user : UserFacts) → s ≡ User user → ⊥) → code ≡ codes.closed → Same → OnUser Does Same s s code
no_user Does Same (User user) code other says same = absurd (other user refl)
no_user Does Same (Trie trie) code other says same = (refl, says, same)
no_user Does Same Closed code other says same = (refl, says, same)

-- something was done to the access of a user
pub update_call : (Does : HandleFacts → HandleFacts → ℤ → Type 0) (Same : Type 0) (old new : RawHandle) (user : UserFacts) (access after : HandleFacts) (look : Option LookFacts) (code said : ℤ) → IsSome old.held.value → state_of old ≡ User user
    → user_by access look ≡ user → state_of new ≡ User (user_by after look) → new.tag ≡ old.tag → code ≡ said → Does access after said → UpdatesUser Does Same old new code
update_call Does Same old new user access after look code said some was seen is tag says done = record {
  does = subst (λ (s : HandleState). OnUser (ToAccess Does) Same s (state_of new) code) (sym (was ∙ ap (λ (u : UserFacts). User u) (sym seen)))
      (user_by after look, is, (after, refl, subst (Does access after) (sym says) done));
  tag = tag;
  foreign = λ none. absurd (not_none old.held.value some none);
}

module _ {Does Also : HandleState → HandleState → ℤ → Type 0} (also : (s t : HandleState) (code : ℤ) → Does s t code → Also s t code) where
  -- what does more does this too
  call_also : (old new : RawHandle) (code said : ℤ) → code ≡ said → HandleCall Does old new said → HandleCall Also old new code
  call_also old new code said says call = record {
    does = subst (Also (state_of old) (state_of new)) (sym says) (also (state_of old) (state_of new) said call.does);
    tag = call.tag;
    foreign = call.foreign;
  }

module _ (Does Also : HandleFacts → HandleFacts → ℤ → Type 0) (Same : Type 0) (also : (old new : HandleFacts) (code : ℤ) → Does old new code → Also old new code) where
  access_also : (s t : HandleState) (code : ℤ) → OnUser (ToAccess Does) Same s t code → OnUser (ToAccess Also) ⊤ s t code
  access_also (User old) t code d = (d.0, d.1, (d.2.0, d.2.1, also old.access d.2.0 code d.2.2))
  access_also (Trie trie) t code d = (d.0, d.1, tt)
  access_also Closed t code d = (d.0, d.1, tt)

  -- an update that does more does this too
  pub updates_also : (old new : RawHandle) (code said : ℤ) → code ≡ said → UpdatesUser Does Same old new said → UpdatesUser Also ⊤ old new code
  updates_also old new code said says call = call_also access_also old new code said says call

module _ {X : Type 0} (is_answer : SetFacts → X → Type 0) (number_of : X → ℤ) (told : SetFacts → ℤ) (tells : (set : SetFacts) (x : X) → is_answer set x → number_of x ≡ told set) where
  look_also : (access : HandleFacts) (look : Option LookFacts) (user : UserFacts) (code : ℤ) → ToLook (AnswersLook is_answer number_of) ⊤ access look user code → ToLook (AsksLook told) ⊤ access look user code
  look_also access (Some old) user code d = (d.0, d.1, record { says = d.2.says ∙ tells (set_of_look old) d.2.answer d.2.is; most = d.2.most; asked = d.2.asked })
  look_also access None user code d = d

  user_also : (s t : HandleState) (code : ℤ) → OnUser (λ x y c. ToLook (AnswersLook is_answer number_of) ⊤ x.access x.look y c) ⊤ s t code → OnUser (λ x y c. ToLook (AsksLook told) ⊤ x.access x.look y c) ⊤ s t code
  user_also (User old) t code d = (d.0, d.1, look_also old.access old.look d.0 code d.2)
  user_also (Trie trie) t code d = d
  user_also Closed t code d = d

  -- a query that has an answer as a number asks for that number
  pub told_by : (old new : RawHandle) (code said : ℤ) → code ≡ said → AsksUser (AnswersLook is_answer number_of) ⊤ old new said → Asks told old new code
  told_by = call_also user_also
