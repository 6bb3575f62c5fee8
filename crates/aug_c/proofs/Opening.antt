-- What opening a trie says if it is opened, and closing one if it goes on.
use Rattle.std.proofs.Common.{◌≡◌, ◌∙◌, inl, inr, ℕ, List, [], ◌∷◌, ◌++◌, All, ap, length, sym, subst, pos, refl, arith}
use Rattle.std.specs.Prelude.{ℤ, None, vec_len}
use Rattle.std.proofs.lemmas.List.{length-append}
use Rattle.aug_core.specs.Layout.{IsOutside, IsWithin}
use Rattle.aug_model.specs.Keys.{SetFacts}
use Rattle.aug_live.specs.LiveHandles.{HandleFacts, IsNew}
use Rattle.aug_live.specs.LiveTries.{IsOpenedTrie, KeepsHandles}
use Rattle.aug_live.specs.Plans.{IsGreatest, Suits}
use Rattle.aug_live.specs.declared.plan.Plan.{Plan}
use Rattle.aug_c.specs.Codes as codes
use Rattle.aug_c.specs.Handles.{state_in, state_of}
use Rattle.aug_c.specs.Marks.{trie_mark, user_mark}
use Rattle.aug_c.specs.TrieCalls.{ClosesOpened, ClosesTrie, IsOpenedFor, OnTrie, OpensTrie, OpensUser, empty_of}
use Rattle.aug_c.specs.declared.trie_calls.ClosingReport.{ClosingReport}
use Rattle.aug_c.specs.declared.state.Opened.{Opened}
use Rattle.aug_c.specs.declared.state.HandleState.{HandleState}
use Rattle.aug_c.specs.declared.state.HandleState.TheVariants.{Closed, Trie, User}
use Rattle.aug_c.specs.declared.raw_handle.RawHandle.{RawHandle}
use Rattle.aug_c.proofs.Apart.{apart}

not_both : (first last n : ℕ) → IsWithin first last n → IsOutside first last n → ⊥
not_both first last n within (inl below) = let w = within.0 in omega (arith, w, below)
not_both first last n within (inr above) = let w = within.1 in omega (arith, w, above)

module _ (bits users bytes : ℕ) (trie : Opened) where
  -- what the call of the live trie gave, over the empty set
  pub is_opened : (set : SetFacts) → set ≡ empty_of bits → IsOpenedTrie set users trie.live → vec_len trie.spare ≡ users
      → (plan : Plan) × IsGreatest set.bits users bytes plan × All (IsNew trie.live set plan) trie.spare.items → IsOpenedFor bits users bytes trie
  is_opened set empty opened all new = record {
    opened = subst (λ (s : SetFacts). IsOpenedTrie s users trie.live) empty opened;
    accesses = all;
    plan = new.0;
    greatest = subst (λ (s : SetFacts). IsGreatest s.bits users bytes new.0) empty new.1;
    new = subst (λ (s : SetFacts). All (IsNew trie.live s new.0) trie.spare.items) empty new.2;
  }

  pub opens : (old new : RawHandle) → IsWithin 1 16 bits → IsWithin 1 64 users → Suits bits users bytes → state_of new ≡ Trie trie → new.tag ≡ trie_mark → IsOpenedFor bits users bytes trie → OpensTrie bits users bytes old new (pos 0)
  opens old new within few suits is mark opened = record {
    opened = λ _. (trie, is, mark, opened);
    refused = λ n. absurd (n refl);
    bad_bits = (apart (pos 0) codes.bad_bits refl, (λ out. absurd (not_both 1 16 bits within out)));
    bad_users = (apart (pos 0) codes.bad_users refl, (λ w. absurd (not_both 1 64 users few w.1)));
    too_large = (apart (pos 0) codes.too_large refl, (λ w. absurd (w.2 suits)));
    others = inl refl;
  }

-- a user of a trie, of which an access was left or not
pub user_opened : (before after : RawHandle) (old new : Opened) (access : HandleFacts) → state_of after ≡ User (record { access = access; look = None }) → after.tag ≡ user_mark → new.live ≡ old.live → old.spare.items ≡ new.spare.items ++ access ∷ [] → OpensUser before after old new (pos 0)
user_opened before after old new access is mark same items = record {
  opened = λ _. (access, is, mark, same, items);
  refused = λ n. absurd (n refl);
  no_user = (apart (pos 0) codes.no_user refl, (λ none. absurd (omega (arith, ap (λ (xs : List HandleFacts). length xs) (sym items ∙ none), length-append new.spare.items (access ∷ [])))));
  others = inl refl;
}

-- a trie that was not closed
pub goes_on : (old trie : Opened) (new : RawHandle) (report : ClosingReport) → state_of new ≡ Trie trie → new.tag ≡ trie_mark → KeepsHandles old.live trie.live → trie.spare ≡ old.spare → ClosesOpened old new report report codes.again
goes_on old trie new report is mark more same = record {
  closed = apart codes.again (pos 0) refl;
  goes_on = λ _. (trie, is, mark, more, same, refl);
  others = inr refl;
}

-- what is done to a trie that a handle stands for
pub closes : (old : Opened) (was : HandleState) (new : RawHandle) (before after : ClosingReport) (code said : ℤ) → was ≡ Trie old → code ≡ said → ClosesOpened old new before after said → ClosesTrie was new before after code
closes old was new before after code said from says done = subst (λ (s : HandleState). ClosesTrie s new before after code) (sym from) (subst (ClosesOpened old new before after) (sym says) done)

-- a call on a trie
pub on_trie : (Does : Opened → Opened → ℤ → Type 0) (Same : Type 0) (s t : HandleState) (old new : Opened) (code said : ℤ) → s ≡ Trie old → t ≡ Trie new → code ≡ said → Does old new said → OnTrie Does Same s t code
on_trie Does Same s t old new code said was is says done = subst (λ (z : HandleState). OnTrie Does Same z t code) (sym was) (new, is, subst (Does old new) (sym says) done)

no_trie : (Does : Opened → Opened → ℤ → Type 0) (Same : Type 0) (s : HandleState) (code : ℤ) → ((trie : Opened) → s ≡ Trie trie → ⊥) → code ≡ codes.closed → Same → OnTrie Does Same s s code
no_trie Does Same (Trie trie) code other says same = absurd (other trie refl)
no_trie Does Same (User user) code other says same = (refl, says, same)
no_trie Does Same Closed code other says same = (refl, says, same)
