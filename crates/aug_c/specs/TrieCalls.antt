-- What the calls on a trie do to it, and what they answer. For 6 bits and 2 users each part of a table has at least `127 + 2 + 5 * (69 + 768)` words, so
-- 103,536 bytes are enough, and fewer are answered -8, as more than 3 * 2^29 are. The third `aug_try_user_open` answers -9, and one over the handle of an open trie -2. If one user put 0, 1 and 3
-- in and the other took 1 out, `aug_try_close` reports three insertions, one removal and the size 2.
use Rattle.std.specs.Prelude.{◌≡◌, ◌≢◌, ◌⊎◌, ℕ, ◌↔◌, ℤ, pos, None, [], ◌∷◌, ◌++◌, length, All, vec_len}
use Rattle.aug_core.specs.Layout.{IsOutside, IsWithin}
use Rattle.aug_model.specs.Keys.{SetFacts}
use Rattle.aug_live.specs.LiveHandles.{HandleFacts, IsNew}
use Rattle.aug_live.specs.LiveTries.{Closes, IsOpenedTrie, KeepsHandles, TrieFacts}
use Rattle.aug_live.specs.Plans.{IsGreatest, Suits}
use Rattle.aug_live.specs.declared.counts.LiveCounts.{LiveCounts}
use Rattle.aug_live.specs.declared.plan.Plan.{Plan}
use Rattle.aug_c.specs.declared.trie_calls.ClosingReport.{ClosingReport}
use Rattle.aug_c.specs.declared.state.Opened.{Opened}
use Rattle.aug_c.specs.declared.state.HandleState.{HandleState}
use Rattle.aug_c.specs.declared.state.HandleState.TheVariants.{Closed, Trie, User}
use Rattle.aug_c.specs.declared.raw_handle.RawHandle.{RawHandle}
use Rattle.aug_c.specs.Codes as codes
use Rattle.aug_c.specs.Handles.{state_of}
use Rattle.aug_c.specs.Marks.{trie_mark, user_mark}

-- the empty set of keys of so many bits
abbrev pub empty_of : ℕ → SetFacts
empty_of bits = record { bits = bits; pairs = [] }

-- a trie was just opened over the empty set, with an access for each user, in the greatest rounds that the memory has room for
pub record IsOpenedFor (bits users bytes : ℕ) (trie : Opened) : Type 0 where
  pub opened : IsOpenedTrie (empty_of bits) users trie.live
  pub accesses : vec_len trie.spare ≡ users
  pub plan : Plan
  pub greatest : IsGreatest bits users bytes plan
  pub new : All (IsNew trie.live (empty_of bits) plan) trie.spare.items

-- a trie is opened, or the handle stays as it was
pub record OpensTrie (bits users bytes : ℕ) (old new : RawHandle) (code : ℤ) : Type 0 where
  pub opened : code ≡ pos 0 → (trie : Opened) × (state_of new ≡ Trie trie) × (new.tag ≡ trie_mark) × IsOpenedFor bits users bytes trie
  pub refused : code ≢ pos 0 → new ≡ old
  pub bad_bits : (code ≡ codes.bad_bits) ↔ IsOutside 1 16 bits
  pub bad_users : (code ≡ codes.bad_users) ↔ (IsWithin 1 16 bits × IsOutside 1 64 users)
  pub too_large : (code ≡ codes.too_large) ↔ (IsWithin 1 16 bits × IsWithin 1 64 users × (¬ Suits bits users bytes))
  pub others : (code ≡ pos 0) ⊎ (code ≡ codes.bad_bits) ⊎ (code ≡ codes.bad_users) ⊎ (code ≡ codes.too_large) ⊎ (code ≡ codes.no_memory)

-- a user gets the last of the accesses that are left, or nothing changes
pub record OpensUser (before after : RawHandle) (old new : Opened) (code : ℤ) : Type 0 where
  pub opened : code ≡ pos 0 → (access : HandleFacts) × (state_of after ≡ User (record { access = access; look = None })) × (after.tag ≡ user_mark) × (new.live ≡ old.live) × (old.spare.items ≡ new.spare.items ++ access ∷ [])
  pub refused : code ≢ pos 0 → (new ≡ old) × (after ≡ before)
  pub no_user : (code ≡ codes.no_user) ↔ (old.spare.items ≡ [])
  pub others : (code ≡ pos 0) ⊎ (code ≡ codes.no_user) ⊎ (code ≡ codes.no_memory)

-- a piece of the next round of a trie is laid out, which changes nothing of what is known of it; the answer tells whether there is more to do
pub record TendsTrie (old new : Opened) (code : ℤ) : Type 0 where
  pub same : new ≡ old
  pub told : (code ≡ pos 0) ⊎ (code ≡ pos 1)

-- a call on a trie does this to it, and one on what is no trie does nothing
abbrev pub OnTrie : (Opened → Opened → ℤ → Type 0) → Type 0 → HandleState → HandleState → ℤ → Type 0
OnTrie Does Same (Trie old) new code = (trie : Opened) × (new ≡ Trie trie) × Does old trie code
OnTrie Does Same other new code = (new ≡ other) × (code ≡ codes.closed) × Same

-- the report of a trie that was closed
pub record IsReport (trie : TrieFacts) (report : ClosingReport) : Type 0 where
  pub set : SetFacts
  pub counts : LiveCounts
  pub closes : Closes trie set counts
  pub size : report.size ≡ length set.pairs
  pub inserts : report.inserts ≡ counts.inserts
  pub removals : report.removals ≡ counts.removals

-- a trie is closed, or goes on: then no access was made of it, and none of the spare ones has changed, so no update was made by them
pub record ClosesOpened (old : Opened) (new : RawHandle) (before after : ClosingReport) (code : ℤ) : Type 0 where
  pub closed : code ≡ pos 0 → (state_of new ≡ Closed) × IsReport old.live after
  pub goes_on : code ≢ pos 0 → (trie : Opened) × (state_of new ≡ Trie trie) × (new.tag ≡ trie_mark) × KeepsHandles old.live trie.live × (trie.spare ≡ old.spare) × (after ≡ before)
  pub others : (code ≡ pos 0) ⊎ (code ≡ codes.again)

abbrev pub ClosesTrie : HandleState → RawHandle → ClosingReport → ClosingReport → ℤ → Type 0
ClosesTrie (Trie old) new before after code = ClosesOpened old new before after code
ClosesTrie other new before after code = (state_of new ≡ Closed) × (code ≡ codes.closed) × (after ≡ before)
