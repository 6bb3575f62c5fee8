-- What it comes to that a user takes out the first or the last member. In the example the first pop of the first member answers 1 and writes the key 1 with
-- the weight 1, the second one 3, and the third answers -1 and writes nothing.
use Rattle.std.specs.Prelude.{◌≡◌, ℤ, pos, Result, Ok, Err, IfOk, IfErr, IsErrOf}
use Rattle.aug_trie.specs.Pops.{pop_updates, Pops}
use Rattle.aug_trie.specs.declared.rounds.pop.Pop.{Pop}
use Rattle.aug_trie.specs.declared.rounds.pop.Pop.TheVariants as pop
use Rattle.aug_trie.specs.declared.rounds.pop.Side.{Side}
use Rattle.aug_live.specs.LiveHandles.{HandleFacts, Follows, Makes}
use Rattle.aug_c.specs.UserCalls.{ShowsClosed, refusal_code, span_of}
use Rattle.aug_c.specs.declared.pops.Member.{Member}
use Rattle.aug_c.specs.declared.refusal.CallRefusal.{CallRefusal}
use Rattle.aug_c.specs.declared.refusal.CallRefusal.TheVariants.{Closed}
use Rattle.aug_c.specs.declared.raw_handle.RawHandle.{RawHandle}
use Rattle.aug_c.specs.Codes as codes
use Rattle.aug_c.specs.Handles.{UpdatesUser}

-- what a pop answers: 1 if it took a member out, `none` if there was none, and 0 if it was refused
abbrev pub pop_code : Result Pop CallRefusal → ℤ
pop_code (Ok (pop.Member key weight)) = pos 1
pop_code (Ok pop.Empty) = codes.none
pop_code (Ok pop.Refused) = pos 0
pop_code (Err cause) = refusal_code cause

-- the member that was taken out is written, and else nothing
abbrev pub written_by : Result Pop CallRefusal → Member → Member → Type 0
written_by (Ok (pop.Member key weight)) before after = (after.key ≡ key) × (after.weight ≡ weight)
written_by (Ok pop.Empty) before after = after ≡ before
written_by (Ok pop.Refused) before after = after ≡ before
written_by (Err cause) before after = after ≡ before

-- the access of a user takes the member out, or follows on what it knew
pub record PopsFree (side : Side) (before after : Member) (old new : HandleFacts) (code : ℤ) : Type 0 where
  pub answer : Result Pop CallRefusal
  pub says : code ≡ pop_code answer
  pub tells : written_by answer before after
  pub popped : IfOk answer (λ done. Makes (pop_updates done) (Pops span_of side done) old new)
  pub not_made : IfErr answer (λ _. Follows old new)
  pub closed : IsErrOf answer Closed → ShowsClosed new

-- a pop by a user
abbrev pub PopsMember : Side → Member → Member → RawHandle → RawHandle → ℤ → Type 0
PopsMember side before after = UpdatesUser (PopsFree side before after) (after ≡ before)
