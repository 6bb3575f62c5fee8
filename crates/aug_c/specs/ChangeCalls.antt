-- What a call for the changes of a look answers: a page of those between the snapshot that the look showed before and the one that it shows, or all of those
-- between a list and that. In the example a look that saw 0 and 1 is taken again after 1 went out and 3 came in: the page from 0 on has 1, which weighed 1 and is gone
-- (-1), and 3, which was no member (-1) and weighs 3. It has the same changes since a list of 0 and 1, and a list of 1 and 0 is refused (-3).
use Rattle.std.specs.Prelude.{◌≡◌, ◌≢◌, ℕ, ℤ, pos, List, length, map, take}
use Rattle.std.specs.List.{zip}
use Rattle.std.specs.List.Sorted.{IsStrictlyIncreasing}
use Rattle.aug_model.specs.Differences.{changes_from}
use Rattle.aug_model.specs.Keys.{SetFacts}
use Rattle.aug_model.specs.declared.difference.Difference.{Difference}
use Rattle.aug_live.specs.LiveHandles.{LookFacts, IsAsked, set_before, set_of_look}
use Rattle.aug_c.specs.ArrayCalls.{ListsMembers}
use Rattle.aug_c.specs.UserCalls.{found, span_of}
use Rattle.aug_c.specs.declared.changes.WeightChange.{WeightChange}
use Rattle.aug_c.specs.Codes as codes

-- a change with -1 in the place of a weight that there is not
abbrev pub change_of : Difference → WeightChange
change_of one = record { key = one.key; before = found one.before; now = found one.after }

-- the first of these changes are written, as many as there is room for, and the answer is how many
pub record ListsPage (changes before after : List WeightChange) (old new : LookFacts) (code : ℤ) : Type 0 where
  pub count : ℕ
  pub says : code ≡ pos count
  pub lists : ListsMembers changes before after count
  pub most : ℕ
  pub asked : IsAsked span_of most old new

-- those between the snapshot before and the one that is shown, with keys from this one on, at most 32
abbrev pub ListsChanges : ℕ → List WeightChange → List WeightChange → LookFacts → LookFacts → ℤ → Type 0
ListsChanges from before after old new code = ListsPage (map change_of (take 32 (changes_from (set_before old) (set_of_look old) from))) before after old new code

-- the set whose members are in one array, and their weights in the other
abbrev pub set_of_arrays : List ℕ → List ℕ → SetFacts
set_of_arrays keys weights = record { bits = 32; pairs = zip keys weights }

-- what changed between such a set and the snapshot that is shown, of the keys from this one on
abbrev pub changes_since : List ℕ → List ℕ → LookFacts → ℕ → List WeightChange
changes_since keys weights look from = map change_of (changes_from (set_of_arrays keys weights) (set_of_look look) from)

-- which arrays are refused, so that nothing is written, and what is listed otherwise
pub record ListsSince (keys weights : List ℕ) (from : ℕ) (before after : List WeightChange) (old new : LookFacts) (code : ℤ) : Type 0 where
  pub bad_length : length weights ≢ length keys → (code ≡ codes.bad_length) × (new ≡ old) × (after ≡ before)
  pub bad_key : length weights ≡ length keys → (¬ IsStrictlyIncreasing keys) → (code ≡ codes.bad_key) × (new ≡ old) × (after ≡ before)
  pub lists : length weights ≡ length keys → IsStrictlyIncreasing keys → ListsPage (changes_since keys weights old from) before after old new code
