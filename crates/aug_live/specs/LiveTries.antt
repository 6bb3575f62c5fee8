-- What contracts see of a live trie, and what its calls do. `Closes` is the headline of a live trie. The example is opened with two handles; one puts
-- 0 in and comes back, the round rolls over, and the other takes 3 out and comes back. If nobody does more, `close` gives 0 and 1 with two rounds,
-- one insertion, one removal, two handles and none missing. If the second handle is dropped after its removal, the set is the same, and one handle is
-- missing, of which the chain knows that 3 went out through it. A `close` with 1 and 3, or with counts of another life, has no such ledgers.
use Rattle.std.specs.Prelude.{◌≡◌, ℕ, ◌+◌, ◌≤◌, List, [], ◌∷◌, length, All, Bool, true, not, ◌++◌, map, filter, flat_map}
use Rattle.std.specs.List.{sum_by}
use mathlib.Core.Option.{some}
use lib.ListN.{get_elem?}
use Rattle.atomic_table.specs.Seated.{TableId}
use Rattle.aug_model.specs.Keys.{SetFacts}
use Rattle.aug_core.specs.Cuts.{opening_cut}
use Rattle.aug_core.specs.Prefixes.{IsPrefix}
use Rattle.aug_core.specs.declared.view.Change.{Change}
use Rattle.aug_trie.specs.Chains.{Chapter, Chain, chapters, IsPart}
use Rattle.aug_trie.specs.History.{last_cut}
use Rattle.aug_trie.specs.Knowledge.{inserts_of, removals_of}
use Rattle.aug_trie.specs.Tallies.{Tallies, Weighs}
use Rattle.aug_live.specs.Carrying.{Leads}
use Rattle.aug_live.specs.Ledgers.{Made, made_in}
use Rattle.aug_live.specs.declared.counts.LiveCounts.{LiveCounts}

-- a handle that is done: whether it came back, and what was made through it
abbrev pub Done : Type 0
Done = Bool × List Made

-- a lane: an identity of its own, the number of its last handle, whether that did not come back yet, and those of its handles that are done, one after another
pub record LaneKnown : Type 0 where
  pub id : TableId
  pub number : ℕ
  pub is_out : Bool
  pub done : List Done

-- a lane may get newer handles, and more of them are done
pub record LaneGoesOn (old new : LaneKnown) : Type 0 where
  pub id : new.id ≡ old.id
  pub number : old.number ≤ new.number
  pub done : IsPrefix old.done new.done

abbrev pub LanesGoOn : List LaneKnown → List LaneKnown → Type 0
LanesGoOn [] [] = Unit {0}
LanesGoOn [] (y ∷ ys) = ⊥
LanesGoOn (x ∷ xs) [] = ⊥
LanesGoOn (x ∷ xs) (y ∷ ys) = LaneGoesOn x y × LanesGoOn xs ys

-- a live trie as whoever has an end of its desk knows it: whether it was closed, its table, the bits of its keys, its lanes, how many of them a roll-over that is
-- not over has taken, how many handles were made of it, and its rounds, as far as they are known
pub record TrieFacts : Type 0 where
  pub closed : Bool
  pub table : TableId
  pub bits : ℕ
  pub lanes : List LaneKnown
  pub held : ℕ
  pub given : ℕ
  pub rounds : Chain

-- the identities of its lanes, which are those that each of its handles knows
abbrev pub ids_of : TrieFacts → List TableId
ids_of trie = map (λ (lane : LaneKnown). lane.id) trie.lanes

-- it is the same trie, which is not opened again, and all that was known of its rounds is known still
pub record KnowsMore (old new : TrieFacts) : Type 0 where
  pub closed : old.closed ≡ true → new.closed ≡ true
  pub table : new.table ≡ old.table
  pub bits : new.bits ≡ old.bits
  pub lanes : LanesGoOn old.lanes new.lanes
  pub part : IsPart old.rounds new.rounds

-- and no handle was made of it
pub record KeepsHandles (old new : TrieFacts) : Type 0 where
  pub more : KnowsMore old new
  pub given : new.given ≡ old.given

-- a trie that was just opened over a set
pub record IsOpenedTrie (set : SetFacts) (handles : ℕ) (trie : TrieFacts) : Type 0 where
  pub given : trie.given ≡ handles
  pub bits : trie.bits ≡ set.bits
  pub lane_count : length trie.lanes ≡ handles
  pub none_done : All (λ (lane : LaneKnown). lane.done ≡ []) trie.lanes
  pub none_before : trie.rounds.past ≡ []
  pub members : trie.rounds.now.members ≡ set.pairs

-- a handle came back, through which this was made: it is the last of a lane's handles that are done, and was none of them before
pub record CameBack (made : List Made) (old new : TrieFacts) : Type 0 where
  pub number : ℕ
  pub lane : LaneKnown
  pub later : LaneKnown
  pub was : get_elem? old.lanes number ≡ some lane
  pub is : get_elem? new.lanes number ≡ some later
  pub before : List Done
  pub goes_on : IsPrefix lane.done before
  pub done : later.done ≡ before ++ (true, made) ∷ []

-- the changes are all that happened in a round, and its weights come from them
pub record AreChangesOf (bits : ℕ) (round : Chapter) (changes : List Change) : Type 0 where
  pub tally : Tallies (opening_cut bits round.members) (last_cut round.history) changes
  pub weigh : All (Weighs (opening_cut bits round.members) changes) round.history

-- for each of the rounds, of which the first has this number: what was made in it is all that happened in it
abbrev pub AreMadeIn : ℕ → ℕ → List Chapter → List Made → Type 0
AreMadeIn bits era [] made = Unit {0}
AreMadeIn bits era (x ∷ xs) made = AreChangesOf bits x (made_in era made) × AreMadeIn bits (era + 1) xs made

-- a number of the changes of each of these rounds, summed up
abbrev pub in_all : (List Change → ℕ) → ℕ → List Chapter → List Made → ℕ
in_all count era [] made = 0
in_all count era (x ∷ xs) made = count (made_in era made) + in_all count (era + 1) xs made

-- what was made is all that happened in these rounds, and these are its counts
pub record AreCountsOf (bits : ℕ) (rounds : List Chapter) (made : List Made) (inserts removals : ℕ) : Type 0 where
  pub all : AreMadeIn bits 1 rounds made
  pub inserts_are : inserts ≡ in_all inserts_of 1 rounds made
  pub removals_are : removals ≡ in_all removals_of 1 rounds made

-- what was made through the handles of a lane that are done
abbrev pub made_through : List Done → List Made
made_through done = flat_map (λ (d : Done). d.1) done

-- those of them that did not come back
abbrev pub lost_of : List Done → List Done
lost_of done = filter (λ (d : Done). not d.0) done

-- a trie is closed, with which all of its handles are done, and there are as many as were made of it: its rounds are those that were known, or more, each over the
-- set that the one before ended with; the set is that with which the last one ended; what happened in each round is what was made in it through the handles,
-- and nothing else; and the counts are those of all that, of the handles, and of those that did not come back
pub record Closes (trie : TrieFacts) (set : SetFacts) (counts : LiveCounts) : Type 0 where
  pub rounds : Chain
  pub part : IsPart trie.rounds rounds
  pub bits : set.bits ≡ trie.bits
  pub led : Leads trie.bits (chapters rounds) set.pairs
  pub rounds_are : counts.rounds ≡ length (chapters rounds)
  pub lanes : List LaneKnown
  pub lanes_go_on : LanesGoOn trie.lanes lanes
  pub counted : AreCountsOf trie.bits (chapters rounds) (flat_map (λ (lane : LaneKnown). made_through lane.done) lanes) counts.inserts counts.removals
  pub given_are : counts.handles ≡ trie.given
  pub handles_are : counts.handles ≡ sum_by (λ (lane : LaneKnown). length lane.done) lanes
  pub missing_are : counts.missing ≡ sum_by (λ (lane : LaneKnown). length (lost_of lane.done)) lanes
