-- What lies in a lane, what the passes of its lock know, and the rule between them.
use Rattle.std.specs.Prelude.{◌≡◌, ◌≢◌, ◌⊎◌, ℕ, ◌+◌, ◌<◌, ◌≤◌, List, [], ◌∷◌, ◌++◌, length, drop, Option, Some, None, unwrap_or, Bool, true, false}
use mathlib.Core.Option.{some}
use lib.ListN.{get_elem?}
use Rattle.aug_core.specs.Places.{shape_of}
use Rattle.aug_trie.specs.Chains.{Chapter}
use Rattle.aug_trie.specs.Pass.{PassFacts}
use Rattle.aug_trie.specs.Round.{RoundFacts, table_of}
use Rattle.aug_core.specs.Prefixes.{IsPrefix}
use Rattle.atomic_table.specs.Seated.{TableId}
use Rattle.aug_live.specs.Ledgers.{Made, dated}
use Rattle.aug_live.specs.LiveHandles.{HandleFacts, IsSuccessor, WhoFacts, Follows, Runs, added}
use Rattle.aug_live.specs.LiveTries.{Done, LaneKnown, TrieFacts, made_through}
use Rattle.aug_live.specs.declared.lane.Obstacle.{Obstacle}
use Rattle.aug_live.specs.declared.lane.Obstacle.TheVariants.{Held, Round, Replaced}
use Rattle.aug_live.specs.declared.known.Whose.{Whose}
use Rattle.aug_live.specs.declared.known.Whose.TheVariants.{Alone, Roller, Free, Idle, Handle, Gone}

-- a pass that there is not
abbrev pub no_half : PassFacts
no_half = record {
  round = record {
    table = record { words = 0; slots = 0; views_name = 0; atom = 0; block = 0; offset = 0; slot_names = [] };
    era = 0;
    bits = 0;
    members = [];
    workers = 0;
    updates = 0;
    room = 0;
  };
  past = [];
  lane = 0;
  knows = record { history = []; accepted = [] };
  numbers = [];
  spent = 0;
  steps = [];
  words = record { shape = shape_of 0 0 0 0; book = [] };
}

-- what a lane's pass knows, if there is a lane
abbrev pub half_in : Option PassFacts → PassFacts
half_in None = no_half
half_in (Some half) = half

-- a trie of which nothing is known, and a handle of it
abbrev pub no_trie : TrieFacts
no_trie = record { closed = false; table = no_half.round.table; bits = 0; lanes = []; held = 0; given = 0; rounds = record { past = []; now = record { members = []; history = [] } } }

abbrev pub nobody : WhoFacts
nobody = record { trie = no_trie; lane = 0; number = 0; replaced = false }

-- where a lane stands, that of which a handle knows what it left there: which handle it is and what was made through it are no part of that
abbrev pub stands : ℕ → PassFacts → HandleFacts
stands era half = record { who = nobody; era = era; half = half; made = [] }

abbrev pub nothing_known : HandleFacts
nothing_known = stands 0 no_half

-- an era has the number of its round in its table, which counts from 0
abbrev pub IsDated : ℕ → PassFacts → Type 0
IsDated era half = 0 < era → era ≡ half.round.era + 1

-- a lane: whether a pass of its round lies in it, and not only what the last one knew; the number of its handle, and whether that is out; and where it stands
pub record LaneFacts : Type 0 where
  pub works : Bool
  pub number : ℕ
  pub is_out : Bool
  pub at : HandleFacts

-- no pass of its round lies in the lane, or one that has fewer updates left than so many
abbrev pub LacksUpdates : ℕ → LaneFacts → Type 0
LacksUpdates least lane = (lane.works ≡ false) ⊎ (lane.at.half.round.updates < lane.at.half.spent + least)

-- a pass of a lane's lock: whose it is; the number of the lane's handle; whether it saw that the lane has a newer one; the lane as it put it back; the handles of the
-- lane that are done. The roller's knows what was made with the passes that are back at their crew, and the handle's what was made through it
pub record KnownFacts : Type 0 where
  pub whose : Whose
  pub number : ℕ
  pub replaced : Bool
  pub works : Bool
  pub at : HandleFacts
  pub done : List Done
  pub before : List Made
  pub made : List Made

-- a pass that knows nothing: the first one, and one that another took in
abbrev pub knows_nothing : Whose → KnownFacts
knows_nothing whose = record { whose = whose; number = 0; replaced = false; works = false; at = nothing_known; done = []; before = []; made = [] }

-- whether a pass is the roller's
abbrev pub rolls : Whose → Bool
rolls Alone = true
rolls Roller = true
rolls Free = true
rolls Idle = true
rolls Handle = false
rolls Gone = false

-- the round of a pass, and those before
abbrev pub rounds_at : PassFacts → RoundFacts × List Chapter
rounds_at pass = (pass.round, pass.past)

-- all that was made through a lane: with the passes that are back, and with the one that lies there
abbrev pub made_at : List Made → HandleFacts → List Made
made_at before at = before ++ dated at.era at.half.knows.accepted

-- what was made through a lane begins with what was made through the handles that are done, and that is all where the last one is
pub record IsWhole (v : KnownFacts) (at : HandleFacts) : Type 0 where
  pub own : List Made
  pub whole : made_at v.before at ≡ made_through v.done ++ own
  pub none_out : v.whose ≢ Roller → own ≡ []

-- the roller knows the lane's round, its handle's number and whether that is out, and whether it has a pass; where it has none, it knows what the last one knew. It
-- knows what was made with the passes that are back, and that this begins with what was made through the handles that are done; where the last one is, that is all
pub record Rolls (v : KnownFacts) (before : List Made) (lane : LaneFacts) : Type 0 where
  pub era : lane.at.era ≡ v.at.era
  pub number : lane.number ≡ v.number
  pub round : rounds_at lane.at.half ≡ rounds_at v.at.half
  pub works : lane.works ≡ v.works
  pub half : lane.works ≡ false → lane.at.half ≡ v.at.half
  pub idle : v.whose ≡ Idle → lane.is_out ≡ false
  pub out : v.whose ≢ Idle → lane.is_out ≡ true
  pub before_is : before ≡ v.before
  pub whole : IsWhole v lane.at
  pub alone : v.whose ≡ Alone → lane.at ≡ v.at

-- a handle whose number the lane has knows that the lane follows on what it left there, at the same table, and what was made through it; where it saw that the
-- lane has a newer one, the lane does
pub record HasLane (v : KnownFacts) (before : List Made) (lane : LaneFacts) : Type 0 where
  pub follows : v.number ≡ lane.number → Follows v.at lane.at
  pub table : v.number ≡ lane.number → table_of lane.at.half.round ≡ table_of v.at.half.round
  pub whole : v.number ≡ lane.number → made_at before lane.at ≡ made_through v.done ++ v.made
  pub replaced : v.replaced ≡ true → v.number ≢ lane.number

-- what a pass knows of the lane that it takes
pub record KnowsLane (v : KnownFacts) (before : List Made) (lane : LaneFacts) : Type 0 where
  pub as_roller : rolls v.whose ≡ true → 0 < v.at.era → Rolls v before lane
  pub as_handle : v.whose ≡ Handle → 0 < v.at.era → HasLane v before lane
  pub not_newer : v.whose ≡ Handle → v.number ≤ lane.number
  pub unopened : v.whose ≡ Alone → v.at.era ≡ 0 → lane.number ≡ 0

-- of two passes at most one is the roller's; of a handle that has the roller's number both know the same handles to be done, and no other has that number
pub record Beside (v w : KnownFacts) : Type 0 where
  pub one_roller : rolls v.whose ≡ true → rolls w.whose ≡ true → ⊥
  pub out : rolls v.whose ≡ true → w.whose ≡ Handle → w.number ≡ v.number → (v.whose ≡ Roller) × (w.done ≡ v.done)
  pub apart : v.whose ≡ Handle → w.whose ≡ Handle → v.number ≢ w.number

-- the rule of a lane's lock: there is a list of what was made with the passes that are back
pub record Ties (lane : LaneFacts) (views : List KnownFacts) : Type 0 where
  pub before : List Made
  pub pairs : (i j : ℕ) (v w : KnownFacts) → i ≢ j → get_elem? views i ≡ some v → get_elem? views j ≡ some w → Beside v w
  pub known : (j : ℕ) (v : KnownFacts) → get_elem? views j ≡ some v → KnowsLane v before lane

-- what a pass learns that takes the lane
pub record Learnt (v : KnownFacts) (lane : LaneFacts) : Type 0 where
  pub before : List Made
  pub knows : KnowsLane v before lane

-- what a handle makes of a lane: nothing if no pass lies in it, and else it leaves a pass of the same round, which accepted more changes at most
pub record Worked (old new : LaneFacts) : Type 0 where
  pub era : new.at.era ≡ old.at.era
  pub number : new.number ≡ old.number
  pub is_out : new.is_out ≡ old.is_out
  pub round : rounds_at new.at.half ≡ rounds_at old.at.half
  pub works : new.works ≡ old.works
  pub at_rest : old.works ≡ false → new.at.half ≡ old.at.half
  pub accepts : IsPrefix old.at.half.knows.accepted new.at.half.knows.accepted

-- what a handle's pass knows that puts a lane back
abbrev pub worked : KnownFacts → LaneFacts → LaneFacts → KnownFacts
worked v old new = record v { works = new.works; at = new.at; made = v.made ++ dated new.at.era (added old.at.half new.at.half) }

-- what a handle's knows that found a newer one in its lane
abbrev pub passed_by : KnownFacts → KnownFacts
passed_by v = record v { replaced = true }

-- what the roller's knows: if the same pass lies in the lane, or none now; and if a new one does, which accepted nothing yet
abbrev pub left : KnownFacts → LaneFacts → KnownFacts
left v new = record v { works = new.works; at = new.at }

abbrev pub dealt : KnownFacts → LaneFacts → LaneFacts → KnownFacts
dealt v old new = record v { works = new.works; at = new.at; before = made_at v.before old.at }

-- the handles that are done if a lane gets another one: its last one too, if it did not come back
abbrev pub done_if : Whose → List Done → List Made → List Done
done_if Roller done own = done ++ (false, own) ∷ []
done_if Alone done own = done
done_if Free done own = done
done_if Idle done own = done
done_if Handle done own = done
done_if Gone done own = done

abbrev pub done_with : KnownFacts → HandleFacts → List Done
done_with v at = done_if v.whose v.done (drop (length (made_through v.done)) (made_at v.before at))

-- what the roller's knows if the lane gets a number that no handle has
abbrev pub renumbered : KnownFacts → LaneFacts → KnownFacts
renumbered v new = record { whose = Alone; number = new.number; replaced = false; works = new.works; at = new.at; done = done_with v new.at; before = v.before; made = [] }

-- the pass that is alone makes a handle's, and becomes the roller's beside that
abbrev pub given_out : KnownFacts → KnownFacts
given_out v = record v { whose = Roller }

abbrev pub handed : KnownFacts → KnownFacts
handed v = record v { whose = Handle; replaced = false; before = []; made = [] }

-- what the roller's knows that marks a lane whose handle came back
abbrev pub settled : KnownFacts → LaneFacts → KnownFacts
settled v new = record v { whose = Idle; works = new.works; at = new.at }

-- the roller's takes in the handle's: the handle is done
abbrev pub taken_in : KnownFacts → KnownFacts → KnownFacts
taken_in v w = record v { whose = Free; done = v.done ++ (true, w.made) ∷ [] }

-- an end of a lane: its lock, and what its pass knows
pub record EndFacts : Type 0 where
  pub lock : TableId
  pub known : KnownFacts

-- an end that could not have its lane is as it was, but that it may have seen a newer handle there
pub record EndStays (old new : EndFacts) : Type 0 where
  pub same : new ≡ record old { known = record old.known { replaced = new.known.replaced } }
  pub seen : old.known.replaced ≡ true → new.known.replaced ≡ true

-- a newer handle is in the way only where one was seen
abbrev pub Seen : Obstacle → Bool → Type 0
Seen (Held missed) seen = Unit {0}
Seen (Round era) seen = Unit {0}
Seen Replaced seen = seen ≡ true

-- the same while it has the lane, as it took it
pub record OutFacts : Type 0 where
  pub lock : TableId
  pub known : KnownFacts
  pub taken : LaneFacts

abbrev pub taken_by : Option LaneFacts → LaneFacts
taken_by taken = unwrap_or taken record { works = false; number = 0; is_out = false; at = nothing_known }

-- which handle has this end of a lane, by what it knows of its trie and the lane's number
abbrev pub who_by : TrieFacts → ℕ → KnownFacts → WhoFacts
who_by trie lane known = record { trie = trie; lane = lane; number = known.number; replaced = known.replaced }

-- what a handle's end of its lane tells of it
abbrev pub handle_by : TrieFacts → ℕ → Option EndFacts → HandleFacts
handle_by trie lane None = record nothing_known { who = record nobody { trie = trie; lane = lane } }
handle_by trie lane (Some e) = record e.known.at { who = who_by trie lane e.known; made = e.known.made }

-- whether a handle is out, by whose the roller's pass is
abbrev pub is_out_by : Whose → Bool
is_out_by Alone = false
is_out_by Roller = true
is_out_by Free = false
is_out_by Idle = false
is_out_by Handle = false
is_out_by Gone = false

-- what the roller's end tells of its lane
abbrev pub lane_by : EndFacts → LaneKnown
lane_by e = record { id = e.lock; number = e.known.number; is_out = is_out_by e.known.whose; done = e.known.done }

-- a pass that does this in its round
pub record RunsHere (does : PassFacts → PassFacts → Type 0) (old new : HandleFacts) : Type 0 where
  pub same_era : new.era ≡ old.era
  pub done : does old.half new.half

-- it makes no update, and knows as much as before, or more
abbrev pub MakesNothing : PassFacts → PassFacts → Type 0
MakesNothing old new = IsSuccessor old new × (new.knows.accepted ≡ old.knows.accepted)

-- an end is that of the same handle still, and of a pass in the same table
pub record IsSameEnd (old new : EndFacts) : Type 0 where
  pub lock : new.lock ≡ old.lock
  pub whose : new.known.whose ≡ old.known.whose
  pub number : new.known.number ≡ old.known.number
  pub some_era : 0 < new.known.at.era
  pub together : table_of new.known.at.half.round ≡ table_of old.known.at.half.round
  pub bits : new.known.at.half.round.bits ≡ old.known.at.half.round.bits

-- whatever its handle knows of its trie, that runs an operation with it, or finds its lane where it can go on
abbrev pub EndRuns : (PassFacts → PassFacts → Type 0) → EndFacts → EndFacts → Type 0
EndRuns does old new = (trie : TrieFacts) (lane : ℕ) → Runs does (handle_by trie lane (Some old)) (handle_by trie lane (Some new))

abbrev pub EndFollows : EndFacts → EndFacts → Type 0
EndFollows old new = (trie : TrieFacts) (lane : ℕ) → Follows (handle_by trie lane (Some old)) (handle_by trie lane (Some new))
