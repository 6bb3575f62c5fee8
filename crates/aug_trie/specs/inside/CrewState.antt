-- What the fields of a crew keep, and how what contracts see of it comes of them.
use Rattle.std.specs.Prelude.{◌≡◌, Bool, true, ℕ, ◌%◌, ◌^◌, ◌≤◌, Option, Some, unwrap_or, List, length}
use Rattle.aug_core.specs.Counts.{changes_of}
use Rattle.aug_core.specs.declared.view.SeatView.{SeatView}
use Rattle.aug_words.specs.Leads.{MayOpen}
use Rattle.aug_words.specs.Seats.{Known}
use Rattle.aug_core.specs.Effects.{KnowsBook}
use Rattle.aug_trie.specs.Knowledge.{inserts_of, removals_of}
use Rattle.aug_trie.specs.inside.Knows.{knows, KnowsRound}
use Rattle.aug_trie.specs.inside.RoundState.{round_of, past_rounds}
use Rattle.aug_trie.specs.Crew.{CrewFacts}

-- the crew whose seat knows this, and whether it knows of a part in which the next round can begin
abbrev pub crew_facts : Known → Bool → CrewFacts
crew_facts known free = record { round = round_of known.table known.view; past = past_rounds known.view.shape known.view.past; knows = knows known.view; steps = known.view.steps; handed = unwrap_or known.view.spare 0; back = length known.view.held; words = record { shape = known.view.shape; book = known.view.seen }; free = free }

module _ (face : ℕ → ℕ → List (ℕ × ℕ) → List ℕ) where
  -- the view of a lead that handed out `handed` lanes and took `back` passes back
  pub record IsCrew (v : SeatView) (handed back : ℕ) : Type 0 where
    pub keeps_records : v.shape.reservations ≡ 0
    pub knows_table : KnowsBook face v
    pub hands_out : v.spare ≡ Some handed
    pub took_back : length v.held ≡ back
    pub knowledge : KnowsRound v

-- what a crew's fields keep: its counters are those of its changes, in 32 bits
pub record HoldsCrew (face : ℕ → ℕ → List (ℕ × ℕ) → List ℕ) (v : SeatView) (back inserts removals : ℕ) : Type 0 where
  pub handed : ℕ
  pub is_crew : IsCrew face v handed (length v.held)
  pub few : handed ≤ v.shape.workers
  pub back_is : back ≡ length v.held % 2 ^ 32
  pub inserts_are : inserts ≡ inserts_of (changes_of v.held) % 2 ^ 32
  pub removals_are : removals ≡ removals_of (changes_of v.held) % 2 ^ 32

-- and a crew that has its lead, and knows of a part only if there is one
pub record HasCrew (face : ℕ → ℕ → List (ℕ × ℕ) → List ℕ) (lead : Option Known) (back inserts removals : ℕ) (free : Bool) : Type 0 where
  pub known : Known
  pub there : lead ≡ Some known
  pub holds : HoldsCrew face known.view back inserts removals
  pub opens : free ≡ true → MayOpen known
