-- Which plan of rounds a memory has room for. For 6 bits and 2 handles with 64 updates each, which is `least_plan 2`, each of the three tables has `127 + 2 +
-- 5 * (69 + 768)` words, so 103,536 bytes are enough and 103,535 are not.
use Rattle.std.specs.Prelude.{◌≡◌, ◌⊎◌, ℕ, ◌+◌, ◌*◌, ◌^◌, ◌≤◌}
use Rattle.aug_core.specs.Layout.{IsLayout}
use Rattle.aug_core.specs.Places.{shape_of, word_count}
use Rattle.aug_live.specs.declared.plan.Plan.{Plan}

-- a table of this plan, for the full set of keys of `bits` bits, can be laid out, there are three of them, and their words of 8 bytes take at most `memory` bytes
pub record Fits (bits memory : ℕ) (plan : Plan) : Type 0 where
  pub laid_out : IsLayout (shape_of bits plan.lanes plan.updates (2 ^ bits))
  pub bytes : 24 * word_count (shape_of bits plan.lanes plan.updates (2 ^ bits)) ≤ memory
  pub three : plan.tables ≡ 3

-- the greatest plan for so many handles: one more lane does not fit with 256 updates of each, and then one more update of each lane does not. Each lane has
-- 64 updates or more, and there are more lanes than handles only if each has 256
pub record IsGreatest (bits handles memory : ℕ) (plan : Plan) : Type 0 where
  pub enough : handles ≤ plan.lanes
  pub least : 64 ≤ plan.updates
  pub fits : Fits bits memory plan
  pub no_lane : ¬ Fits bits memory (record { lanes = plan.lanes + 1; updates = 256; tables = 3 })
  pub no_update : ¬ Fits bits memory (record { lanes = plan.lanes; updates = plan.updates + 1; tables = 3 })
  pub spare : (plan.lanes ≡ handles) ⊎ (256 ≤ plan.updates)

-- the plan with a lane for each handle, 64 updates of each, and three tables
abbrev pub least_plan : ℕ → Plan
least_plan handles = record { lanes = handles; updates = 64; tables = 3 }

-- so many bytes suit a trie of so many handles: its least plan fits, and they are no more than any three tables may take
pub record Suits (bits handles memory : ℕ) : Type 0 where
  pub enough : Fits bits memory (least_plan handles)
  pub not_more : memory ≤ 3 * 2 ^ 29
