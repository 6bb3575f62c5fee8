-- A round whose rows are all of one lane. It has one report, that of its rows run one after another, and rounds of one lane each have one list of
-- them (`one_list`). The program's promise names neither.
use Rattle.std.specs.Prelude.{◌≡◌, ℕ, ◌+◌, ◌<◌, List, [], ◌∷◌, All}
use Rattle.aug_script.specs.Replies.{opening_sets, report_of, sets_of}
use Rattle.aug_script.specs.declared.report.Report.{Report}
use Rattle.aug_script.specs.declared.row.Row.{Row}
use Rattle.aug_script.specs.declared.script_round.ScriptRound.{ScriptRound}

-- if all rows are of one lane, they have one report: that of an opening look and these rows, run one after another; and one closing set
abbrev pub IsInTurn : ℕ → ℕ → List (ℕ × ℕ) → List Row → Report → List (ℕ × ℕ) → Type 0
IsInTurn workers number members rows report closing = (lane : ℕ) → lane < workers → All (λ row. row.lane ≡ lane) rows
    → (report ≡ report_of number members rows) × (closing ≡ (sets_of (opening_sets members) rows).live)

-- all rows of a round are of one lane
abbrev pub OfOneLane : ℕ → ScriptRound → Type 0
OfOneLane workers round = (lane : ℕ) × (lane < workers) × All (λ row. row.lane ≡ lane) round.rows

-- the reports of rounds of one lane each. The first round has this number and begins with a set of these members, and each further one continues from
-- the set that the previous one left
abbrev pub reports_of : ℕ → List (ℕ × ℕ) → List ScriptRound → List Report
reports_of number members [] = []
reports_of number members (round ∷ rest) =
    report_of number members round.rows ∷ reports_of (number + 1) (sets_of (opening_sets members) round.rows).live rest
