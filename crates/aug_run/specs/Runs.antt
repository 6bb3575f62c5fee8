-- The result of a run of a whole script. Some reports went out whole (`Prints`): followed by others, they are reports that the first rounds may have.
-- In `RunsWhole` there are no others, and as many reports as rounds; in `RunsInPart` there is one other report, and a prefix of it went out. A script
-- of blank lines has no rounds and prints nothing; `0,look` prints two lines, and `*,end` one.
use Rattle.std.specs.Prelude.{◌≡◌, ℕ, ◌≤◌, List, [], ◌∷◌, ◌++◌, length, map, take, Result, Ok}
use Rattle.std.specs.List.{concat}
use Rattle.aug_script.specs.Devices.{SinkState, Writes, WritesBeginning}
use Rattle.aug_script.specs.Limits.{Bounds}
use Rattle.aug_script.specs.ReportText.{report_text}
use Rattle.aug_script.specs.Script.{rounds_of}
use Rattle.aug_script.specs.declared.report.Report.{Report}
use Rattle.aug_script.specs.declared.script_round.ScriptRound.{ScriptRound}
use Rattle.aug_script.specs.declared.script_error.ScriptError.{ScriptError}
use Rattle.aug_command.specs.Reading.{script_limit}
use Rattle.aug_report.specs.AllowedReport.{AllowedReports}

-- what reports print, one after another
abbrev pub texts_of : List Report → List ℕ
texts_of reports = concat (map report_text reports)

-- the bytes are no more than a script may have, and read as these rounds or as this fault
abbrev pub ReadsAs : Bounds → List ℕ → Result (List ScriptRound) ScriptError → Type 0
ReadsAs limits bytes read = (length bytes ≤ script_limit) × (rounds_of limits bytes ≡ read)

-- the first of these rounds, counted from 1 and from the empty set on, may have `reports` followed by `others`. All of `reports`, and none of
-- `others`, went out whole, and `finish` was called once for each
pub record Prints (limits : Bounds) (rounds : List ScriptRound) (reports others : List Report) (old new : SinkState) : Type 0 where
  pub may_have : AllowedReports limits.workers 1 [] (take (length (reports ++ others)) rounds) (reports ++ others)
  pub wrote : Writes old new (texts_of reports) (length reports)

-- the bytes are a script without a fault, and reports of all its rounds were printed
abbrev pub RunsWhole : Bounds → SinkState → SinkState → List ℕ → Type 0
RunsWhole limits old new bytes =
    (rounds : List ScriptRound) × ReadsAs limits bytes (Ok rounds) × (reports : List Report) × Prints limits rounds reports [] old new × (length reports ≡ length rounds)

-- the same, but only for its first rounds, and a prefix of the next report went out
abbrev pub RunsInPart : Bounds → SinkState → SinkState → List ℕ → Type 0
RunsInPart limits old new bytes =
    (rounds : List ScriptRound) × ReadsAs limits bytes (Ok rounds) × (reports : List Report) × (broken : Report) × (between : SinkState)
    × Prints limits rounds reports (broken ∷ []) old between × WritesBeginning between new (report_text broken)
