-- What the program does with its input, its standard output and its standard error. With `--help` the text of help is on the output, and the errors
-- are unchanged; only this stop has the status 0.
use Rattle.std.specs.Prelude.{◌≡◌, ℕ, ◌<◌, ◌⊎◌, ⊤, List, [], Option, Ok, Err, IfSome, length}
use Rattle.aug_script.specs.Devices.{SinkState, Writes, WritesBeginning}
use Rattle.aug_script.specs.Limits.{Bounds}
use Rattle.aug_script.specs.declared.report.Report.{Report}
use Rattle.aug_script.specs.declared.script_round.ScriptRound.{ScriptRound}
use Rattle.aug_command.specs.Reading.{script_limit}
use Rattle.aug_run.specs.Runs.{Prints, ReadsAs, RunsInPart}
use Rattle.aug_command.specs.declared.run_error.RunError.{RunError}
use Rattle.aug_command.specs.declared.run_error.RunError.TheVariants as run

-- a text was given to a sink: all of it went out and then `finish` was called, or the sink failed after a prefix of it went out
abbrev pub ShowsText : SinkState → SinkState → List ℕ → Type 0
ShowsText old new text = Writes old new text 1 ⊎ WritesBeginning old new text

-- why a run of the script with these bytes failed, if they are known, and what went out: if memory was refused, nothing or the reports of the first
-- rounds
abbrev pub FailsBy : Bounds → SinkState → SinkState → Option (List ℕ) → RunError → Type 0
FailsBy limits old new bytes (run.Script fault) = IfSome bytes (λ known. ReadsAs limits known (Err fault))
FailsBy limits old new bytes run.Input = ⊤
FailsBy limits old new bytes run.Output = IfSome bytes (RunsInPart limits old new)
FailsBy limits old new bytes run.OutOfMemory = (new ≡ old) ⊎ IfSome bytes (λ known.
    (rounds : List ScriptRound) × ReadsAs limits known (Ok rounds) × (reports : List Report) × Prints limits rounds reports [] old new)
FailsBy limits old new bytes run.TooLong = IfSome bytes (λ known. script_limit < length known)
