-- The line of each fault of the program, such as `augtrie: row 3: BadArity`, and the status that the program ends with. The parser's own texts are
-- written as they are.
use Rattle.std.specs.Prelude.{ℕ, List, ◌++◌, codes, string_bytes}
use Rattle.aug_script.specs.FaultText.{script_text}
use Rattle.aug_script.specs.declared.script_error.ScriptError.TheVariants as script
use Rattle.aug_command.specs.declared.run_error.RunError.{RunError}
use Rattle.aug_command.specs.declared.run_error.RunError.TheVariants as run
use Rattle.aug_command.specs.declared.command_line.stop.Stop.{Stop}
use Rattle.aug_command.specs.declared.command_line.stop.Stop.TheVariants as stop

-- the line of a fault: the program's name, a colon, a blank, and what is wrong
abbrev pub fault_line : List ℕ → List ℕ
fault_line text = codes "augtrie: " ++ text ++ codes "\n"

-- the status that a run's fault ends with (1 for the script, 3 for what could not be read or written, 4 for memory), and what is wrong
abbrev pub run_ending : RunError → ℕ × List ℕ
run_ending (run.Script script.OutOfMemory) = (4, codes "memory")
run_ending (run.Script fault) = (1, script_text fault)
run_ending run.Input = (3, codes "input")
run_ending run.Output = (3, codes "output")
run_ending run.OutOfMemory = (4, codes "memory")
run_ending run.TooLong = (1, codes "script too long")

-- the status if the command line ends the program (0 if help was requested, 2 for wrong words, 4 for memory), and the text that is written: the
-- parser's text as it is, or what `shown` makes of the fault's name
abbrev pub stop_ending : (List ℕ → List ℕ) → Stop → ℕ × List ℕ
stop_ending shown (stop.Help text) = (0, string_bytes text)
stop_ending shown (stop.Usage text) = (2, string_bytes text)
stop_ending shown stop.TooLarge = (2, shown (codes "TooLarge"))
stop_ending shown stop.OutOfMemory = (4, shown (codes "memory"))
