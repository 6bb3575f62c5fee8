-- What the private parts of the reader of the command line answer if it ends the program.
use Rattle.std.specs.Prelude.{◌≡◌, ◌≢◌, List, ⊤}
use Rattle.clap.specs.Words.{Row}
use Rattle.clap.specs.declared.error.kind.ErrorKind.{ErrorKind}
use Rattle.clap.specs.declared.error.kind.ErrorKind.TheVariants.{DisplayHelp}
use Rattle.aug_command.specs.CommandLine.{AsksTooMuch}
use Rattle.aug_command.specs.declared.command_line.stop.Stop.{Stop}
use Rattle.aug_command.specs.declared.command_line.stop.Stop.TheVariants as stop

-- an answer to an error of the parser of this kind
abbrev pub TellsOf : ErrorKind → Stop → Type 0
TellsOf kind (stop.Help text) = kind ≡ DisplayHelp
TellsOf kind (stop.Usage text) = kind ≢ DisplayHelp
TellsOf kind stop.TooLarge = ⊥
TellsOf kind stop.OutOfMemory = ⊤

-- an answer to what the parser found
abbrev pub StopsReading : List Row → Stop → Type 0
StopsReading rows stop.TooLarge = AsksTooMuch rows
StopsReading rows stop.OutOfMemory = ⊤
StopsReading rows other = ⊥
