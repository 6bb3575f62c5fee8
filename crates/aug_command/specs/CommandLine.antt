-- The command line, as the crate `clap` reads it. `--bits 17` is a fault by the rule of `--bits`, and so is a second FILE. `--bits 16 --workers 64
-- --updates 65536` has no fault, and asks for too much. The parser's model of a command line is believed with this.
use Rattle.std.specs.Prelude.{◌≡◌, ◌≢◌, ◌<◌, ◌^◌, ℕ, pos, true, List, [], ◌∷◌, ⊤, Option, Some, option_map, string_bytes, codes}
use Rattle.std.specs.Str.Parse.{digits_value, without_leading_plus}
use Rattle.clap.specs.Words.{App, IsAmong, Row, Rule, Text, fault_of, first_of, matches_of, new_app, new_rule, one_of}
use Rattle.clap.specs.declared.builder.action.ArgAction.TheVariants.{Set}
use Rattle.clap.specs.declared.builder.value_parser.ValueParser.TheVariants.{Signed}
use Rattle.clap.specs.declared.error.kind.ErrorKind.{ErrorKind}
use Rattle.clap.specs.declared.error.kind.ErrorKind.TheVariants.{DisplayHelp}
use Rattle.aug_script.specs.Limits.{Bounds, words_of}
use Rattle.aug_command.specs.declared.command_line.options.Options.{Options}
use Rattle.aug_command.specs.declared.command_line.stop.Stop.{Stop}
use Rattle.aug_command.specs.declared.command_line.stop.Stop.TheVariants as stop

-- an option `--name` that takes a number from 1 to `most`, and has a default
abbrev pub number_rule : Text → ℕ → Text → Rule
number_rule name most default = record (new_rule name) {
  long = Some name;
  action = Some Set;
  value_names = 1;
  defaults = default ∷ [];
  parser = Some (Signed (pos 1) (pos most));
}

-- `augtrie [--bits H] [--workers W] [--updates U] [FILE]`, without the program's own name among the words
abbrev pub program : App
program = record (new_app (codes "augtrie")) {
  top = record (new_app (codes "augtrie")).top {
    no_binary_name = true;
    rules = number_rule (codes "bits") 16 (codes "4") ∷ number_rule (codes "workers") 64 (codes "1") ∷ number_rule (codes "updates") 65536 (codes "64")
        ∷ new_rule (codes "FILE") ∷ [];
  };
}

-- the number that was found for the option of this name
abbrev pub number_given : Text → List Row → Option ℕ
number_given name rows = option_map (λ text. digits_value 10 (without_leading_plus text)) (one_of name rows)

-- these numbers were found
pub record FindsLimits (rows : List Row) (limits : Bounds) : Type 0 where
  pub bits : number_given (codes "bits") rows ≡ Some limits.bits
  pub workers : number_given (codes "workers") rows ≡ Some limits.workers
  pub updates : number_given (codes "updates") rows ≡ Some limits.updates

-- what was found, as options
abbrev pub IsReadFrom : List Row → Options → Type 0
IsReadFrom rows options = FindsLimits rows options.limits × (option_map string_bytes options.file ≡ first_of (codes "FILE") rows)

-- what was found asks for rounds whose table would have too many words
abbrev pub AsksTooMuch : List Row → Type 0
AsksTooMuch rows = (limits : Bounds) × FindsLimits rows limits × (2 ^ 26 < words_of limits)

-- an answer to words that are no options: they ask for help, something else is wrong with them, or their only fault is that they ask for too much
abbrev pub IsStopFor : List Text → Stop → Type 0
IsStopFor words (stop.Help text) = IsAmong DisplayHelp (fault_of program words)
IsStopFor words (stop.Usage text) = (fault : ErrorKind) × IsAmong fault (fault_of program words) × (fault ≢ DisplayHelp)
IsStopFor words stop.TooLarge = (fault_of program words ≡ []) × AsksTooMuch (matches_of program words)
IsStopFor words stop.OutOfMemory = ⊤
