-- What a fault of a script is called, such as `row 3: BadArity`.
use Rattle.std.specs.Prelude.{ℕ, List, ◌++◌, codes, decimal}
use Rattle.aug_script.specs.declared.script_error.ScriptError.{ScriptError}
use Rattle.aug_script.specs.declared.script_error.ScriptError.TheVariants as script

-- the number of the faulty row, and the fault's name
abbrev pub row_text : ℕ → List ℕ → List ℕ
row_text row name = codes "row " ++ decimal row ++ codes ": " ++ name

-- what is wrong with a script
abbrev pub script_text : ScriptError → List ℕ
script_text (script.BadCsv row) = row_text row (codes "BadCsv")
script_text (script.BadLane row) = row_text row (codes "BadLane")
script_text (script.BadVerb row) = row_text row (codes "BadVerb")
script_text (script.BadArity row) = row_text row (codes "BadArity")
script_text (script.BadNumber row) = row_text row (codes "BadNumber")
script_text (script.OutOfRange row) = row_text row (codes "OutOfRange")
script_text (script.TooManyUpdates row) = row_text row (codes "TooManyUpdates")
script_text script.OutOfMemory = codes "memory"
script_text (script.BadPlace row) = row_text row (codes "BadPlace")
script_text (script.TooWide row) = row_text row (codes "TooWide")
