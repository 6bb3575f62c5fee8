-- How much the program reads of its input: all of a script with 16,777,216 bytes, and none of one with a byte more.
use Rattle.std.specs.Prelude.{ℕ}

-- how many bytes a script may have
abbrev pub script_limit : ℕ
script_limit = 16777216
