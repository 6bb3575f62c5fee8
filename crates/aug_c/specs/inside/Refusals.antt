-- Which refusal a call of a live trie comes to.
use Rattle.std.specs.Prelude.{ℤ}
use Rattle.aug_live.specs.declared.error.Busy.{Busy}
use Rattle.aug_live.specs.declared.error.LiveError.{LiveError}
use Rattle.aug_live.specs.declared.error.LiveError.TheVariants as live
use Rattle.aug_live.specs.declared.error.TryError.{TryError}
use Rattle.aug_live.specs.declared.error.TryError.TheVariants as tried
use Rattle.aug_c.specs.Codes as codes
use Rattle.aug_c.specs.declared.refusal.CallRefusal.{CallRefusal}
use Rattle.aug_c.specs.declared.refusal.CallRefusal.TheVariants.{Again, Closed}

-- why a call that a live trie did not make was not made
abbrev pub refusal_of : TryError Busy → CallRefusal
refusal_of (tried.Again missed) = Again
refusal_of (tried.Refused cause) = Closed

-- the code of why a look was refused
abbrev pub refused_look : LiveError → ℤ
refused_look live.Closed = codes.closed
refused_look live.Exhausted = codes.closed
refused_look live.Replaced = codes.closed
refused_look live.NoLane = codes.closed
refused_look live.TooMany = codes.again
refused_look (live.Looking found) = codes.again

-- and why it was not taken
abbrev pub look_code : TryError Busy → ℤ
look_code (tried.Again missed) = codes.again
look_code (tried.Refused cause) = refused_look cause
