-- Why a round does not begin, and why a crew hands no pass out. Each is printed by its name. A refusal of a round stands
-- for that of its layout with the same name.
use Rattle.std.specs.Prelude.{ℕ, List, codes}
use Rattle.aug_core.specs.declared.layout.LayoutError.{LayoutError}
use Rattle.aug_core.specs.declared.layout.LayoutError.TheVariants as layout
use Rattle.aug_trie.specs.declared.error.BeginError.{BeginError}
use Rattle.aug_trie.specs.declared.error.BeginError.TheVariants.{BadWorkers, BadUpdates, TooLarge, OutOfMemory, BadBits, Narrower}
use Rattle.aug_trie.specs.declared.error.CrewError.{CrewError}
use Rattle.aug_trie.specs.declared.error.CrewError.TheVariants.{NoLane}
use Rattle.aug_trie.specs.declared.error.LastingError.{LastingError}
use Rattle.aug_trie.specs.declared.error.LastingError.TheVariants as lasting

-- how a refusal is printed: by its name
abbrev pub begin_text : BeginError → List ℕ
begin_text BadWorkers = codes "BadWorkers"
begin_text BadUpdates = codes "BadUpdates"
begin_text TooLarge = codes "TooLarge"
begin_text OutOfMemory = codes "OutOfMemory"
begin_text BadBits = codes "BadBits"
begin_text Narrower = codes "Narrower"

abbrev pub crew_text : CrewError → List ℕ
crew_text NoLane = codes "NoLane"

abbrev pub lasting_text : LastingError → List ℕ
lasting_text lasting.NoLane = codes "NoLane"
lasting_text lasting.OutOfMemory = codes "OutOfMemory"
lasting_text lasting.Full = codes "Full"

-- the refusal for a table that cannot be laid out, which has the same name
abbrev pub begin_cause : LayoutError → BeginError
begin_cause layout.BadBits = BadBits
begin_cause layout.BadWorkers = BadWorkers
begin_cause layout.BadUpdates = BadUpdates
begin_cause layout.TooLarge = TooLarge
