-- How a script reads: its records are those of `csv`, and each is a row, the end of a round or more bits for the keys, or has the first fault of a
-- table. `written` is the one table of verbs: each has a word and arguments, in scripts as in reports. A record is read as the item among
-- `items_with` that is written with its word. `item_of`, `named_item` and `bounded_item` are the table of faults in the order in which the program
-- looks for them: `x,fly` has a bad lane and not a bad verb, and `1,fly` with one worker a bad verb, since the lane's bound comes later. By
-- `with_item` `0,look`, `*,end`, `0,size` are two rounds, of the first row and of the third, and `*,end` alone is one round with no rows. Only the
-- rows of the open round count against a lane's updates, and a row is judged by the bits in force at that row: a `grow` row changes those of the open
-- round and of all later ones.
use Rattle.std.specs.Prelude.{◌≡◌, ℕ, ◌+◌, ◌^◌, ◌<◌, ◌≤◌, ◌==◌, ◌&&◌, ◌||◌, not, nat_lt, nat_le, true, false, Bool, if◌then◌else◌, List, [], ◌∷◌, ◌++◌, length, drop, map, filter, find, slice_index_or, All, codes, Option, Some, None, Result, Ok, Err}
use Rattle.std.specs.Char.{is_ascii_digit}
use Rattle.std.specs.List.{list_all}
use Rattle.std.specs.Result.{result_flatten, result_map_both}
use Rattle.std.specs.Str.{bytes_eq}
use Rattle.std.specs.Str.Parse.{digits_value}
use Rattle.csv.specs.Reading.{default_config, strip_bom, records}
use Rattle.aug_script.specs.Limits.{Bounds, IsBounds, bounds_at, is_bounds}
use Rattle.aug_script.specs.declared.item.Item.{Item}
use Rattle.aug_script.specs.declared.item.Item.TheVariants as item
use Rattle.aug_script.specs.declared.row.Row.{Row}
use Rattle.aug_script.specs.declared.script_error.ScriptError.{ScriptError}
use Rattle.aug_script.specs.declared.script_error.ScriptError.TheVariants.{BadCsv, BadLane, BadVerb, BadArity, BadNumber, OutOfRange, TooManyUpdates, BadPlace, TooWide}
use Rattle.aug_script.specs.declared.script_round.ScriptRound.{ScriptRound}
use Rattle.aug_script.specs.declared.verb.Verb.{Verb}
use Rattle.aug_script.specs.declared.verb.Verb.TheVariants as verb

-- the records of a script's bytes, each a list of fields: a comma parts fields, and blank lines are no records
abbrev pub records_of : List ℕ → List (List (List ℕ))
records_of bytes = records default_config (strip_bom bytes)

-- every byte of every field is from 32 to 126
abbrev pub are_printable : List (List ℕ) → Bool
are_printable fields = list_all (λ field. list_all (λ b. nat_le 32 b && nat_le b 126) field) fields

-- 1 to 9 decimal digits
abbrev pub is_number : List ℕ → Bool
is_number field = nat_le 1 (length field) && nat_le (length field) 9 && list_all is_ascii_digit field

-- the number that the digits of the field at this place write, or 0 if it is no number
abbrev pub number_in : List (List ℕ) → ℕ → ℕ
number_in fields place = if is_number (slice_index_or fields place []) then digits_value 10 (slice_index_or fields place []) else 0

-- the field is `*`
abbrev pub is_star : List ℕ → Bool
is_star field = bytes_eq field (codes "*")

-- how a verb is written, in scripts and in reports: its word and its arguments
abbrev pub written : Verb → List ℕ × List ℕ
written (verb.Insert key) = (codes "insert", key ∷ [])
written (verb.Put key weight) = (codes "put", key ∷ weight ∷ [])
written (verb.Remove key) = (codes "remove", key ∷ [])
written verb.Look = (codes "look", [])
written (verb.Has key) = (codes "has", key ∷ [])
written (verb.Weight key) = (codes "weight", key ∷ [])
written verb.Size = (codes "size", [])
written (verb.Rank key) = (codes "rank", key ∷ [])
written (verb.Select index) = (codes "select", index ∷ [])
written (verb.Before key) = (codes "before", key ∷ [])
written (verb.After key) = (codes "after", key ∷ [])
written (verb.Range a b) = (codes "range", a ∷ b ∷ [])

-- every verb, with its arguments from these two numbers
abbrev pub verbs_with : ℕ → ℕ → List Verb
verbs_with a b = verb.Insert a ∷ verb.Put a b ∷ verb.Remove a ∷ verb.Look ∷ verb.Has a ∷ verb.Weight a ∷ verb.Size ∷ verb.Rank a ∷ verb.Select a ∷ verb.Before a ∷ verb.After a ∷ verb.Range a b ∷ []

-- the verb's arguments are within its bounds: keys of updates, of `has` and of `weight` below 2 ^ bits, arguments of other queries at
-- most 2 ^ bits, and a weight is any number
abbrev pub is_in_bounds : ℕ → Verb → Bool
is_in_bounds bits (verb.Insert key) = nat_lt key (2 ^ bits)
is_in_bounds bits (verb.Put key weight) = nat_lt key (2 ^ bits)
is_in_bounds bits (verb.Remove key) = nat_lt key (2 ^ bits)
is_in_bounds bits (verb.Has key) = nat_lt key (2 ^ bits)
is_in_bounds bits (verb.Weight key) = nat_lt key (2 ^ bits)
is_in_bounds bits query = list_all (λ n. nat_le n (2 ^ bits)) (written query).1

-- the verb is `insert`, `put` or `remove`
abbrev pub is_update : Verb → Bool
is_update (verb.Insert k) = true
is_update (verb.Put k w) = true
is_update (verb.Remove k) = true
is_update other = false

-- how many of the rows are updates of the lane
abbrev pub updates_of : ℕ → List Row → ℕ
updates_of lane rows = length (filter (λ row. (row.lane == lane) && is_update row.verb) rows)

-- how far a script was read: the number that the next row gets, the bits that keys have now, the rows of the round that is open, and the
-- rounds that were closed before it
pub record Progress : Type 0 where
  pub next : ℕ
  pub bits : ℕ
  pub rows : List Row
  pub closed : List ScriptRound

-- the round that is open
abbrev pub open_round : Progress → ScriptRound
open_round read = record { bits = read.bits; rows = read.rows }

-- one more item was read, and each takes a row's number: a row of the open round, the end of that round, or the bits that keys have from
-- the open round on
abbrev pub with_item : Progress → Item → Progress
with_item read (item.Row row) = record { next = read.next + 1; bits = read.bits; rows = read.rows ++ row ∷ []; closed = read.closed }
with_item read item.End = record { next = read.next + 1; bits = read.bits; rows = []; closed = read.closed ++ open_round read ∷ [] }
with_item read (item.Grow bits) = record { next = read.next + 1; bits = bits; rows = read.rows; closed = read.closed }

-- the rounds of what was read; an open round without rows is none
abbrev pub rounds_read : Progress → List ScriptRound
rounds_read read = read.closed ++ (if length read.rows == 0 then [] else open_round read ∷ [])

-- how an item is written after its lane: its word and its arguments
abbrev pub item_written : Item → List ℕ × List ℕ
item_written (item.Row row) = written row.verb
item_written item.End = (codes "end", [])
item_written (item.Grow bits) = (codes "grow", bits ∷ [])

-- the items that a record with this number may be read as: after `*` the end of a round and new bits, otherwise the rows of its lane
abbrev pub items_with : ℕ → List (List ℕ) → List Item
items_with number fields =
    if is_star (slice_index_or fields 0 []) then item.End ∷ item.Grow (number_in fields 2) ∷ []
    else map (λ asked. item.Row (record { row = number; lane = number_in fields 0; verb = asked })) (verbs_with (number_in fields 2) (number_in fields 3))

-- the item once its arguments are known, or the first fault of its bounds. For a row they are those of its lane and its arguments, and then
-- how many updates of its lane the open round may have. Bits never fall and are at most 16, no row of the open round came before, and a
-- round with these bits that opens with every key has a table
abbrev pub bounded_item : Bounds → Progress → Item → Result Item ScriptError
bounded_item limits read (item.Row row) =
    if not (nat_lt row.lane limits.workers && is_in_bounds read.bits row.verb) then Err (OutOfRange read.next)
    else if is_update row.verb && nat_le limits.updates (updates_of row.lane read.rows) then Err (TooManyUpdates read.next)
    else Ok (item.Row row)
bounded_item limits read item.End = Ok item.End
bounded_item limits read (item.Grow bits) =
    if not (nat_le read.bits bits && nat_le bits 16) then Err (OutOfRange read.next)
    else if not (length read.rows == 0) then Err (BadPlace read.next)
    else if not (is_bounds (bounds_at limits bits)) then Err (TooWide read.next)
    else Ok (item.Grow bits)

-- the item that the record's word names, if it names one, or the first fault of these arguments and of the item's bounds
abbrev pub named_item : Bounds → Progress → List (List ℕ) → Option Item → Result Item ScriptError
named_item limits read arguments None = Err (BadVerb read.next)
named_item limits read arguments (Some next) =
    if not (length arguments == length (item_written next).1) then Err (BadArity read.next)
    else if not (list_all is_number arguments) then Err (BadNumber read.next)
    else bounded_item limits read next

-- what the record that comes next is read as, or its first fault
abbrev pub item_of : Bounds → Progress → List (List ℕ) → Result Item ScriptError
item_of limits read fields =
    let lane = slice_index_or fields 0 [] in
    if not (are_printable fields) then Err (BadCsv read.next)
    else if not (is_number lane || is_star lane) then Err (BadLane read.next)
    else named_item limits read (drop 2 fields) (find (λ next. bytes_eq (slice_index_or fields 1 []) (item_written next).0) (items_with read.next fields))

-- what was read once these records were too, or the first faulty row's fault
unfoldable pub read_from : Bounds → Progress → List (List (List ℕ)) → Result Progress ScriptError
read_from limits read [] = Ok read
read_from limits read (fields ∷ rest) =
    result_flatten (result_map_both (λ next. read_from limits (with_item read next) rest) (λ fault. fault) (item_of limits read fields))

-- the rounds of a script's bytes, or the first faulty row's fault
abbrev pub rounds_of : Bounds → List ℕ → Result (List ScriptRound) ScriptError
rounds_of limits bytes = result_map_both rounds_read (λ fault. fault) (read_from limits (record { next = 1; bits = limits.bits; rows = []; closed = [] }) (records_of bytes))

-- rows can be run under the limits
pub record KeepsLimits (limits : Bounds) (rows : List Row) : Type 0 where
  pub lanes : All (λ row. row.lane < limits.workers) rows
  pub in_bounds : All (λ row. is_in_bounds limits.bits row.verb ≡ true) rows
  pub updates : (lane : ℕ) → updates_of lane rows ≤ limits.updates

-- a round can be run under the limits with its own bits: they are no fewer than at first, a round with them that opens with every key has
-- a table, and its rows keep these limits
pub record IsRunnable (limits : Bounds) (round : ScriptRound) : Type 0 where
  pub wider : limits.bits ≤ round.bits
  pub bounds : IsBounds (bounds_at limits round.bits)
  pub keeps : KeepsLimits (bounds_at limits round.bits) round.rows

-- no round has fewer bits than one before it
abbrev pub NeverNarrows : List ScriptRound → Type 0
NeverNarrows rounds =
    (i j : ℕ) (d : ScriptRound) → i ≤ j → j < length rounds → (slice_index_or rounds i d).bits ≤ (slice_index_or rounds j d).bits
