-- The rows of a script keep its limits, and there are not more of them than bytes.
use Rattle.std.proofs.Common.{◌≡◌, ℕ, zero, suc, ◌+◌, ◌<◌, ◌≤◌, Bool, true, false, not, ◌&&◌, ◌||◌, if◌then◌else◌, List, [], ◌∷◌, ◌++◌, length, drop, Option, Some, None, Result, Ok, Err, All, nat_lt, nat_le, ◌==◌, refl, subst, arith, slice_index_or, get_or, inl, inr}
use Rattle.std.proofs.lemmas.List.Elements.{All-nil, All-push, All-weaker}
use Rattle.std.proofs.lemmas.List.{append-nil}
use Rattle.std.proofs.Math.ListN.{get_or-append, length-append}
use Rattle.std.proofs.Math.Seq.{get_or-append_seam}
use Rattle.std.specs.List.{list_all}
use Rattle.std.specs.Prelude.{⊤, find}
use Rattle.std.specs.Result.{result_flatten, result_map_both}
use Rattle.std.specs.Str.{bytes_eq}
use Rattle.std.proofs.lemmas.Bool.{and_parts, cases_lt, eqb-true, leb-false, leb-true, ltb-true, not-false}
use Rattle.csv.specs.Machine.{Read, next_record}
use Rattle.csv.specs.Reading.{default_config, is_bom, records_from, records_next, strip_bom}
use Rattle.csv.specs.declared.parser.Config.{Config}
use Rattle.csv.specs.declared.parser.State.{State}
use Rattle.csv.specs.declared.parser.State.TheVariants as st
use Rattle.aug_script.proofs.Rows.{next-with_item}
use Rattle.aug_script.proofs.Updates.{updates_of-push}
use Rattle.aug_script.proofs.LimitTests.{bounds_pass}
use Rattle.aug_script.specs.Limits.{Bounds, IsBounds, bounds_at, is_bounds}
use Rattle.aug_script.specs.Script.{IsRunnable, KeepsLimits, NeverNarrows, Progress, are_printable, bounded_item, is_in_bounds, is_number, is_star, is_update, item_of, item_written, items_with, named_item, open_round, read_from, records_of, rounds_of, rounds_read, updates_of, with_item}
use Rattle.aug_script.specs.inside.Items.{nothing_read}
use Rattle.aug_script.specs.declared.item.Item.{Item}
use Rattle.aug_script.specs.declared.item.Item.TheVariants as item
use Rattle.aug_script.specs.declared.row.Row.{Row}
use Rattle.aug_script.specs.declared.script_error.ScriptError.{ScriptError}
use Rattle.aug_script.specs.declared.script_error.ScriptError.TheVariants.{BadCsv, BadLane, BadArity, BadNumber, OutOfRange, TooManyUpdates, BadPlace, TooWide}
use Rattle.aug_script.specs.declared.script_round.ScriptRound.{ScriptRound}

-- a test that stands before an item lets it through
passed : (b : Bool) (fault : ScriptError) (rest : Result Item ScriptError) (next : Item)
    → (if b then Err fault else rest) ≡ Ok next → (b ≡ false) × (rest ≡ Ok next)
passed true fault rest next e = cc
passed false fault rest next e = (refl, e)

-- the row may come next
record MayCome (limits : Bounds) (read : Progress) (row : Row) : Type 0 where
  lane : row.lane < limits.workers
  in_bounds : is_in_bounds read.bits row.verb ≡ true
  room : is_update row.verb ≡ true → updates_of row.lane read.rows < limits.updates

-- keys may get so many bits next
record MayGrow (limits : Bounds) (read : Progress) (bits : ℕ) : Type 0 where
  wider : read.bits ≤ bits
  no_rows : read.rows ≡ []
  bounds : IsBounds (bounds_at limits bits)

-- the item may follow; the end of a round always may
abbrev MayFollow : Bounds → Progress → Item → Type 0
MayFollow limits read (item.Row row) = MayCome limits read row
MayFollow limits read item.End = ⊤
MayFollow limits read (item.Grow bits) = MayGrow limits read bits

none_left : (rows : List Row) → (length rows == 0) ≡ true → rows ≡ []
none_left [] is = refl
none_left (row ∷ rows) is = absurd (omega (arith, eqb-true (length (row ∷ rows)) 0 is))

bounded_item-may_follow : (limits : Bounds) (read : Progress) (given next : Item) → bounded_item limits read given ≡ Ok next → MayFollow limits read next
bounded_item-may_follow limits read (item.Row row) next e =
    let range = passed (not (nat_lt row.lane limits.workers && is_in_bounds read.bits row.verb)) (OutOfRange read.next) _ next e in
    let room = passed (is_update row.verb && nat_le limits.updates (updates_of row.lane read.rows)) (TooManyUpdates read.next) (Ok (item.Row row)) next range.1 in
    let within = and_parts (nat_lt row.lane limits.workers) (is_in_bounds read.bits row.verb) (not-false _ range.0) in
    let same : item.Row row ≡ next = cc (room.1) in
    subst (MayFollow limits read) same (record {
      lane = ltb-true row.lane limits.workers within.0;
      in_bounds = within.1;
      room = λ update. leb-false limits.updates (updates_of row.lane read.rows) (rw update at room.0);
    })
bounded_item-may_follow limits read item.End next e =
    let same : item.End ≡ next = cc in
    subst (MayFollow limits read) same tt
bounded_item-may_follow limits read (item.Grow bits) next e =
    let range = passed (not (nat_le read.bits bits && nat_le bits 16)) (OutOfRange read.next) _ next e in
    let place = passed (not (length read.rows == 0)) (BadPlace read.next) _ next range.1 in
    let table = passed (not (is_bounds (bounds_at limits bits))) (TooWide read.next) (Ok (item.Grow bits)) next place.1 in
    let same : item.Grow bits ≡ next = cc (table.1) in
    subst (MayFollow limits read) same (record {
      wider = leb-true read.bits bits (and_parts (nat_le read.bits bits) (nat_le bits 16) (not-false _ range.0)).0;
      no_rows = none_left read.rows (not-false _ place.0);
      bounds = bounds_pass (bounds_at limits bits) (not-false _ table.0);
    })

named_item-may_follow : (limits : Bounds) (read : Progress) (arguments : List (List ℕ)) (named : Option Item) (next : Item)
    → named_item limits read arguments named ≡ Ok next → MayFollow limits read next
named_item-may_follow limits read arguments None next e = cc
named_item-may_follow limits read arguments (Some given) next e =
    let arity = passed (not (length arguments == length (item_written given).1)) (BadArity read.next) _ next e in
    let numbers = passed (not (list_all is_number arguments)) (BadNumber read.next) _ next arity.1 in
    bounded_item-may_follow limits read given next numbers.1

item_of-may_follow : (limits : Bounds) (read : Progress) (fields : List (List ℕ)) (next : Item)
    → item_of limits read fields ≡ Ok next → MayFollow limits read next
item_of-may_follow limits read fields next e =
    let first = slice_index_or fields 0 [] in
    let named = find (λ given. bytes_eq (slice_index_or fields 1 []) (item_written given).0) (items_with read.next fields) in
    let printable = passed (not (are_printable fields)) (BadCsv read.next) _ next e in
    let lane = passed (not (is_number first || is_star first)) (BadLane read.next) (named_item limits read (drop 2 fields) named) next printable.1 in
    named_item-may_follow limits read (drop 2 fields) named next lane.1

-- one more row is one more update of its lane, where it is one
one_more-update : (updates : ℕ) (lane : ℕ) (rows : List Row) (row : Row) → updates_of lane rows ≤ updates
    → (is_update row.verb ≡ true → updates_of row.lane rows < updates) → updates_of lane (rows ++ row ∷ []) ≤ updates
one_more-update updates lane rows row few room = go ((row.lane == lane) && is_update row.verb) refl
  where
    go : (b : Bool) → ((row.lane == lane) && is_update row.verb) ≡ b → updates_of lane (rows ++ row ∷ []) ≤ updates
    go false is = let one_more = rw is at (updates_of-push lane rows row) in omega (arith, few)
    go true is =
        let one_more = rw is at (updates_of-push lane rows row) in
        let parts = and_parts (row.lane == lane) (is_update row.verb) is in
        let same = eqb-true row.lane lane parts.0 in
        let below : updates_of lane rows < updates = subst (λ (l : ℕ). updates_of l rows < updates) same (room parts.1) in
        omega (arith, below)

-- one more row keeps the limits
keeps-more : (limits : Bounds) (read : Progress) (row : Row) → KeepsLimits (bounds_at limits read.bits) read.rows → MayCome limits read row
    → KeepsLimits (bounds_at limits read.bits) (read.rows ++ row ∷ [])
keeps-more limits read row keeps may = record {
  lanes = All-push (λ r. r.lane < limits.workers) read.rows row keeps.lanes may.lane;
  in_bounds = All-push (λ r. is_in_bounds read.bits r.verb ≡ true) read.rows row keeps.in_bounds may.in_bounds;
  updates = λ lane. one_more-update limits.updates lane read.rows row (keeps.updates lane) may.room;
}

-- no rows keep every limit
keeps-none : (limits : Bounds) → KeepsLimits limits []
keeps-none limits = record { lanes = All-nil (λ r. r.lane < limits.workers); in_bounds = All-nil (λ r. is_in_bounds limits.bits r.verb ≡ true); updates = λ lane. omega arith }

-- one more round that no earlier one has more bits than
narrows-more : (rounds : List ScriptRound) (round : ScriptRound) → NeverNarrows rounds → All (λ r. r.bits ≤ round.bits) rounds → NeverNarrows (rounds ++ round ∷ [])
narrows-more rounds round never below i j d le in_list =
    let long = length-append rounds (round ∷ []) in
    elim (cases_lt j (length rounds)) [
      | inl inside ↦
          let at_i = get_or-append rounds (round ∷ []) d i (omega (arith, le, inside)) in
          let at_j = get_or-append rounds (round ∷ []) d j inside in
          rw (at_i, at_j) (never i j d le inside)
      | inr past ↦
          let last : get_or (rounds ++ round ∷ []) (length rounds) d ≡ round = get_or-append_seam rounds round [] d in
          let is : j ≡ length rounds = omega (arith, long, in_list, past) in
          rw (is, last) (elim (cases_lt i (length rounds)) [
            | inl inside ↦ rw (get_or-append rounds (round ∷ []) d i inside) (below i d inside)
            | inr too ↦ let at_last : i ≡ length rounds = omega (arith, is, le, too) in rw (at_last, last) (omega arith)
          ])
    ]

-- what was read can be run with the bits that keys have now, and so can each closed round with its own, which are no more; none has as
-- many rows as were read
record IsSound (limits : Bounds) (read : Progress) : Type 0 where
  opened : IsRunnable limits (open_round read)
  few : length read.rows < read.next
  closed : All (IsRunnable limits) read.closed
  below : All (λ round. round.bits ≤ read.bits) read.closed
  never_narrows : NeverNarrows read.closed
  few_closed : All (λ round. length round.rows < read.next) read.closed

-- closed rounds have no fewer rows than before where one more row was read
few-later : (next : ℕ) (rounds : List ScriptRound) → All (λ round. length round.rows < next) rounds → All (λ round. length round.rows < next + 1) rounds
few-later next rounds few = All-weaker (λ round. length round.rows < next) (λ round. length round.rows < next + 1) (λ round short. omega (arith, short)) rounds few

sound-item : (limits : Bounds) (read : Progress) (next : Item) → IsSound limits read → MayFollow limits read next → IsSound limits (with_item read next)
sound-item limits read (item.Row row) sound may = record {
  opened = record { wider = sound.opened.wider; bounds = sound.opened.bounds; keeps = keeps-more limits read row sound.opened.keeps may };
  few = omega (arith, sound.few, length-append read.rows (row ∷ []));
  closed = sound.closed;
  below = sound.below;
  never_narrows = sound.never_narrows;
  few_closed = few-later read.next read.closed sound.few_closed;
}
sound-item limits read item.End sound may = record {
  opened = record { wider = sound.opened.wider; bounds = sound.opened.bounds; keeps = keeps-none (bounds_at limits read.bits) };
  few = omega arith;
  closed = All-push (IsRunnable limits) read.closed (open_round read) sound.closed sound.opened;
  below = All-push (λ round. round.bits ≤ read.bits) read.closed (open_round read) sound.below (omega arith);
  never_narrows = narrows-more read.closed (open_round read) sound.never_narrows sound.below;
  few_closed = All-push (λ round. length round.rows < read.next + 1) read.closed (open_round read) (few-later read.next read.closed sound.few_closed) (omega (arith, sound.few));
}
sound-item limits read (item.Grow bits) sound may = record {
  opened = record {
    wider = omega (arith, sound.opened.wider, may.wider);
    bounds = may.bounds;
    keeps = rw may.no_rows (keeps-none (bounds_at limits bits));
  };
  few = omega (arith, sound.few);
  closed = sound.closed;
  below = All-weaker (λ round. round.bits ≤ read.bits) (λ round. round.bits ≤ bits) (λ round le. omega (arith, le, may.wider)) read.closed sound.below;
  never_narrows = sound.never_narrows;
  few_closed = few-later read.next read.closed sound.few_closed;
}

-- so does what was read once some records were read too
read_from-sound : (limits : Bounds) (records : List (List (List ℕ))) (before read : Progress) → IsSound limits before
    → read_from limits before records ≡ Ok read → IsSound limits read × (read.next ≡ before.next + length records)
unfolding read_from
read_from-sound limits [] before read sound e =
    let same : before ≡ read = cc in
    subst (λ (r : Progress). IsSound limits r × (r.next ≡ before.next + 0)) same (sound, omega arith)
read_from-sound limits (fields ∷ rest) before read sound e =
    let go : (r : Result Item ScriptError) → item_of limits before fields ≡ r
    → result_flatten (result_map_both (λ next. read_from limits (with_item before next) rest) (λ fault. fault) r) ≡ Ok read → IsSound limits read × (read.next ≡ before.next + length (fields ∷ rest)) =
    elim [
      | Ok next ↦ λ is more.
          let later = read_from-sound limits rest (with_item before next) read (sound-item limits before next sound (item_of-may_follow limits before fields next is)) more in
          (later.0, omega (arith, later.1, next-with_item before next))
      | Err fault ↦ λ is more. cc
    ] in
    go (item_of limits before fields) refl e

records_from-few : (cfg : Config) (n : ℕ) (s : State) (bytes : List ℕ) → length (records_from cfg n s bytes) ≤ n
unfolding records_from
records_from-few cfg zero s bytes = omega arith
records_from-few cfg (suc n) s bytes =
    let go : (o : Option Read) → length (records_next (records_from cfg n) o) ≤ suc n =
    elim [ None ↦ omega arith | Some r ↦ omega (arith, records_from-few cfg n r.1 r.2) ] in
    go (next_record cfg s [] [] bytes)

strip_bom-few : (bytes : List ℕ) → length (strip_bom bytes) ≤ length bytes
unfolding strip_bom
strip_bom-few [] = omega arith
strip_bom-few (a ∷ []) = omega arith
strip_bom-few (a ∷ b ∷ []) = omega arith
strip_bom-few (a ∷ b ∷ c ∷ rest) =
    let go : (bom : Bool) → length (if bom then rest else a ∷ b ∷ c ∷ rest) ≤ length (a ∷ b ∷ c ∷ rest) =
    elim [ true ↦ omega arith | false ↦ omega arith ] in
    go (is_bom a b c)

-- a text has at most one record more than bytes
pub records_of-few : (bytes : List ℕ) → length (records_of bytes) ≤ length bytes + 1
records_of-few bytes =
    let stripped = strip_bom-few bytes in
    let few = records_from-few default_config (length (strip_bom bytes) + 1) st.StartRecord (strip_bom bytes) in
    omega arith

-- what a caller that runs the rounds needs of them
pub record AreRunnable (limits : Bounds) (bytes : List ℕ) (rounds : List ScriptRound) : Type 0 where
  pub kept : All (IsRunnable limits) rounds
  pub never_narrows : NeverNarrows rounds
  pub few : All (λ round. length round.rows ≤ length bytes + 1) rounds

-- nothing was read yet
sound-none : (limits : Bounds) → IsBounds limits → IsSound limits (nothing_read limits.bits)
sound-none limits bounds = record {
  opened = record { wider = omega arith; bounds = bounds; keeps = keeps-none (bounds_at limits limits.bits) };
  few = omega arith;
  closed = All-nil (IsRunnable limits);
  below = All-nil (λ round. round.bits ≤ limits.bits);
  never_narrows = λ i j d le in_list. absurd (omega (arith, in_list));
  few_closed = All-nil (λ round. length round.rows < 1);
}

pub rounds_are_runnable : (limits : Bounds) (bytes : List ℕ) (read : Progress) → IsBounds limits
    → read_from limits (nothing_read limits.bits) (records_of bytes) ≡ Ok read → AreRunnable limits bytes (rounds_read read)
rounds_are_runnable limits bytes read bounds is =
    let all = read_from-sound limits (records_of bytes) (nothing_read limits.bits) read (sound-none limits bounds) is in
    let sound = all.0 in
    let next = read.next in
    let below : next ≤ length bytes + 2 = omega (arith, all.1, records_of-few bytes) in
    let few_closed = All-weaker (λ round. length round.rows < next) (λ round. length round.rows ≤ length bytes + 1) (λ round short. omega (arith, short, below)) read.closed sound.few_closed in
    let go : (empty : Bool) → AreRunnable limits bytes (read.closed ++ (if empty then [] else open_round read ∷ [])) =
    elim [
      | true ↦ rw (append-nil read.closed) (record { kept = sound.closed; never_narrows = sound.never_narrows; few = few_closed })
      | false ↦ record {
        kept = All-push (IsRunnable limits) read.closed (open_round read) sound.closed sound.opened;
        never_narrows = narrows-more read.closed (open_round read) sound.never_narrows sound.below;
        few = All-push (λ round. length round.rows ≤ length bytes + 1) read.closed (open_round read) few_closed (omega (arith, sound.few, below));
      }
    ] in
    go (length read.rows == 0)

-- so can the rounds that the bytes read as
pub runnable_rounds : (limits : Bounds) (bytes : List ℕ) (rounds : List ScriptRound) → IsBounds limits → rounds_of limits bytes ≡ Ok rounds → AreRunnable limits bytes rounds
runnable_rounds limits bytes rounds bounds is = go (read_from limits (nothing_read limits.bits) (records_of bytes)) refl is
  where
    go : (r : Result Progress ScriptError) → read_from limits (nothing_read limits.bits) (records_of bytes) ≡ r → result_map_both rounds_read (λ (fault : ScriptError). fault) r ≡ Ok rounds → AreRunnable limits bytes rounds
    go (Ok read) reads same = let ends : rounds_read read ≡ rounds = cc in subst (AreRunnable limits bytes) ends (rounds_are_runnable limits bytes read bounds reads)
    go (Err fault) reads same = cc
