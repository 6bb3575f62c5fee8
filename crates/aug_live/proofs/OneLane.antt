-- One of the roller's ends becomes another one of the same lane.
use Rattle.std.proofs.Common.{◌≡◌, ℕ, zero, suc, ◌+◌, ◌<◌, ◌≤◌, List, [], ◌∷◌, ◌++◌, All, append_assoc, get_or, length, map, set, refl, sym, ap, ◌∙◌, subst, arith}
use Rattle.std.proofs.lemmas.List.{length-map, map-append}
use Rattle.atomic_table.proofs.Lists.{at_map}
use mathlib.Core.Option.{some}
use lib.ListN.{get_elem?}
use Rattle.atomic_table.specs.Seated.{TableId}
use Rattle.aug_trie.specs.Chains.{Chapter}
use Rattle.aug_trie.specs.Crew.{CrewFacts}
use Rattle.aug_trie.specs.Round.{RoundFacts, TableFacts}
use Rattle.aug_core.specs.declared.view.Change.{Change}
use Rattle.aug_live.specs.declared.counts.LiveCounts.{LiveCounts}
use Rattle.aug_live.specs.LiveTries.{LaneGoesOn, LaneKnown, LanesGoOn}
use Rattle.aug_live.specs.inside.Desks.{Accounts, IsWorking, handles_of, missing_of}
use Rattle.aug_live.specs.inside.LaneKnowledge.{EndFacts, lane_by}
use Rattle.aug_live.specs.inside.Rolls.{IsOf, given, kept_of, rounds_in}
use Rattle.aug_live.proofs.Accounting.{accounts_given, accounts_handles, all_at, all_here, sum_here}
use Rattle.aug_live.proofs.Desks.{kept_on}
use Rattle.aug_live.proofs.Lanes.{lanes_at}

there : {A : Type 0} (front back : List A) (x : A) (k : ℕ) → length front ≡ k → get_elem? (front ++ x ∷ back) k ≡ some x
there front back x k long = subst (λ (n : ℕ). get_elem? (front ++ x ∷ back) n ≡ some x) long (here front) where
  here : (front : List _) → get_elem? (front ++ x ∷ back) (length front) ≡ some x
  here [] = refl
  here (y ∷ ys) = here ys

-- the end behind a front of a list is that of the lane whose number is the length of the front
pub end_at : (ids : List TableId) (ends front rest : List EndFacts) (e : EndFacts) (k : ℕ) → map (λ (z : EndFacts). z.lock) ends ≡ ids → ends ≡ front ++ e ∷ rest → length front ≡ k → get_elem? ids k ≡ some e.lock
end_at ids ends front rest e k are is long = let lock = λ (z : EndFacts). z.lock in
    subst (λ (z : List TableId). get_elem? z k ≡ some e.lock) (sym (ap (map lock) is ∙ map-append lock front (e ∷ rest)) ∙ are) (there (map lock front) (map lock rest) e.lock k (length-map front lock ∙ long))

-- a list, parted at one of its places, and what it is once another element stands there
record Parted {A : Type 0} (xs : List A) (i : ℕ) (d : A) : Type 0 where
  pub front : List A
  pub back : List A
  pub long : length front ≡ i
  pub is : xs ≡ front ++ get_or xs i d ∷ back
  pub put : (y : A) → set xs i y ≡ front ++ y ∷ back

parted : {A : Type 0} (xs : List A) (i : ℕ) (d : A) → i < length xs → Parted xs i d
parted [] i d low = absurd (omega (arith, low))
parted (x ∷ xs) zero d low = record { front = []; back = xs; long = refl; is = refl; put = λ y. refl }
parted (x ∷ xs) (suc i) d low = let p = parted xs i d (omega (arith, low)) in record {
  front = x ∷ p.front;
  back = p.back;
  long = ap suc p.long;
  is = λ j. x ∷ p.is j;
  put = λ y j. x ∷ p.put y j;
}

-- one of the ends of a desk, before the lanes that were taken
module _ {lanes updates : ℕ} {counts : LiveCounts} {table : TableFacts} {crew : CrewFacts} {count : ℕ} (ports held : List EndFacts) (w : IsWorking lanes updates counts table crew (ports ++ held) count) (lane : ℕ) (old : EndFacts) (low : lane < length ports) (taken : old ≡ get_or ports lane old) where
  part : Parted ports lane old
  part = parted ports lane old low

  abbrev behind : List EndFacts
  behind = part.back ++ held

  before : ports ++ held ≡ part.front ++ old ∷ behind
  before = ap (λ (z : List EndFacts). z ++ held) (part.is ∙ ap (λ (z : EndFacts). part.front ++ z ∷ part.back) (sym taken)) ∙ append_assoc part.front (old ∷ part.back) held

  pub stood : get_elem? (map lane_by (ports ++ held)) lane ≡ some (lane_by old)
  stood = at_map lane_by (ports ++ held) lane old (subst (λ (z : List EndFacts). get_elem? z lane ≡ some old) (sym before) (there part.front behind old lane part.long))

  pub id_stood : get_elem? (map (λ (l : LaneKnown). l.id) (map lane_by (ports ++ held))) lane ≡ some old.lock
  id_stood = at_map (λ (l : LaneKnown). l.id) (map lane_by (ports ++ held)) lane (lane_by old) stood

  here : IsOf (rounds_in crew) counts.rounds old
  here = all_here (IsOf (rounds_in crew) counts.rounds) part.front behind old (subst (All (IsOf (rounds_in crew) counts.rounds)) before w.of_round)

  pub mine : IsOf (rounds_in crew) old.known.at.era old
  mine = subst (λ (n : ℕ). IsOf (rounds_in crew) n old) (sym here.era_is) here

  pub begun : 0 < old.known.at.era
  begun = subst (λ (n : ℕ). 0 < n) (sym here.era_is) w.counted.some

  was : Accounts table.bits counts crew (map kept_of part.front ++ kept_of old ∷ map kept_of behind)
  was = subst (Accounts table.bits counts crew) (ap (map kept_of) before ∙ map-append kept_of part.front (old ∷ behind)) w.accounts

  -- its handle's number is one of those that are counted, and is among those that did not come back
  pub number_low : old.known.number ≤ counts.handles
  number_low = all_here (λ (e : EndFacts). e.known.number ≤ counts.handles) (map kept_of part.front) (map kept_of behind) (kept_of old) was.numbers

  pub missing_low : missing_of old ≤ counts.missing
  missing_low = let s = was.missing in let l = sum_here missing_of (map kept_of part.front) (map kept_of behind) (kept_of old) in omega arith

  -- what it becomes
  module _ (port : EndFacts) where
    abbrev ends : List EndFacts
    ends = set ports lane port ++ held

    after : ends ≡ part.front ++ port ∷ behind
    after = ap (λ (z : List EndFacts). z ++ held) (part.put port) ∙ append_assoc part.front (port ∷ part.back) held

    pub lane_is : get_elem? (map lane_by ends) lane ≡ some (lane_by port)
    lane_is = at_map lane_by ends lane port (subst (λ (z : List EndFacts). get_elem? z lane ≡ some port) (sym after) (there part.front behind port lane part.long))

    pub lanes_on : LaneGoesOn (lane_by old) (lane_by port) → LanesGoOn (map lane_by (ports ++ held)) (map lane_by ends)
    lanes_on on = subst (λ (z : List EndFacts × List EndFacts). LanesGoOn (map lane_by z.0) (map lane_by z.1)) (λ i. (sym before i, sym after i))
        (subst (λ (z : List _ × List _). LanesGoOn z.0 z.1) (λ i. (sym (map-append lane_by part.front (old ∷ behind)) i, sym (map-append lane_by part.front (port ∷ behind)) i)) (lanes_at (map lane_by part.front) (map lane_by behind) (lane_by old) (lane_by port) on))

    -- what it was
    pub as_before : port ≡ old → ends ≡ ports ++ held
    as_before same = after ∙ ap (λ (z : EndFacts). part.front ++ z ∷ behind) same ∙ sym before

    pub stays : (crew' : CrewFacts) → port ≡ old → crew' ≡ crew → IsWorking lanes updates counts table crew' ends count
    stays crew' same is = subst (λ (z : CrewFacts × List EndFacts). IsWorking lanes updates counts table z.0 z.1 count) (λ i. (sym is i, sym (as_before same) i)) w

    all_on : IsOf (rounds_in crew) old.known.at.era port → All (IsOf (rounds_in crew) counts.rounds) ends
    all_on this = subst (All (IsOf (rounds_in crew) counts.rounds)) (sym after)
        (all_at (IsOf (rounds_in crew) counts.rounds) part.front behind old port (subst (All (IsOf (rounds_in crew) counts.rounds)) before w.of_round) (subst (λ (n : ℕ). IsOf (rounds_in crew) n port) here.era_is this))

    accounts : {counts' : LiveCounts} {crew' : CrewFacts} → Accounts table.bits counts' crew' (map kept_of part.front ++ kept_of port ∷ map kept_of behind) → Accounts table.bits counts' crew' (map kept_of ends)
    accounts {counts'} {crew'} = subst (Accounts table.bits counts' crew') (sym (ap (map kept_of) after ∙ map-append kept_of part.front (port ∷ behind)))

    -- its pass went back, which had accepted these changes, and another one lies there
    pub gave_on : (crew' : CrewFacts) (changes : List Change) → IsOf (rounds_in crew) old.known.at.era port → kept_of port ≡ given changes old → crew'.knows.accepted ≡ crew.knows.accepted ++ changes → rounds_in crew' ≡ rounds_in crew
        → crew'.handed ≡ crew.handed + 1 → crew'.back ≡ crew.back + 1 → crew.handed < lanes → IsWorking lanes updates counts table crew' ends count
    gave_on crew' changes this is accepted rounds handed back left =
        kept_on lanes updates counts counts table crew crew' (ports ++ held) ends count count 1 w (all_on this) refl
        (accounts (accounts_given table.bits counts crew crew' (map kept_of part.front) (map kept_of behind) (kept_of old) (kept_of port) (ap (λ (z : RoundFacts × List Chapter). z.1) rounds) was changes old refl is here.era_is w.rounds_are accepted))
        refl refl refl refl rounds handed back (omega (arith, handed, left))

    -- its handles are others
    pub handles_on : (crew' : CrewFacts) (handles missing : ℕ) → crew' ≡ crew → IsOf (rounds_in crew) old.known.at.era port → port.known.before ≡ old.known.before → counts.handles ≤ handles → port.known.number ≤ handles
        → handles + handles_of old ≡ counts.handles + handles_of port → missing + missing_of old ≡ counts.missing + missing_of port → IsWorking lanes updates (record counts { handles = handles; missing = missing }) table crew' ends count
    handles_on crew' handles missing is this same more number as_many as_few = let counts' : LiveCounts = record counts { handles = handles; missing = missing } in
        subst (λ (z : CrewFacts). IsWorking lanes updates counts' table z ends count) (sym is)
        (kept_on lanes updates counts counts' table crew crew (ports ++ held) ends count count 0 w (all_on this) refl
        (accounts (accounts_handles table.bits counts crew crew (map kept_of part.front) (map kept_of behind) (kept_of old) (kept_of port) refl was counts' same refl refl refl refl more number as_many as_few))
        refl refl refl refl refl (omega arith) (omega arith) w.within)
