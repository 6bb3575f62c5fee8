-- The desk as a round rolls over: how many lanes and rounds there are, over plain values.
use Rattle.std.proofs.Common.{◌≡◌, All, Bool, ℕ, ◌+◌, ◌^◌, ◌<◌, ◌≤◌, List, [], ◌∷◌, ◌++◌, length, length-append, sym, ap, ◌∙◌, subst, arith}
use Rattle.std.specs.Prelude.{map, reverse}
use Rattle.aug_trie.specs.Chains.{Chapter, IsPart}
use Rattle.aug_trie.specs.Crew.{CrewFacts, RollsOver, crew_chain}
use Rattle.aug_trie.specs.Round.{RoundFacts, TableFacts, table_of}
use Rattle.aug_live.specs.declared.counts.LiveCounts.{LiveCounts}
use Rattle.aug_trie.proofs.Chaining.{part_trans}
use Rattle.aug_core.specs.Prefixes.{IsPrefix}
use Rattle.aug_live.specs.Carrying.{Leads}
use Rattle.aug_live.specs.LiveTries.{LanesGoOn, TrieFacts}
use Rattle.aug_live.specs.inside.Desks.{IsWorking}
use Rattle.aug_live.specs.inside.LaneKnowledge.{EndFacts, lane_by}
use Rattle.aug_live.specs.inside.Rolls.{HasEnded, IsBackIn, given_all, kept_of, rounds_in}
use Rattle.aug_live.proofs.Counted.{crew_part, rolled_part}
use Rattle.aug_live.proofs.Desks.{asked_part, kept_taken, no_lanes}
use Rattle.aug_live.proofs.Lanes.{rolled_lanes}
use Rattle.aug_live.proofs.Moving.{all_ended, next_led}

-- lists of so many elements, as their rooms stay
pub roomy : {n m k l : ℕ} → n ≡ m → k ≡ l → m ≤ l → n ≤ k
roomy {n} {m} {k} {l} e f low = omega (arith, e, f, low)

-- all lanes were taken
pub all_held : {A : Type 0} {p h q n : ℕ} {ports : List A} → ports ≡ [] → p ≡ length ports → p + h ≡ n → q ≡ h → q ≡ n
all_held {A} {p} {h} {q} {n} {ports} none long len same = let zero = ap length none in omega (arith, zero, long, len, same)

-- and none is any more
pub none_held : {A : Type 0} {n h m : ℕ} {held : List A} → held ≡ [] → h ≡ length held → n ≡ m → n + h ≡ m
none_held {A} {n} {h} {m} {held} none long same = let zero = ap length none in omega (arith, zero, long, same)

pub may_go_on : {n m k : ℕ} → n ≤ 18446744065119617025 → m ≡ k → k < 2 ^ 32 → (n + m) + 2 ^ 32 ≤ 2 ^ 64
may_go_on {n} {m} {k} low e few = omega (arith, low, e, few)

-- a lane and a number that are low enough
pub below : {l n m : ℕ} → l < n → n ≡ m → l < m
below {l} {n} {m} low same = subst (λ (k : ℕ). l < k) same low

pub below_next : {n m : ℕ} → n ≤ m → n < m + 1
below_next {n} {m} low = omega (arith, low)

pub more : (n : ℕ) → n ≤ n + 1
more n = omega arith

pub at_most : {n m : ℕ} → n ≡ m → n ≤ m
at_most {n} {m} same = omega (arith, same)

pub none_more : {n m : ℕ} → n ≡ m → n ≡ m + 0
none_more {n} {m} same = omega (arith, same)

-- one more of a sum
pub one_more : (n a : ℕ) {b : ℕ} → b ≡ a + 1 → (n + 1) + a ≡ n + b
one_more n a {b} next = omega (arith, next)

-- one more round is over
pub longer : {inserts removals : ℕ} {free : Bool} {self view : TrieFacts} (crew : CrewFacts) {asked end first : CrewFacts} (now : CrewFacts) → view ≡ self → view.rounds.past ≡ crew.past → asked ≡ record crew { free = free } → rounds_in end ≡ rounds_in asked → RollsOver end first inserts removals
    → rounds_in now ≡ rounds_in first → length self.rounds.past < length now.past
longer {inserts} {removals} {free} {self} {view} crew {asked} {end} {first} now is of ask same r next =
    let was : self.rounds.past ≡ end.past = sym (ap (λ (z : TrieFacts). z.rounds.past) is) ∙ of ∙ sym (ap (λ (z : CrewFacts). z.past) ask) ∙ sym (ap (λ (z : RoundFacts × List Chapter). z.1) same) in
    let over : Chapter = (crew_chain r.last).now in
    let more : now.past ≡ end.past ++ over ∷ [] = ap (λ (z : RoundFacts × List Chapter). z.1) next ∙ ap (λ (z : CrewFacts). z.past) r.crew_is ∙ ap (λ (z : CrewFacts). z.past ++ over ∷ []) r.last_is in
    let before = ap length was in let after = ap length more in let one = length-append end.past (over ∷ []) in omega (arith, before, after, one)

module _ {lanes updates : ℕ} {counts : LiveCounts} {table : TableFacts} {crew : CrewFacts} {ports : List EndFacts} {count : ℕ} (w : IsWorking lanes updates counts table crew ports count) where
  same_table : (end : CrewFacts) → rounds_in end ≡ rounds_in crew → table ≡ table_of end.round
  same_table end same = sym (ap (λ (z : RoundFacts × List Chapter). table_of z.0) same ∙ w.together)

  -- which begins in the same table, behind the one that ended
  module _ (end first : CrewFacts) {inserts removals : ℕ} (same : rounds_in end ≡ rounds_in crew) (r : RollsOver end first inserts removals) where
    next_table : table_of first.round ≡ table
    next_table = ap table_of r.round_is ∙ sym (same_table end same)

    pub next_table_as : {t : TableFacts} → t ≡ table → table_of first.round ≡ t
    next_table_as is = next_table ∙ sym is

    pub next_era : first.round.era ≡ counts.rounds
    next_era = ap (λ (z : RoundFacts). z.era) r.round_is ∙ ap (λ (z : RoundFacts × List Chapter). z.0.era + 1) same ∙ sym w.era_is

    pub next_leads : Leads first.round.bits first.past first.round.members
    next_leads = subst (λ (z : TableFacts). Leads z.bits first.past first.round.members) (sym next_table)
        (next_led counts.rounds table end first _ _ r (sym (same_table end same)) (subst (λ (z : RoundFacts × List Chapter). Leads table.bits z.1 z.0.members) (sym same) w.led))

    pub next_ended : (back : List EndFacts) → All (IsBackIn (rounds_in crew) counts.rounds end.knows.history) back → All (HasEnded (table_of first.round) first.past counts.rounds) back
    next_ended back all = subst (λ (z : TableFacts). All (HasEnded z first.past counts.rounds) back) (sym next_table)
        (all_ended counts.rounds table end first _ _ r (sym (same_table end same)) back (subst (λ (z : RoundFacts × List Chapter). All (IsBackIn z counts.rounds end.knows.history) back) (sym same) all))

-- all that was known of its rounds is known still
pub all_part : (was asked end first now : CrewFacts) {free : Bool} {inserts removals : ℕ} → asked ≡ record was { free = free } → rounds_in end ≡ rounds_in asked → IsPrefix asked.knows.history end.knows.history → RollsOver end first inserts removals
    → rounds_in now ≡ rounds_in first → IsPrefix first.knows.history now.knows.history → IsPart (crew_chain was) (crew_chain now)
all_part was asked end first now {free} ask same more r next on =
    part_trans (crew_chain was) (crew_chain asked) (crew_chain now) (asked_part was asked free ask)
    (part_trans (crew_chain asked) (crew_chain end) (crew_chain now) (crew_part asked end same more)
    (part_trans (crew_chain end) (crew_chain first) (crew_chain now) (rolled_part end first _ _ r) (crew_part first now next on)))

-- and of its lanes
pub lanes_rolled : (all ports held idle ports' held' : List EndFacts) → ports ≡ [] → ports ++ reverse held ≡ all → map kept_of idle ≡ map kept_of held → map kept_of ports' ≡ map given_all (reverse idle) → held' ≡ [] → LanesGoOn (map lane_by all) (map lane_by (ports' ++ reverse held'))
lanes_rolled all ports held idle ports' held' none same gave dealt left = subst (λ (z : List EndFacts). LanesGoOn (map lane_by all) (map lane_by z)) (sym (no_lanes ports' held' (ap length left)))
    (rolled_lanes all ports' idle (kept_taken idle held all gave (ap (λ (z : List EndFacts). z ++ reverse held) (sym none) ∙ same)) dealt)

-- and its lanes, named in another way
pub ports_as : {lanes updates : ℕ} {counts : LiveCounts} {table : TableFacts} {crew : CrewFacts} {ports ports' : List EndFacts} {count count' : ℕ} → ports' ≡ ports → count' ≡ count → IsWorking lanes updates counts table crew ports count → IsWorking lanes updates counts table crew ports' count'
ports_as {lanes} {updates} {counts} {table} {crew} same many w = subst (λ (z : List EndFacts × ℕ). IsWorking lanes updates counts table crew z.0 z.1) (λ i. (sym same i, sym many i)) w
