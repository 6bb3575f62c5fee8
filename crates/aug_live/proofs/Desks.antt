-- The desk as a round ends, as the next begins, and as the first does.
use Rattle.std.proofs.Common.{◌≡◌, Bool, true, ◌<◌, ℕ, ◌+◌, ◌^◌, ◌≤◌, List, [], ◌∷◌, ◌++◌, get_or, length, length-append, All, sym, ap, ◌∙◌, subst, arith}
use Rattle.std.specs.Prelude.{Option, Some, map, flat_map, reverse}
use Rattle.aug_core.specs.Cuts.{Cut}
use Rattle.aug_model.specs.Keys.{SetFacts}
use Rattle.aug_core.specs.Layout.{IsLayout}
use Rattle.aug_core.specs.Places.{shape_of}
use Rattle.aug_trie.specs.Chains.{Chapter, IsPart}
use Rattle.aug_trie.proofs.Chaining.{part_refl}
use Rattle.aug_trie.specs.Round.{TableFacts, RoundFacts, table_of}
use Rattle.aug_trie.specs.Crew.{CrewFacts, BeginsIn, RollsOver, crew_chain}
use Rattle.aug_live.specs.declared.counts.LiveCounts.{LiveCounts}
use Rattle.aug_live.specs.LiveHandles.{HandleFacts, IsNew}
use Rattle.aug_live.specs.declared.plan.Plan.{Plan}
use Rattle.aug_live.specs.Carrying.{Leads}
use Rattle.aug_live.specs.LiveTries.{AreChangesOf, TrieFacts}
use Rattle.aug_live.specs.inside.LaneKnowledge.{EndFacts, IsWhole, rolls, rounds_at}
use Rattle.aug_live.specs.inside.Rolls.{IsBackIn, IsFirst, IsOf, IsOpenedLane, accepted_by, given_all, kept_of, rounds_in}
use Rattle.aug_live.specs.inside.Desks.{Accounts, IsWorking}
use Rattle.aug_live.proofs.Accounting.{accounts_opened, accounts_rolled, all_reversed}
use Rattle.aug_live.proofs.Moving.{next_led, next_past}
use Rattle.aug_live.specs.inside.LaneKnowledge.{lane_by}
use Rattle.std.proofs.lemmas.List.{append-nil, length-map, reverse-reverse}
use Rattle.std.proofs.Math.ListN.{get_or-append}
use Rattle.aug_live.proofs.Dealing.{map_reverse, port_rolls}
use Rattle.aug_live.proofs.Counted.{all_of_round, none_left}

pub wholes_of : (rounds : RoundFacts × List Chapter) (era : ℕ) (history : List Cut) (back : List EndFacts) → All (IsBackIn rounds era history) back → All (λ (e : EndFacts). IsWhole e.known e.known.at) (reverse back)
wholes_of rounds era history back all = all_reversed (λ (e : EndFacts). IsWhole e.known e.known.at) back (λ k d low. (all k d low).whole)

pub eras_of : (rounds : RoundFacts × List Chapter) (era : ℕ) (history : List Cut) (back : List EndFacts) → All (IsBackIn rounds era history) back → All (λ (e : EndFacts). e.known.at.era ≡ era) (reverse back)
eras_of rounds era history back all = all_reversed (λ (e : EndFacts). e.known.at.era ≡ era) back (λ k d low. (all k d low).era_is)

-- the desk as the first round begins
pub opened_at : (lanes updates : ℕ) (counts : LiveCounts) (set : SetFacts) (table : TableFacts) (first crew : CrewFacts) (ports : List EndFacts) (count : ℕ)
    → IsLayout (shape_of set.bits lanes updates (2 ^ set.bits)) → BeginsIn (2 ^ set.bits) set.pairs set.bits lanes updates table first → All (IsOf (rounds_in crew) 1) ports → All IsOpenedLane ports → count ≤ lanes → length ports ≡ count
    → rounds_in crew ≡ rounds_in first → crew.handed ≡ count → crew.back ≡ first.back → crew.knows.accepted ≡ first.knows.accepted
    → counts.rounds ≡ 1 → counts.opened ≡ length set.pairs → counts.inserts ≡ 0 → counts.removals ≡ 0 → counts.handles ≡ count → counts.missing ≡ count → IsWorking lanes updates counts table crew ports count
opened_at lanes updates counts set table first crew ports count laid b of_round new_lanes len long_ports same handed back accepted rounds opened inserts removals handles missing =
    let here : crew.round ≡ first.round = ap (λ (z : RoundFacts × List Chapter). z.0) same in let is : table ≡ record { table = table.table; bits = set.bits; workers = lanes; updates = updates; room = 2 ^ set.bits } = sym b.together ∙ ap table_of b.round_is in
    let long : length crew.round.members ≡ length set.pairs = ap (λ (z : RoundFacts). length z.members) (here ∙ b.round_is) in let none : first.back ≡ 0 = ap (λ (z : CrewFacts). z.back) b.crew_is in
    let past : crew.past ≡ [] = ap (λ (z : RoundFacts × List Chapter). z.1) same ∙ ap (λ (z : CrewFacts). z.past) b.crew_is in record {
      together = ap table_of here ∙ b.together;
      led = subst (λ (z : List Chapter). Leads table.bits z crew.round.members) (sym past) tt;
      workers = ap (λ (z : TableFacts). z.workers) is;
      all_out = omega arith;
      within = omega arith;
      of_round = subst (λ (z : ℕ). All (IsOf (rounds_in crew) z) ports) (sym rounds) of_round;
      counted = record { some = omega arith; sizes = omega arith };
      rounds_are = rounds ∙ ap (λ (z : List Chapter). length z + 1) (sym past);
      era_is = rounds ∙ ap (λ (z : RoundFacts). z.era + 1) (sym (here ∙ b.round_is));
      accounts = accounts_opened table.bits counts crew ports new_lanes past (accepted ∙ ap (λ (z : CrewFacts). z.knows.accepted) b.crew_is) rounds inserts removals (handles ∙ sym long_ports) (missing ∙ sym long_ports);
      few_inserts = omega arith;
      few_removals = omega arith;
      laid_out = subst (λ (z : ℕ). IsLayout (shape_of z lanes updates (2 ^ z))) (sym (ap (λ (z : TableFacts). z.bits) is)) laid;
      room = subst (λ (z : TableFacts). 2 ^ z.bits ≤ z.room) (sym is) (omega arith);
    }

-- the desk goes on with it
pub rolled_on : (lanes updates : ℕ) (counts new : LiveCounts) (table : TableFacts) (crew end first crew' : CrewFacts) (ports back ports' : List EndFacts) (count count' : ℕ) (inserts removals : ℕ)
    → IsWorking lanes updates counts table crew ports count → RollsOver end first inserts removals → rounds_in end ≡ rounds_in crew → All (IsOf (rounds_in first) (counts.rounds + 1)) ports' → count' ≡ count
    → map kept_of (reverse back) ≡ map kept_of ports → All (IsBackIn (rounds_in crew) counts.rounds end.knows.history) back → end.knows.accepted ≡ crew.knows.accepted ++ flat_map accepted_by back → map kept_of ports' ≡ map given_all (reverse back) → crew'.knows.accepted ≡ first.knows.accepted
    → rounds_in crew' ≡ rounds_in first → crew'.handed ≡ count → crew'.back ≡ first.back
    → new.rounds ≡ counts.rounds + 1 → new.opened ≡ counts.opened → new.inserts ≡ counts.inserts + inserts → new.removals ≡ counts.removals + removals → new.handles ≡ counts.handles → new.missing ≡ counts.missing
    → new.inserts + 2 ^ 32 ≤ 2 ^ 64 → new.removals + 2 ^ 32 ≤ 2 ^ 64 → IsWorking lanes updates new table crew' ports' count'
rolled_on lanes updates counts new table crew end first crew' ports back ports' count count' inserts removals w r same of_round len kept all_back gave dealt same_changes together handed come rounds opened ins rem handles missing few_inserts few_removals =
    let was : end.round ≡ crew.round = ap (λ (z : RoundFacts × List Chapter). z.0) same in let here : table_of end.round ≡ table = ap table_of was ∙ w.together in let next : crew'.round ≡ first.round = ap (λ (z : RoundFacts × List Chapter). z.0) together in
    let long : length crew'.round.members ≡ length r.ended.members = ap (λ (z : RoundFacts). length z.members) (next ∙ r.round_is) in let long_before : length end.round.members ≡ length crew.round.members = ap (λ (z : RoundFacts). length z.members) was in
    let out = w.all_out in let within = w.within in let sum = w.counted.sizes in let more = r.sizes in let put = r.inserts_are in let took = r.removals_are in let none : first.back ≡ 0 = ap (λ (z : CrewFacts). z.back) r.crew_is in
    let over : Chapter = (crew_chain r.last).now in
    let past : crew'.past ≡ crew.past ++ over ∷ [] = ap (λ (z : RoundFacts × List Chapter). z.1) together ∙ next_past counts.rounds table end first inserts removals r here ∙ ap (λ (z : RoundFacts × List Chapter). z.1 ++ over ∷ []) same in
    let longer : length crew'.past ≡ length crew.past + 1 = ap length past ∙ length-append crew.past (over ∷ []) in
    let last_bits : r.last.round.bits ≡ table.bits = ap (λ (z : CrewFacts). z.round.bits) r.last_is ∙ ap (λ (z : TableFacts). z.bits) here in
    let happened : AreChangesOf table.bits over r.last.knows.accepted = subst (λ (z : ℕ). AreChangesOf z over r.last.knows.accepted) last_bits (all_of_round r.last r.ended r.ends r.none_missing) in
    let none_yet : crew'.knows.accepted ≡ [] = same_changes ∙ ap (λ (z : CrewFacts). z.knows.accepted) r.crew_is in record {
      together = ap table_of (next ∙ r.round_is) ∙ here;
      led = subst (λ (z : RoundFacts × List Chapter). Leads table.bits z.1 z.0.members) (sym together)
          (next_led counts.rounds table end first inserts removals r here (subst (λ (z : RoundFacts × List Chapter). Leads table.bits z.1 z.0.members) (sym same) w.led));
      workers = w.workers;
      all_out = omega arith;
      within = omega arith;
      of_round = subst (λ (z : (RoundFacts × List Chapter) × ℕ). All (IsOf z.0 z.1) ports') (λ i. (sym together i, sym rounds i)) of_round;
      counted = record { some = omega arith; sizes = omega arith };
      rounds_are = rounds ∙ ap (λ n. n + 1) (w.rounds_are ∙ sym longer);
      era_is = rounds ∙ ap (λ n. n + 1) (w.era_is ∙ ap (λ (z : RoundFacts). z.era + 1) (sym was) ∙ ap (λ (z : RoundFacts). z.era) (sym (next ∙ r.round_is)));
      accounts = accounts_rolled table.bits counts crew r.last ports back w.accounts kept (eras_of (rounds_in crew) counts.rounds end.knows.history back all_back) w.rounds_are (r.same_changes ∙ gave) crew' new over (map kept_of ports') dealt past none_yet happened rounds
          (ins ∙ ap (λ n. counts.inserts + n) (r.inserts_are ∙ r.ends.inserts)) (rem ∙ ap (λ n. counts.removals + n) (r.removals_are ∙ r.ends.removals)) handles missing;
      few_inserts = few_inserts;
      few_removals = few_removals;
      laid_out = w.laid_out;
      room = w.room;
    }

-- other ends of the same lanes, as the crew took so many passes back and handed as many out
pub kept_on : (lanes updates : ℕ) (counts counts' : LiveCounts) (table : TableFacts) (crew crew' : CrewFacts) (ports new : List EndFacts) (count count' more : ℕ)
    → IsWorking lanes updates counts table crew ports count → All (IsOf (rounds_in crew) counts.rounds) new → count' ≡ count → Accounts table.bits counts' crew' (map kept_of new)
    → counts'.rounds ≡ counts.rounds → counts'.opened ≡ counts.opened → counts'.inserts ≡ counts.inserts → counts'.removals ≡ counts.removals
    → rounds_in crew' ≡ rounds_in crew → crew'.handed ≡ crew.handed + more → crew'.back ≡ crew.back + more → crew'.handed ≤ lanes → IsWorking lanes updates counts' table crew' new count'
kept_on lanes updates counts counts' table crew crew' ports new count count' more w all same accounts rounds opened inserts removals round_is handed back within = let out = w.all_out in let some = w.counted.some in let sizes = w.counted.sizes in let few = w.few_inserts in let few' = w.few_removals in let long = ap (λ (z : RoundFacts × List Chapter). length z.0.members) round_is in record {
  together = ap (λ (z : RoundFacts × List Chapter). table_of z.0) round_is ∙ w.together;
  led = subst (λ (z : RoundFacts × List Chapter). Leads table.bits z.1 z.0.members) (sym round_is) w.led;
  workers = w.workers;
  all_out = omega arith;
  within = within;
  of_round = subst (λ (z : (RoundFacts × List Chapter) × ℕ). All (IsOf z.0 z.1) new) (λ i. (sym round_is i, sym rounds i)) all;
  counted = record { some = omega arith; sizes = omega arith };
  rounds_are = rounds ∙ w.rounds_are ∙ ap (λ (z : RoundFacts × List Chapter). length z.1 + 1) (sym round_is);
  era_is = rounds ∙ w.era_is ∙ ap (λ (z : RoundFacts × List Chapter). z.0.era + 1) (sym round_is);
  accounts = accounts;
  few_inserts = omega arith;
  few_removals = omega arith;
  laid_out = w.laid_out;
  room = w.room;
}

-- each handle of the first round is new
pub all_new : (set : SetFacts) (plan : Plan) (table : TableFacts) (first : CrewFacts) (trie : TrieFacts) (ends : List HandleFacts) → trie.table ≡ table.table → BeginsIn (2 ^ set.bits) set.pairs set.bits plan.lanes plan.updates table first → All (IsFirst (rounds_in first) trie) ends → All (IsNew trie set plan) ends
all_new set plan table first trie ends at b all k d low = let f = all k d low in
    let is : rounds_at (get_or ends k d).half ≡ rounds_in first = f.fresh.round_is in
    let of_round = ap (λ (z : RoundFacts × List Chapter). z.0) is ∙ b.round_is in record {
      of_trie = ap (λ (z : RoundFacts). z.table) of_round ∙ sym at;
      knows_trie = f.of_trie;
      first = f.first;
      era = f.era_is;
      none_before = ap (λ (z : RoundFacts × List Chapter). z.1) is ∙ ap (λ (z : CrewFacts). z.past) b.crew_is;
      bits = ap (λ (z : RoundFacts). z.bits) of_round;
      members = ap (λ (z : RoundFacts). z.members) of_round;
      workers_are = ap (λ (z : RoundFacts). z.workers) of_round;
      updates_are = ap (λ (z : RoundFacts). z.updates) of_round;
      none_spent = f.fresh.none_spent;
      none_accepted = f.fresh.none_accepted;
      none_made = f.none_made;
    }

-- a trie of which no lane is taken
pub no_lanes : (ports held : List EndFacts) → length held ≡ 0 → ports ++ reverse held ≡ ports
no_lanes ports held none = ap (λ (z : List EndFacts). ports ++ reverse z) (none_left held none) ∙ append-nil ports

all_there : (n m : ℕ) → m ≡ 0 → n + m ≡ n
all_there n m few = omega (arith, few)

module _ {lanes updates : ℕ} {counts : LiveCounts} {table : TableFacts} {crew : CrewFacts} (ports held : List EndFacts) (n m : ℕ) (none : length held ≡ 0) (few : m ≡ 0) where
  pub unsettled : IsWorking lanes updates counts table crew ports n → IsWorking lanes updates counts table crew (ports ++ reverse held) (n + m)
  unsettled w = subst (λ (z : List EndFacts × ℕ). IsWorking lanes updates counts table crew z.0 z.1) (λ i. (sym (no_lanes ports held none) i, sym (all_there n m few) i)) w

-- the ends before the lanes that were taken are of the round, and may be taken too
pub may_take : {lanes updates : ℕ} {counts : LiveCounts} {table : TableFacts} {crew : CrewFacts} {n : ℕ} (ports held : List EndFacts) → IsWorking lanes updates counts table crew (ports ++ reverse held) n
    → All (λ (e : EndFacts). (rolls e.known.whose ≡ true) × (0 < e.known.at.era)) ports
may_take ports held w k d low = let long = length-append ports (reverse held) in
    let mine = subst (IsOf _ _) (get_or-append ports (reverse held) d k low) (w.of_round k d (omega (arith, long, low))) in (port_rolls (get_or ports k d).known.whose mine.whose, subst (λ (z : ℕ). 0 < z) (sym mine.era_is) w.counted.some)

-- no lane is taken: each has its end before them
pub port_low : (t : TrieFacts) (ports held : List EndFacts) (lane : ℕ) → map lane_by (ports ++ reverse held) ≡ t.lanes → length held ≡ t.held → t.held ≡ 0 → lane < length t.lanes → lane < length ports
port_low t ports held lane are taken none low = let long = ap length (sym are) ∙ length-map (ports ++ reverse held) lane_by ∙ ap length (no_lanes ports held (taken ∙ none)) in omega (arith, long, low)

-- once all lanes are taken, they are those that there were
pub all_taken : (ports held ports' held' : List EndFacts) → ports' ≡ [] → ports' ++ reverse held' ≡ ports ++ reverse held → reverse held' ≡ ports ++ reverse held
all_taken ports held ports' held' none same = ap (λ (z : List EndFacts). z ++ reverse held') (sym none) ∙ same

pub taken_of : (P : EndFacts → Type 0) (held' all : List EndFacts) → reverse held' ≡ all → All P all → All P held'
taken_of P held' all is each = subst (All P) (ap reverse (sym is) ∙ reverse-reverse held') (all_reversed P all each)

pub kept_taken : (idle held' all : List EndFacts) → map kept_of idle ≡ map kept_of held' → reverse held' ≡ all → map kept_of (reverse idle) ≡ map kept_of all
kept_taken idle held' all same is = map_reverse kept_of idle ∙ ap reverse same ∙ sym (map_reverse kept_of held') ∙ ap (map kept_of) is

-- a crew was asked whether the next round can begin
pub asked_on : {lanes updates : ℕ} {counts : LiveCounts} {table : TableFacts} {ports : List EndFacts} {count : ℕ} (crew crew' : CrewFacts) (free : Bool) → crew' ≡ record crew { free = free } → IsWorking lanes updates counts table crew ports count
    → IsWorking lanes updates counts table crew' ports count
asked_on {lanes} {updates} {counts} {table} {ports} {count} crew crew' free is w = let a = w.accounts in subst (λ (z : CrewFacts). IsWorking lanes updates counts table z ports count) (sym is) record {
  together = w.together;
  workers = w.workers;
  all_out = w.all_out;
  within = w.within;
  of_round = w.of_round;
  led = w.led;
  counted = w.counted;
  rounds_are = w.rounds_are;
  era_is = w.era_is;
  accounts = record { past = a.past; now = a.now; dates = a.dates; handles = a.handles; missing = a.missing; numbers = a.numbers };
  few_inserts = w.few_inserts;
  few_removals = w.few_removals;
  laid_out = w.laid_out;
  room = w.room;
}

-- so it knows of its rounds what it knew
pub asked_part : (crew crew' : CrewFacts) (free : Bool) → crew' ≡ record crew { free = free } → IsPart (crew_chain crew) (crew_chain crew')
asked_part crew crew' free is = subst (λ (z : CrewFacts). IsPart (crew_chain crew) (crew_chain z)) (sym is) (part_refl (crew_chain crew))

-- slots of a round that is named in another way
pub slots_as : (t u : TableFacts) (slots : List (Option TableFacts)) → t ≡ u → All (λ (s : Option TableFacts). s ≡ Some t) slots → All (λ (s : Option TableFacts). s ≡ Some u) slots
slots_as t u slots is all = subst (λ (z : TableFacts). All (λ (s : Option TableFacts). s ≡ Some z) slots) is all
