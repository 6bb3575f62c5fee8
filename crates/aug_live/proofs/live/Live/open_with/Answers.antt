use Rattle.std.proofs.Common.{ℕ, ◌≡◌, ◌∙◌, ◌^◌, [], Global, Vec, length, vec_capacity, vec_len, All, List, map, ap, refl, sym, subst, rules, arith}
use Rattle.std.specs.Arc.{arc_value}
use Rattle.std.proofs.lemmas.List.{length-map}
use Rattle.std.proofs.lemmas.List.Elements.{All-map}
use Rattle.ruled_lock.specs.Locks.{client_of}
use Rattle.aug_core.specs.Layout.{IsLayout}
use Rattle.aug_core.specs.Places.{shape_of}
use Rattle.aug_model.proofs.Boundaries.{IsKeySet-few}
use Rattle.aug_model.proofs.Pairs.{length-keys_of}
use Rattle.aug_trie.specs.Chains.{Chapter}
use Rattle.aug_trie.specs.Crew.{CrewFacts}
use Rattle.aug_trie.specs.Round.{RoundFacts, TableFacts, table_of}
use Rattle.aug_live.specs.LiveHandles.{HandleFacts, IsNew}
use Rattle.aug_live.specs.LiveTries.{IsOpenedTrie, LaneKnown, TrieFacts, ids_of}
use Rattle.aug_live.specs.inside.LaneKnowledge.{EndFacts, lane_by}
use lib.ListN.{get_elem?}
use Rattle.aug_live.specs.inside.Rolls.{IsFirst, IsOf, Starts, handles_from, rounds_in}
use Rattle.aug_live.proofs.Desks.{all_new, no_lanes, opened_at, unsettled}
use Rattle.aug_live.specs.inside.DeskKnowledge.{IsOwner}
use Rattle.aug_live.proofs.Handing.{handles_all, handles_long, lanes_are}
use Rattle.aug_live.proofs.Lanes.{ids_are}
use Rattle.aug_live.proofs.live.Live.open_with.Goals as goal

pub next_round-requires-clause-few : goal.next_round-requires-clause-few
next_round-requires-clause-few g c = omega (arith, IsKeySet-few _ _ c.universe-universe.ensures.keys, length-keys_of c.args.set.pairs)

pub open_lanes-ports-requires-clause-first_era : goal.open_lanes-ports-requires-clause-first_era
open_lanes-ports-requires-clause-first_era g c = ap (λ (z : RoundFacts). z.era) c.in-Ok-next_round.ensures.begun.round_is

pub invariant_of-working : goal.invariant_of-working
invariant_of-working g c =
    let begun = c.in-Ok-next_round.ensures.begun in let opened = c.open_lanes-ports.ensures in let ports = c.open_lanes-ports.result.0 in let held = c.in-Ok.room.held in let room = c.in-Ok.ensures in
    let none : length held.items ≡ 0 = ap length room.held.0 in let few : vec_len held ≡ 0 = omega (arith, none) in let lanes : vec_len ports ≡ c.args.handles = opened.len.0 ∙ room.berths.1 in
    let bits : (arc_value c.in-Ok-next_round.begun.round).bits ≡ c.args.set.bits = ap (λ (z : TableFacts). z.bits) (sym begun.together) ∙ ap (λ (z : RoundFacts). z.bits) begun.round_is in (
      unsettled ports.items held.items (vec_len ports) (vec_len held) none few
          (opened_at c.args.plan.lanes c.args.plan.updates _ c.args.set _ c.in-Ok-next_round.begun.crew c.open_lanes-ports.new.crew ports.items (vec_len ports) (subst (λ (b : ℕ). IsLayout (shape_of b c.args.plan.lanes c.args.plan.updates (2 ^ b))) c.bits-bits.ensures c.in_default.ensures.ok.0) begun
          (subst (λ (z : RoundFacts × List Chapter). All (IsOf z 1) ports.items) (sym opened.round) opened.of_round) opened.opened (omega (arith, lanes, c.requires.lanes)) (omega (arith, ports.ok.0)) opened.round
          (opened.handed ∙ sym opened.len.0) opened.back opened.same_changes refl c.size-opened.ensures refl refl (c.from-count.ensures ∙ sym lanes) (c.from-count.ensures ∙ sym lanes)),
      room.idle.0,
      omega (arith, few, opened.room, opened.len.0),
      omega (arith, few, lanes, room.held.1),
      omega (arith, few, lanes, room.idle.1),
      ap (λ (z : Vec (ℕ × ℕ) Global). z.items) c.in-Ok-next_round.ensures.list ∙ room.list.0,
      omega (arith, ap (λ (n : ℕ). 2 ^ n) bits, c.universe-universe.ensures.value, room.list.1, ap (λ (z : Vec (ℕ × ℕ) Global). vec_capacity z) c.in-Ok-next_round.ensures.list),
      bits ∙ sym c.bits-bits.ensures,
      c.in-Ok-next_round.ensures.slots.0,
      omega (arith, c.in-Ok-next_round.ensures.slots.1, lanes, few),
    )

pub hand_out-handles-requires-clause-table : goal.hand_out-handles-requires-clause-table
hand_out-handles-requires-clause-table g c = ap (λ (z : TrieFacts). z.table) c.place-lock.ensures.knows ∙ ap (λ (z : TableFacts). z.table) (sym (ap arc_value c.of-of.ensures))

pub hand_out-handles-requires-clause-shares : goal.hand_out-handles-requires-clause-shares
hand_out-handles-requires-clause-shares g c = let shares = c.in-Ok-next_round.ensures.shares in (
  λ k d low. shares.0 k d low ∙ (λ i. (sym (ap arc_value c.of-of.ensures) i, sym c.place-lock.ensures.of i)),
  shares.1 ∙ sym (c.open_lanes-ports.ensures.len.1 ∙ c.in-Ok.ensures.berths.1),
)

pub hand_out-handles-requires-clause-ends : goal.hand_out-handles-requires-clause-ends
hand_out-handles-requires-clause-ends g c =
    let begun = c.in-Ok-next_round.ensures.begun in
    let laid = c.in_default.ensures.ok.0 in
    λ k d low. let s = c.open_lanes-ports.ensures.starts k d low in record {
      whose = s.whose;
      number_is = s.number;
      some_era = omega (arith, s.era_is);
      together = ap (λ (z : RoundFacts × List Chapter). table_of z.0) s.fresh.round_is ∙ begun.together ∙ sym (ap arc_value c.of-of.ensures);
      few_bits = let bits : (arc_value c.of-of.result.value).bits ≡ c.args.set.bits = ap (λ (z : TableFacts). z.bits) (ap arc_value c.of-of.ensures ∙ sym begun.together) ∙ ap (λ (z : RoundFacts). z.bits) begun.round_is in omega (arith, laid.bits.1, c.bits-bits.ensures, bits);
    }

pub hand_out-handles-requires-clause-locks : goal.hand_out-handles-requires-clause-locks
hand_out-handles-requires-clause-locks g c = let ports = c.open_lanes-ports.result.0.items in let held = c.in-Ok.room.held.items in
    c.open_lanes-ports.ensures.locks ∙ sym (ids_are ports) ∙ ap (λ (z : List EndFacts). map (λ (l : LaneKnown). l.id) (map lane_by z)) (sym (no_lanes ports held (ap length c.in-Ok.ensures.held.0))) ∙ ap ids_of (sym c.place-lock.ensures.knows)

pub returns-clause-new : goal.returns-clause-new
returns-clause-new g c =
    let begun = c.in-Ok-next_round.ensures.begun in let first = c.in-Ok-next_round.begun.crew in let rounds = rounds_in first in let out = c.hand_out-handles.ensures in
    let is = c.place-lock.ensures.knows in let ends = c.open_lanes-ports.result.1.items in let trie = client_of c.place-lock.result.1 in
    let firsts = handles_all (Starts rounds) (IsFirst rounds trie) trie 0 ends (λ e lane s. record { of_trie = refl; first = s.number; era_is = s.era_is; fresh = s.fresh; none_made = s.none_made }) c.open_lanes-ports.ensures.starts in
    subst (λ (z : TrieFacts × List HandleFacts). All (IsNew z.0 c.args.set c.args.plan) z.1) (λ i. (sym out.knows i, sym out.at i))
    (all_new c.args.set c.args.plan (arc_value c.in-Ok-next_round.begun.round) first trie (handles_from trie 0 ends) (ap (λ (z : TrieFacts). z.table) is) begun firsts)

pub returns-clause-lanes : goal.returns-clause-lanes
returns-clause-lanes g c = λ lane h at. let place = lanes_are (client_of c.place-lock.result.1) 0 c.open_lanes-ports.result.1.items lane h (ap (λ (z : List HandleFacts). get_elem? z lane) (sym c.hand_out-handles.ensures.at) ∙ at) in omega (arith, place)

pub returns-clause-opened : goal.returns-clause-opened
returns-clause-opened g c =
    let begun = c.in-Ok-next_round.ensures.begun in let lanes = c.open_lanes-ports.ensures in let is = c.hand_out-handles.ensures.knows ∙ c.place-lock.ensures.knows in let ports = c.open_lanes-ports.result.0.items in let held = c.in-Ok.room.held.items in
    let long : length ports ≡ vec_len c.open_lanes-ports.result.0 = search rules in let alone = sym (no_lanes ports held (ap length c.in-Ok.ensures.held.0)) in
    let count : length (map lane_by ports) ≡ c.args.handles = length-map ports lane_by ∙ long ∙ lanes.len.0 ∙ c.in-Ok.ensures.berths.1 in
    let bare : All (λ (lane : LaneKnown). lane.done ≡ []) (map lane_by ports) = All-map (λ (lane : LaneKnown). lane.done ≡ []) lane_by ports (λ k d low. (lanes.opened k d low).none_done) in
    subst (IsOpenedTrie c.args.set c.args.handles) (sym is) (record {
      given = search rules;
      bits = ap (λ (z : TableFacts). z.bits) (sym begun.together) ∙ ap (λ (z : RoundFacts). z.bits) begun.round_is;
      lane_count = subst (λ (z : List EndFacts). length (map lane_by z) ≡ c.args.handles) alone count;
      none_done = subst (λ (z : List EndFacts). All (λ (lane : LaneKnown). lane.done ≡ []) (map lane_by z)) alone bare;
      none_before = ap (λ (z : RoundFacts × List Chapter). z.1) lanes.round ∙ ap (λ (z : CrewFacts). z.past) begun.crew_is;
      members = ap (λ (z : RoundFacts × List Chapter). z.0.members) lanes.round ∙ ap (λ (z : RoundFacts). z.members) begun.round_is;
    })

pub returns-clause-handles : goal.returns-clause-handles
returns-clause-handles g c =
    let lanes = c.open_lanes-ports.ensures in let out = c.hand_out-handles.ensures in let handles = c.hand_out-handles.result in let ends = c.open_lanes-ports.result.1 in
    omega (arith, handles.ok.0, ends.ok.0, ap (λ (z : List HandleFacts). length z) out.at, handles_long (client_of c.place-lock.result.1) 0 ends.items, lanes.len.1, c.in-Ok.ensures.berths.1)

pub invariant_of-result : goal.invariant_of-result
invariant_of-result g c = let out = c.hand_out-handles.ensures in let placed = c.place-lock.ensures in (
  out.same.0 ∙ placed.of ∙ (λ i. (arc_value (sym placed.lock i)).table.shared.table_id),
  out.free,
  subst (λ (z : ℕ × TrieFacts). IsOwner z.0 z.1) (λ i. (sym out.same.1 i, sym out.knows i)) placed.owner,
)
