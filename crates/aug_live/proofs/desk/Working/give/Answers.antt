use Rattle.std.proofs.Common.{◌≡◌, ℕ, ◌+◌, ◌++◌, ◌<◌, ◌≤◌, ◌^◌, map, ◌∙◌, List, ap, length, refl, sym, subst, arith}
use Rattle.std.specs.List.{sum_by}
use Rattle.std.specs.Arc.{arc_value}
use Rattle.aug_trie.specs.Chains.{IsPart}
use Rattle.aug_trie.specs.Crew.{CrewFacts, crew_chain}
use Rattle.aug_trie.specs.Round.{TableFacts}
use Rattle.aug_trie.specs.Pass.{chain_of}
use Rattle.aug_trie.proofs.Chaining.{part_refl}
use Rattle.atomic_table.specs.Seated.{TableId}
use mathlib.Core.Option.{some}
use lib.ListN.{get_elem?}
use Rattle.std.specs.Prelude.{Some, reverse}
use Rattle.aug_live.specs.LiveHandles.{HandleFacts}
use Rattle.aug_live.specs.LiveTries.{KnowsMore, LaneKnown, TrieFacts, ids_of}
use Rattle.aug_live.specs.inside.LaneKnowledge.{is_out_by, lane_by}
use Rattle.aug_live.specs.inside.Rolls.{kept_of}
use Rattle.aug_live.proofs.Accounting.{few_handles, few_missing}
use Rattle.aug_live.proofs.Counted.{desk_on}
use Rattle.aug_live.proofs.Desks.{slots_as}
use Rattle.aug_live.proofs.Dealing.{gets_counts, gets_lane}
use Rattle.aug_live.proofs.Lanes.{ids_same, lanes_same, more_self}
use Rattle.aug_live.proofs.OneLane.{as_before, begun, handles_on, id_stood, lane_is, lanes_on, mine, number_low, stays}
use Rattle.aug_live.proofs.Rolled.{at_most, below, below_next, more, one_more}
use Rattle.aug_live.proofs.desk.Working.give.Goals as goal
use Rattle.aug_live.proofs.desk.Working.give.Goals.{then-self-via-then-self, then-self-via-else-self+then-self-2}

pub returns-then-lane-len-clause-more : goal.returns-then-lane-len-clause-more
returns-then-lane-len-clause-more g c = more_self c.args.self.now

pub returns-then-self-clause-more : goal.returns-then-self-clause-more
returns-then-self-clause-more g c = more_self c.args.self.now

pub returns-in_default-clause-more : goal.returns-in_default-clause-more
returns-in_default-clause-more g c = more_self c.args.self.now

pub returns-in_default-try_clone-clause-more : goal.returns-in_default-try_clone-clause-more
returns-in_default-try_clone-clause-more g c = more_self c.args.self.now

pub returns-then-self-clause-refused : goal.returns-then-self-clause-refused
returns-then-self-clause-refused g c = let w = c.self.inside in let all = w.ports.items ++ reverse w.held.items in let was = c.self.invariant.0.accounts in
    let handles = was.handles in let missing = was.missing in let few = few_handles all in let lost = few_missing (map kept_of all) in
    subst (λ (z : TrieFacts). 2 ^ 64 ≤ sum_by (λ (l : LaneKnown). length l.done) z.lanes + length z.lanes + 1) c.self.view_is
    (elim c.then-self.branch [ then-self-via-then-self b ↦ omega arith | then-self-via-else-self+then-self-2 b ↦ omega arith ])

pub end_of-requires-clause-slots : goal.end_of-requires-clause-slots
end_of-requires-clause-slots g c = let there : arc_value c.self.inside.round ≡ c.deref.result.now = sym c.deref.ensures in slots_as _ _ c.self.inside.slots.items there c.self.invariant.8

pub invariant_of-self : goal.invariant_of-self
invariant_of-self g c = let inv = c.self.invariant in let there : arc_value c.self.inside.round ≡ c.deref.result.now = sym c.deref.ensures in
    (inv.0, inv.1, inv.2, inv.3, inv.4, inv.5, inv.6, inv.7, slots_as _ _ c.end_of.new.slots.items (sym there) c.end_of.ensures.slots, c.end_of.ensures.len ∙ inv.9)

pub returns-in_default-end_of-clause-more : goal.returns-in_default-end_of-clause-more
returns-in_default-end_of-clause-more g c = subst (KnowsMore c.args.self.now) (sym c.self.view_is) (more_self c.args.self.now)

pub renew-requires-clause-of_round : goal.renew-requires-clause-of_round
renew-requires-clause-of_round g c = let w = c.self.inside in mine w.ports.items (reverse w.held.items) c.self.invariant.0 c.args.lane c.index_mut.result.now (below c.if-lane-len.false (c.len.ensures ∙ w.ports.ok.0)) c.index_mut.ensures.value

pub renew-requires-clause-some : goal.renew-requires-clause-some
renew-requires-clause-some g c = let w = c.self.inside in begun w.ports.items (reverse w.held.items) c.self.invariant.0 c.args.lane c.index_mut.result.now (below c.if-lane-len.false (c.len.ensures ∙ w.ports.ok.0)) c.index_mut.ensures.value

pub renew-requires-clause-newer : goal.renew-requires-clause-newer
renew-requires-clause-newer g c = let w = c.self.inside in below_next (number_low w.ports.items (reverse w.held.items) c.self.invariant.0 c.args.lane c.index_mut.result.now (below c.if-lane-len.false (c.len.ensures ∙ w.ports.ok.0)) c.index_mut.ensures.value)

pub invariant_of-self-in-Ok-renew : goal.invariant_of-self-in-Ok-renew
invariant_of-self-in-Ok-renew g c =
    let inv = c.self.invariant in let w = c.self.inside in let there : arc_value w.round ≡ c.deref.result.now = sym c.deref.ensures in let gets = c.in-Ok-renew.ensures.gets in let old = c.index_mut.result.now in let number = gets.number_is in
    let counts = gets_counts _ old c.renew.new.self (mine w.ports.items (reverse w.held.items) c.self.invariant.0 c.args.lane c.index_mut.result.now (below c.if-lane-len.false (c.len.ensures ∙ w.ports.ok.0)) c.index_mut.ensures.value).whose gets in (
      handles_on w.ports.items (reverse w.held.items) c.self.invariant.0 c.args.lane c.index_mut.result.now (below c.if-lane-len.false (c.len.ensures ∙ w.ports.ok.0)) c.index_mut.ensures.value c.renew.new.self c.renew.new.crew (w.counts.handles + 1) (w.counts.missing + 1) c.renew.ensures.same c.in-Ok-renew.ensures.port gets.before (more w.counts.handles) (at_most number) (one_more _ _ counts.0) (one_more _ _ counts.1),
      inv.1,
      inv.2,
      inv.3,
      inv.4,
      inv.5,
      inv.6,
      inv.7,
      slots_as _ _ c.end_of.new.slots.items (sym there) c.end_of.ensures.slots,
      c.end_of.ensures.len ∙ inv.9,
    )

pub invariant_of-self-in-Err-renew : goal.invariant_of-self-in-Err-renew
invariant_of-self-in-Err-renew g c = let inv = c.self.invariant in let w = c.self.inside in let there : arc_value w.round ≡ c.deref.result.now = sym c.deref.ensures in
    (stays w.ports.items (reverse w.held.items) c.self.invariant.0 c.args.lane c.index_mut.result.now (below c.if-lane-len.false (c.len.ensures ∙ w.ports.ok.0)) c.index_mut.ensures.value c.renew.new.self c.renew.new.crew c.in-Err.ensures.missed c.renew.ensures.same, inv.1, inv.2, inv.3, inv.4, inv.5, inv.6, inv.7, slots_as _ _ c.end_of.new.slots.items (sym there) c.end_of.ensures.slots, c.end_of.ensures.len ∙ inv.9)

pub returns-in-Ok-renew-clause-more : goal.returns-in-Ok-renew-clause-more
returns-in-Ok-renew-clause-more g c =
    let w = c.self.inside in let old = c.index_mut.result.now in let number = number_low w.ports.items (reverse w.held.items) c.self.invariant.0 c.args.lane c.index_mut.result.now (below c.if-lane-len.false (c.len.ensures ∙ w.ports.ok.0)) c.index_mut.ensures.value in let newer : old.known.number < w.counts.handles + 1 = below_next number in
    desk_on _ (arc_value w.round) w.crew c.renew.new.crew _ _ c.self.view_is (lanes_on w.ports.items (reverse w.held.items) c.self.invariant.0 c.args.lane c.index_mut.result.now (below c.if-lane-len.false (c.len.ensures ∙ w.ports.ok.0)) c.index_mut.ensures.value c.renew.new.self (gets_lane _ old c.renew.new.self newer (mine w.ports.items (reverse w.held.items) c.self.invariant.0 c.args.lane c.index_mut.result.now (below c.if-lane-len.false (c.len.ensures ∙ w.ports.ok.0)) c.index_mut.ensures.value).whose c.in-Ok-renew.ensures.gets))
    (subst (λ (z : CrewFacts). IsPart (crew_chain w.crew) (crew_chain z)) (sym c.renew.ensures.same) (part_refl (crew_chain w.crew)))

pub invariant_of-result : goal.invariant_of-result
invariant_of-result g c =
    let inv = c.self.invariant in let w = c.self.inside in let end = c.in-Ok-renew.ensures.handle in let theirs = end.0 in let shared : arc_value c.in-Ok-try_clone.round ≡ arc_value w.round = c.in-Ok-try_clone.ensures in
    let stood = id_stood w.ports.items (reverse w.held.items) c.self.invariant.0 c.args.lane c.index_mut.result.now (below c.if-lane-len.false (c.len.ensures ∙ w.ports.ok.0)) c.index_mut.ensures.value in (
      record {
        mine = c.in-Ok-renew.end;
        there = refl;
        whose = theirs.whose;
        id = ap (λ (z : List TableId). get_elem? z c.args.lane) (c.requires.desk ∙ ap ids_of (sym c.self.view_is)) ∙ stood ∙ ap some (sym end.1);
        number_is = theirs.number_is;
        some_era = theirs.some_era;
        together = theirs.together ∙ inv.0.together ∙ sym shared;
        bits_are = ap (λ (z : TableFacts). z.bits) (theirs.together ∙ inv.0.together) ∙ inv.7;
        few_bits = let bits = ap (λ (z : TableFacts). z.bits) inv.0.together ∙ inv.7 in subst (λ (n : ℕ). n ≤ 16) bits theirs.few_bits;
      },
      c.in-Ok-end_of.ensures.end ∙ ap Some (c.deref.ensures ∙ sym shared),
      c.requires.table ∙ sym (ap (λ (z : TrieFacts). z.table) c.self.view_is) ∙ ap (λ (z : TableFacts). z.table) (sym shared),
    )

pub returns-in-Ok-renew-clause-bits : goal.returns-in-Ok-renew-clause-bits
returns-in-Ok-renew-clause-bits g c = let theirs = c.in-Ok-renew.ensures.handle.0 in subst (λ (z : TableFacts). z.bits ≤ 16) (sym theirs.together) theirs.few_bits

pub returns-in-Ok-renew-clause-of_trie : goal.returns-in-Ok-renew-clause-of_trie
returns-in-Ok-renew-clause-of_trie g c =
    let was = c.self.invariant.0 in let w = c.self.inside in let old = c.index_mut.result.now in let port = c.renew.new.self in let renewed = c.in-Ok-renew.ensures in let end = renewed.handle.0 in
    let number = number_low w.ports.items (reverse w.held.items) c.self.invariant.0 c.args.lane c.index_mut.result.now (below c.if-lane-len.false (c.len.ensures ∙ w.ports.ok.0)) c.index_mut.ensures.value in let newer : old.known.number < w.counts.handles + 1 = below_next number in
    let on = lanes_on w.ports.items (reverse w.held.items) c.self.invariant.0 c.args.lane c.index_mut.result.now (below c.if-lane-len.false (c.len.ensures ∙ w.ports.ok.0)) c.index_mut.ensures.value port (gets_lane _ old port newer (mine w.ports.items (reverse w.held.items) c.self.invariant.0 c.args.lane c.index_mut.result.now (below c.if-lane-len.false (c.len.ensures ∙ w.ports.ok.0)) c.index_mut.ensures.value).whose renewed.gets) in record {
      table = ap (λ (z : TableFacts). z.table) (end.together ∙ was.together);
      of_lanes = c.requires.desk ∙ ap ids_of (sym c.self.view_is) ∙ sym (ids_same _ _ on);
      of_lane = refl;
      known = lane_by port;
      last = lane_is w.ports.items (reverse w.held.items) c.self.invariant.0 c.args.lane c.index_mut.result.now (below c.if-lane-len.false (c.len.ensures ∙ w.ports.ok.0)) c.index_mut.ensures.value port;
      is_last = (renewed.gets.number_is ∙ sym end.number_is, ap is_out_by renewed.gets.whose);
      none_made = renewed.handle.2;
      bits = ap (λ (z : TableFacts). z.bits) (end.together ∙ was.together);
      knows = subst (λ (z : CrewFacts × HandleFacts). IsPart (crew_chain z.0) (chain_of z.1.half)) (λ i. (sym c.renew.ensures.same i, sym renewed.at i)) renewed.knows;
    }

pub returns-in-Err-clause-more : goal.returns-in-Err-clause-more
returns-in-Err-clause-more g c = let w = c.self.inside in
    desk_on _ (arc_value w.round) w.crew c.renew.new.crew _ _ c.self.view_is (lanes_same _ _ (ap (map lane_by) (as_before w.ports.items (reverse w.held.items) c.self.invariant.0 c.args.lane c.index_mut.result.now (below c.if-lane-len.false (c.len.ensures ∙ w.ports.ok.0)) c.index_mut.ensures.value c.renew.new.self c.in-Err.ensures.missed)))
    (subst (λ (z : CrewFacts). IsPart (crew_chain w.crew) (crew_chain z)) (sym c.renew.ensures.same) (part_refl (crew_chain w.crew)))
