use Rattle.std.proofs.Common.{◌≡◌, ℕ, ◌+◌, ◌^◌, ◌<◌, ◌∙◌, ◌++◌, [], List, ap, inl, inr, length, map, refl, sym, vec_len, arith}
use Rattle.std.specs.Prelude.{reverse}
use Rattle.std.specs.Arc.{arc_value}
use Rattle.aug_live.specs.inside.LaneKnowledge.{EndFacts, lane_by}
use Rattle.aug_live.specs.inside.Rolls.{IsOf, rounds_in}
use Rattle.aug_live.proofs.Counted.{desk_keeps, exhausted_so}
use Rattle.aug_trie.specs.Crew.{CrewFacts}
use Rattle.aug_live.proofs.Desks.{all_taken, asked_on, asked_part, kept_taken, may_take, rolled_on, taken_of, unsettled, slots_as}
use Rattle.aug_live.proofs.Lanes.{lanes_same, keeps_self}
use Rattle.aug_live.proofs.Rolled.{all_held, all_part, lanes_rolled, longer, may_go_on, next_ended, next_era, next_leads, next_table_as, none_held, ports_as, roomy}
use Rattle.aug_live.proofs.desk.Working.roll.Goals as goal
use Rattle.aug_live.proofs.desk.Working.roll.Goals.{then-counts-via-then-counts, then-counts-via-else-counts+then-counts-gt-MOST_BEFORE, then-counts-via-else-counts+else-counts-gt-MOST_BEFORE+then-counts-gt-MOST_BEFORE-2}

pub returns-then-counts-clause-goes_on : goal.returns-then-counts-clause-goes_on
returns-then-counts-clause-goes_on g c = keeps_self c.args.self

pub returns-then-counts-clause-refused : goal.returns-then-counts-clause-refused
returns-then-counts-clause-refused g c = let w = c.working.inside in let was = c.working.invariant.0 in let rounds = was.rounds_are in
    exhausted_so c.args.self (arc_value w.round) w.crew _ _ w.counts.inserts w.counts.removals c.working.view_is was.accounts.past
    (elim c.then-counts.branch [
      | then-counts-via-then-counts b ↦ inl (omega arith)
      | then-counts-via-else-counts+then-counts-gt-MOST_BEFORE b ↦ inr (inl (omega arith))
      | then-counts-via-else-counts+else-counts-gt-MOST_BEFORE+then-counts-gt-MOST_BEFORE-2 b ↦ inr (inr (omega arith))
    ])

pub may_renew-requires-clause-slots : goal.may_renew-requires-clause-slots
may_renew-requires-clause-slots g c = let there : arc_value c.working.inside.round ≡ c.deref.result.now = sym c.deref.ensures in slots_as _ _ c.working.inside.slots.items there c.working.invariant.8

pub invariant_of-working : goal.invariant_of-working
invariant_of-working g c = let w = c.working.inside in let inv = c.working.invariant in let m : CrewFacts = c.may_renew.new.crew in let now_working = asked_on w.crew m c.may_renew.result c.may_renew.ensures.crew inv.0 in let back = c.put_all_back.ensures in let there : arc_value w.round ≡ c.deref.result.now = sym c.deref.ensures in
    let n : ℕ = vec_len c.put_all_back.new.ports + vec_len c.put_all_back.new.held in let as_many : n ≡ vec_len w.ports + vec_len w.held = back.len in (
      ports_as back.same as_many now_working,
      inv.1,
      roomy as_many back.room inv.2,
      roomy as_many back.held_room inv.3,
      roomy as_many refl inv.4,
      inv.5,
      inv.6,
      inv.7,
      slots_as _ _ c.may_renew.new.slots.items (sym there) c.may_renew.ensures.slots,
      c.may_renew.ensures.len ∙ inv.9 ∙ sym as_many,
    )

pub returns-then-not-may_renew-clause-goes_on : goal.returns-then-not-may_renew-clause-goes_on
returns-then-not-may_renew-clause-goes_on g c = let w = c.working.inside in let m : CrewFacts = c.may_renew.new.crew in
    desk_keeps _ (arc_value w.round) w.crew m _ _ c.working.view_is (lanes_same _ _ (ap (map lane_by) c.put_all_back.ensures.same)) (asked_part w.crew m c.may_renew.result c.may_renew.ensures.crew)

pub invariant_of-working-in-Err : goal.invariant_of-working-in-Err
invariant_of-working-in-Err g c = let w = c.working.inside in let inv = c.working.invariant in let m : CrewFacts = c.may_renew.new.crew in let now_working = asked_on w.crew m c.may_renew.result c.may_renew.ensures.crew inv.0 in let took = c.take_all.ensures in let there : arc_value w.round ≡ c.deref.result.now = sym c.deref.ensures in
    let n : ℕ = vec_len c.take_all.new.ports + vec_len c.take_all.new.held in let as_many : n ≡ vec_len w.ports + vec_len w.held = took.len in (
      ports_as took.same as_many now_working,
      inv.1,
      roomy as_many took.room inv.2,
      roomy as_many took.held_room inv.3,
      roomy as_many refl inv.4,
      inv.5,
      inv.6,
      inv.7,
      slots_as _ _ c.may_renew.new.slots.items (sym there) c.may_renew.ensures.slots,
      c.may_renew.ensures.len ∙ inv.9 ∙ sym as_many,
    )

pub renew-crew-requires-clause-free : goal.renew-crew-requires-clause-free
renew-crew-requires-clause-free g c = c.give_all.ensures.free ∙ ap (λ (z : CrewFacts). z.free) c.may_renew.ensures.crew ∙ c.if-not-may_renew.false

pub take_all-requires-clause-rolls : goal.take_all-requires-clause-rolls
take_all-requires-clause-rolls g c = may_take c.working.inside.ports.items c.working.inside.held.items c.working.invariant.0

pub returns-in-Err-clause-goes_on : goal.returns-in-Err-clause-goes_on
returns-in-Err-clause-goes_on g c = let w = c.working.inside in let m : CrewFacts = c.may_renew.new.crew in let now_working = asked_on w.crew m c.may_renew.result c.may_renew.ensures.crew c.working.invariant.0 in
    desk_keeps _ (arc_value w.round) w.crew m _ _ c.working.view_is (lanes_same _ _ (ap (map lane_by) c.take_all.ensures.same)) (asked_part w.crew m c.may_renew.result c.may_renew.ensures.crew)

pub give_all-requires-clause-of_round : goal.give_all-requires-clause-of_round
give_all-requires-clause-of_round g c = let w = c.working.inside in let m : CrewFacts = c.may_renew.new.crew in let now_working = asked_on w.crew m c.may_renew.result c.may_renew.ensures.crew c.working.invariant.0 in
    taken_of (IsOf (rounds_in m) w.counts.rounds) c.take_all.new.held.items (w.ports.items ++ reverse w.held.items) (all_taken w.ports.items w.held.items c.take_all.new.ports.items c.take_all.new.held.items c.in_default.ensures.all c.take_all.ensures.same) now_working.of_round

pub invariant_of-working-2 : goal.invariant_of-working-2
invariant_of-working-2 g c =
    let inv = c.working.invariant in let w = c.working.inside in let m : CrewFacts = c.may_renew.new.crew in let now_working = asked_on w.crew m c.may_renew.result c.may_renew.ensures.crew c.working.invariant.0 in let gave = c.give_all.ensures in let dealt = c.deal_all.ensures in let took = c.take_all.ensures in let there : arc_value w.round ≡ c.deref.result.now = sym c.deref.ensures in
    let none : c.take_all.new.ports.items ≡ [] = c.in_default.ensures.all in let zero : length c.take_all.new.ports.items ≡ 0 = ap length none in
    let all : List EndFacts = w.ports.items ++ reverse w.held.items in let taken = all_taken w.ports.items w.held.items c.take_all.new.ports.items c.take_all.new.held.items none took.same in
    let kept = kept_taken c.give_all.new.idle.items c.take_all.new.held.items all gave.kept taken in
    let held : vec_len c.give_all.new.idle ≡ vec_len w.ports + vec_len w.held = all_held none c.take_all.new.ports.ok.0 took.len gave.len in let as_many : vec_len c.deal_all.new.ports ≡ vec_len w.ports + vec_len w.held = dealt.len ∙ held in
    let few : vec_len c.give_all.new.held ≡ 0 = c.give_all.new.held.ok.0 ∙ ap length gave.none_left in let n : vec_len c.deal_all.new.ports + vec_len c.give_all.new.held ≡ vec_len w.ports + vec_len w.held = none_held gave.none_left c.give_all.new.held.ok.0 as_many in
    let few_in : c.renew-crew.result.1 < 2 ^ 32 = c.renew-crew.type_inv.1.1.1.1.0.1 in let few_out : c.renew-crew.result.2 < 2 ^ 32 = c.renew-crew.type_inv.1.1.1.1.1.0.1 in (
      unsettled c.deal_all.new.ports.items c.give_all.new.held.items (vec_len c.deal_all.new.ports) (vec_len c.give_all.new.held) (ap length gave.none_left) few
          (rolled_on w.plan.lanes w.plan.updates w.counts _ (arc_value w.round) m c.give_all.new.crew c.renew-crew.result.0 c.deal_all.new.crew all c.give_all.new.idle.items c.deal_all.new.ports.items _ _ c.renew-crew.result.1 c.renew-crew.result.2
          now_working c.renew-crew.ensures gave.round dealt.of_round as_many kept gave.back gave.changes dealt.kept dealt.same_changes dealt.round (dealt.handed ∙ held) dealt.back
          refl refl (ap (λ k. w.counts.inserts + k) c.from.ensures) (ap (λ k. w.counts.removals + k) c.from-2.ensures) refl refl (may_go_on c.if-counts-gt-MOST_BEFORE.false c.from.ensures few_in) (may_go_on c.if-counts-gt-MOST_BEFORE-2.false c.from-2.ensures few_out)),
      dealt.none_left,
      roomy n (dealt.room.0 ∙ took.room) inv.2,
      roomy n (gave.room.0 ∙ took.held_room) inv.3,
      roomy n (dealt.room.1 ∙ gave.room.1) inv.4,
      inv.5,
      inv.6,
      inv.7,
      slots_as _ _ c.may_renew.new.slots.items (sym there) c.may_renew.ensures.slots,
      c.may_renew.ensures.len ∙ inv.9 ∙ sym n,
    )

pub returns-clause-rolls : goal.returns-clause-rolls
returns-clause-rolls g c = λ _. longer c.working.inside.crew c.deal_all.new.crew c.working.view_is refl c.may_renew.ensures.crew c.give_all.ensures.round c.renew-crew.ensures c.deal_all.ensures.round

pub deal_all-requires-clause-ready : goal.deal_all-requires-clause-ready
deal_all-requires-clause-ready g c = let w = c.working.inside in let m : CrewFacts = c.may_renew.new.crew in let now_working = asked_on w.crew m c.may_renew.result c.may_renew.ensures.crew c.working.invariant.0 in
    next_ended now_working c.give_all.new.crew c.renew-crew.result.0 c.give_all.ensures.round c.renew-crew.ensures c.give_all.new.idle.items c.give_all.ensures.back

pub deal_all-requires-clause-led : goal.deal_all-requires-clause-led
deal_all-requires-clause-led g c = let w = c.working.inside in let m : CrewFacts = c.may_renew.new.crew in let now_working = asked_on w.crew m c.may_renew.result c.may_renew.ensures.crew c.working.invariant.0 in next_leads now_working c.give_all.new.crew c.renew-crew.result.0 c.give_all.ensures.round c.renew-crew.ensures

pub deal_all-requires-clause-era : goal.deal_all-requires-clause-era
deal_all-requires-clause-era g c = let w = c.working.inside in let m : CrewFacts = c.may_renew.new.crew in let now_working = asked_on w.crew m c.may_renew.result c.may_renew.ensures.crew c.working.invariant.0 in next_era now_working c.give_all.new.crew c.renew-crew.result.0 c.give_all.ensures.round c.renew-crew.ensures

pub deal_all-requires-clause-together : goal.deal_all-requires-clause-together
deal_all-requires-clause-together g c = let w = c.working.inside in let m : CrewFacts = c.may_renew.new.crew in let now_working = asked_on w.crew m c.may_renew.result c.may_renew.ensures.crew c.working.invariant.0 in next_table_as now_working c.give_all.new.crew c.renew-crew.result.0 c.give_all.ensures.round c.renew-crew.ensures c.deref-4.ensures

pub returns-clause-goes_on : goal.returns-clause-goes_on
returns-clause-goes_on g c = let w = c.working.inside in let gave = c.give_all.ensures in let dealt = c.deal_all.ensures in
    desk_keeps _ (arc_value w.round) w.crew c.deal_all.new.crew _ _ c.working.view_is
    (lanes_rolled (w.ports.items ++ reverse w.held.items) c.take_all.new.ports.items c.take_all.new.held.items c.give_all.new.idle.items c.deal_all.new.ports.items c.give_all.new.held.items c.in_default.ensures.all c.take_all.ensures.same gave.kept dealt.kept gave.none_left)
    (all_part w.crew c.may_renew.new.crew c.give_all.new.crew c.renew-crew.result.0 c.deal_all.new.crew c.may_renew.ensures.crew gave.round gave.goes_on c.renew-crew.ensures dealt.round dealt.goes_on)
