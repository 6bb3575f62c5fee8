use Rattle.std.proofs.Common.{ap, arith, map, subst, sym}
use Rattle.std.specs.Prelude.{reverse}
use Rattle.std.specs.Arc.{arc_value}
use Rattle.aug_trie.specs.Chains.{IsPart}
use Rattle.aug_trie.specs.Crew.{CrewFacts, crew_chain}
use Rattle.aug_trie.proofs.Chaining.{part_refl}
use Rattle.aug_live.specs.inside.LaneKnowledge.{lane_by}
use Rattle.aug_live.proofs.Counted.{crew_part, desk_keeps}
use Rattle.aug_live.proofs.Lanes.{lane_same, lanes_same, keeps_self}
use Rattle.aug_live.proofs.OneLane.{as_before, begun, gave_on, lanes_on, mine, stays}
use Rattle.aug_live.proofs.desk.Working.goes_on.Goals as goal

pub returns-then-self-era : goal.returns-then-self-era
returns-then-self-era g c = record { goes_on = keeps_self c.args.self.now }

pub returns-then-handed-self : goal.returns-then-handed-self
returns-then-handed-self g c = record { goes_on = keeps_self c.args.self.now }

pub replace-requires-clause-of_round : goal.replace-requires-clause-of_round
replace-requires-clause-of_round g c = let w = c.self.inside in mine w.ports.items (reverse w.held.items) c.self.invariant.0 c.args.lane c.index_mut.result.now (omega arith) c.index_mut.ensures.value

pub replace-requires-clause-some : goal.replace-requires-clause-some
replace-requires-clause-some g c = let w = c.self.inside in begun w.ports.items (reverse w.held.items) c.self.invariant.0 c.args.lane c.index_mut.result.now (omega arith) c.index_mut.ensures.value

pub invariant_of-self : goal.invariant_of-self
invariant_of-self g c =
    let inv = c.self.invariant in let w = c.self.inside in let same = c.in_err-replace.ensures.same in
    (stays w.ports.items (reverse w.held.items) inv.0 c.args.lane c.index_mut.result.now (omega arith) c.index_mut.ensures.value c.replace.new.self c.replace.new.crew same.0 same.1, inv.1, inv.2, inv.3, inv.4, inv.5, inv.6, inv.7, inv.8, inv.9)

pub invariant_of-self-2 : goal.invariant_of-self-2
invariant_of-self-2 g c =
    let inv = c.self.invariant in let w = c.self.inside in let next = c.in_ok-replace.ensures in let changes = next.changes in (
      gave_on w.ports.items (reverse w.held.items) inv.0 c.args.lane c.index_mut.result.now (omega arith) c.index_mut.ensures.value c.replace.new.self c.replace.new.crew changes.0 next.of_round changes.2 changes.1 next.round next.handed next.back
          (omega (arith, inv.0.within, c.if-handed-self.false)),
      inv.1,
      inv.2,
      inv.3,
      inv.4,
      inv.5,
      inv.6,
      inv.7,
      inv.8,
      inv.9,
    )

pub returns-in_err-replace : goal.returns-in_err-replace
returns-in_err-replace g c = let w = c.self.inside in let same = c.in_err-replace.ensures.same in record {
  goes_on = desk_keeps _ (arc_value w.round) w.crew c.replace.new.crew _ _ c.self.view_is
      (lanes_same _ _ (ap (map lane_by) (as_before w.ports.items (reverse w.held.items) c.self.invariant.0 c.args.lane c.index_mut.result.now (omega arith) c.index_mut.ensures.value c.replace.new.self same.0)))
      (subst (λ (z : CrewFacts). IsPart (crew_chain w.crew) (crew_chain z)) (sym same.1) (part_refl (crew_chain w.crew)));
}

pub returns : goal.returns
returns g c = let w = c.self.inside in let next = c.in_ok-replace.ensures in record {
  goes_on = desk_keeps _ (arc_value w.round) w.crew c.replace.new.crew _ _ c.self.view_is
      (lanes_on w.ports.items (reverse w.held.items) c.self.invariant.0 c.args.lane c.index_mut.result.now (omega arith) c.index_mut.ensures.value c.replace.new.self (lane_same _ _ (ap lane_by next.changes.2)))
      (crew_part w.crew c.replace.new.crew next.round next.goes_on);
}
