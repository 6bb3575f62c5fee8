use Rattle.std.proofs.Common.{ap, refl, arith, map, ◌++◌}
use Rattle.std.specs.Prelude.{reverse}
use Rattle.std.specs.Arc.{arc_value}
use Rattle.aug_trie.specs.Crew.{CrewFacts}
use Rattle.aug_live.specs.inside.LaneKnowledge.{lane_by}
use Rattle.aug_live.specs.inside.Rolls.{kept_of, rounds_in}
use Rattle.aug_live.proofs.Accounting.{accounts_kept}
use Rattle.aug_live.proofs.Counted.{crew_part, desk_keeps}
use Rattle.aug_live.proofs.Desks.{kept_on}
use Rattle.aug_live.proofs.Lanes.{lanes_refl}
use Rattle.aug_live.proofs.desk.Working.learn.Goals as goal

pub invariant_of-working : goal.invariant_of-working
invariant_of-working g c = let was = c.working.invariant in let w = c.working.inside in let is = c.learn.ensures.crew_is in let handed = ap (λ (z : CrewFacts). z.handed) is in let back = ap (λ (z : CrewFacts). z.back) is in
    let accounts = accounts_kept (arc_value w.round).bits w.counts w.crew c.learn.new.self (map kept_of (w.ports.items ++ reverse w.held.items)) (map kept_of (w.ports.items ++ reverse w.held.items)) (ap (λ (z : CrewFacts). z.past) is) c.learn.ensures.learns.same_changes refl was.0.accounts in
    (kept_on _ _ w.counts w.counts _ w.crew c.learn.new.self (w.ports.items ++ reverse w.held.items) (w.ports.items ++ reverse w.held.items) _ _ 0 was.0 was.0.of_round refl accounts refl refl refl refl (ap rounds_in is) (omega (arith, handed)) (omega (arith, back)) (omega (arith, handed, was.0.within)), was.1, was.2, was.3, was.4, was.5, was.6, was.7, was.8, was.9)

pub returns-clause-goes_on : goal.returns-clause-goes_on
returns-clause-goes_on g c = let w = c.working.inside in let learnt = c.learn.ensures in
    desk_keeps _ (arc_value w.round) w.crew c.learn.new.self _ _ c.working.view_is (lanes_refl (map lane_by (w.ports.items ++ reverse w.held.items))) (crew_part w.crew c.learn.new.self (ap rounds_in learnt.crew_is) learnt.learns.goes_on)
