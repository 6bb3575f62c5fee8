use Rattle.std.proofs.Common.{◌≡◌, ◌∙◌, ap, refl, sym, map, ◌++◌}
use Rattle.std.specs.Prelude.{reverse}
use Rattle.std.specs.Arc.{arc_value}
use Rattle.aug_trie.specs.Crew.{CrewFacts, crew_chain}
use Rattle.aug_trie.proofs.Chaining.{part_trans}
use Rattle.aug_live.specs.LiveTries.{TrieFacts}
use Rattle.aug_live.specs.inside.LaneKnowledge.{lane_by}
use Rattle.aug_live.specs.inside.Rolls.{kept_of, rounds_in}
use Rattle.aug_live.proofs.Accounting.{accounts_kept}
use Rattle.aug_live.proofs.Counted.{crew_part, desk_keeps}
use Rattle.aug_live.proofs.Desks.{asked_on, asked_part, kept_on, slots_as}
use Rattle.aug_live.proofs.Lanes.{keeps_self, lanes_refl}
use Rattle.aug_live.proofs.Rolled.{none_more, roomy}
use Rattle.aug_live.proofs.desk.Working.prepare.Goals as goal

pub returns-then-not-is_empty-clause-goes_on : goal.returns-then-not-is_empty-clause-goes_on
returns-then-not-is_empty-clause-goes_on g c = keeps_self c.args.self.now

pub returns-then-left-late-clause-goes_on : goal.returns-then-left-late-clause-goes_on
returns-then-left-late-clause-goes_on g c = keeps_self c.args.self.now

pub may_renew-requires-clause-slots : goal.may_renew-requires-clause-slots
may_renew-requires-clause-slots g c = let there : arc_value c.self.inside.round ≡ c.deref.result.now = sym c.deref.ensures in slots_as _ _ c.self.inside.slots.items there c.self.invariant.8

pub invariant_of-self : goal.invariant_of-self
invariant_of-self g c = let was = c.self.invariant in let w = c.self.inside in let m : CrewFacts = c.may_renew.new.crew in let done = c.prepare-done.ensures in let is = done.crew_is in
    let there : arc_value w.round ≡ c.deref.result.now = sym c.deref.ensures in
    let asked = asked_on w.crew m c.may_renew.result c.may_renew.ensures.crew was.0 in
    let handed = ap (λ (z : CrewFacts). z.handed) is in let back = ap (λ (z : CrewFacts). z.back) is in
    let accounts = accounts_kept (arc_value w.round).bits w.counts m c.prepare-done.new.self (map kept_of (w.ports.items ++ reverse w.held.items)) (map kept_of (w.ports.items ++ reverse w.held.items)) (ap (λ (z : CrewFacts). z.past) is) done.same_changes refl asked.accounts in (
      kept_on _ _ w.counts w.counts _ m c.prepare-done.new.self (w.ports.items ++ reverse w.held.items) (w.ports.items ++ reverse w.held.items) _ _ 0 asked asked.of_round refl accounts refl refl refl refl (ap rounds_in is) (none_more handed) (none_more back) (roomy handed refl asked.within),
      was.1,
      was.2,
      was.3,
      was.4,
      was.5,
      was.6,
      was.7,
      slots_as _ _ c.may_renew.new.slots.items (sym there) c.may_renew.ensures.slots,
      c.may_renew.ensures.len ∙ was.9,
    )

pub returns-clause-goes_on : goal.returns-clause-goes_on
returns-clause-goes_on g c = let w = c.self.inside in let m : CrewFacts = c.may_renew.new.crew in let done = c.prepare-done.ensures in
    desk_keeps _ (arc_value w.round) w.crew c.prepare-done.new.self _ _ c.self.view_is (lanes_refl (map lane_by (w.ports.items ++ reverse w.held.items)))
    (part_trans (crew_chain w.crew) (crew_chain m) (crew_chain c.prepare-done.new.self) (asked_part w.crew m c.may_renew.result c.may_renew.ensures.crew) (crew_part m c.prepare-done.new.self (ap rounds_in done.crew_is) done.goes_on))

pub returns-clause-past : goal.returns-clause-past
returns-clause-past g c = ap (λ (z : CrewFacts). z.past) c.prepare-done.ensures.crew_is ∙ ap (λ (z : CrewFacts). z.past) c.may_renew.ensures.crew ∙ ap (λ (z : TrieFacts). z.rounds.past) c.self.view_is
