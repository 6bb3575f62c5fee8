use Rattle.std.proofs.Common.{◌≡◌, ◌∙◌, ◌+◌, ◌++◌, [], ℕ, List, ap, map, refl, subst, sym}
use Rattle.std.specs.Prelude.{reverse}
use Rattle.std.specs.Arc.{arc_value}
use Rattle.aug_trie.specs.Crew.{crew_chain}
use Rattle.aug_trie.proofs.Chaining.{part_refl}
use Rattle.aug_live.specs.Ledgers.{Made, made_in}
use Rattle.aug_live.specs.LiveTries.{AreCountsOf}
use Rattle.aug_live.specs.inside.LaneKnowledge.{EndFacts, lane_by}
use Rattle.aug_live.specs.inside.Rolls.{IsOf, kept_of, rounds_in}
use Rattle.aug_live.specs.inside.SameChanges.{SameChanges}
use Rattle.aug_live.proofs.Accounting.{closed_lane, handles_closed, lanes_close, made_closed, missing_closed, now_counted, past_counted}
use Rattle.aug_live.proofs.Counted.{closed_so, desk_keeps}
use Rattle.aug_live.proofs.Desks.{all_taken, eras_of, may_take, taken_of, wholes_of}
use Rattle.aug_live.proofs.Lanes.{lanes_same}
use Rattle.aug_live.proofs.desk.Working.stop.Goals as goal

pub take_all-requires-clause-rolls : goal.take_all-requires-clause-rolls
take_all-requires-clause-rolls g c = may_take c.working.inside.ports.items c.working.inside.held.items c.working.invariant.0

pub returns-in-Err-clause-goes_on : goal.returns-in-Err-clause-goes_on
returns-in-Err-clause-goes_on g c = let w = c.working.inside in
    desk_keeps _ (arc_value w.round) w.crew w.crew _ _ c.working.view_is (lanes_same _ _ (ap (map lane_by) c.take_all.ensures.same)) (part_refl (crew_chain w.crew))

pub finish-set-requires-clause-of_round : goal.finish-set-requires-clause-of_round
finish-set-requires-clause-of_round g c = let w = c.working.inside in
    taken_of (IsOf (rounds_in w.crew) w.counts.rounds) c.take_all.new.held.items (w.ports.items ++ reverse w.held.items) (all_taken w.ports.items w.held.items c.take_all.new.ports.items c.take_all.new.held.items c.in_default.ensures.all c.take_all.ensures.same) c.working.invariant.0.of_round

pub returns-clause-closes : goal.returns-clause-closes
returns-clause-closes g c =
    let w = c.working.inside in let was = c.working.invariant in let bits = (arc_value w.round).bits in let ends = c.finish-set.ensures.ends in let fin = ends.1 in
    let none : c.take_all.new.ports.items ≡ [] = c.in_default.ensures.all in let all : List EndFacts = w.ports.items ++ reverse w.held.items in
    let taken = all_taken w.ports.items w.held.items c.take_all.new.ports.items c.take_all.new.held.items none c.take_all.ensures.same in
    let kept : map kept_of (reverse fin.lanes) ≡ map kept_of all = fin.kept ∙ ap (map kept_of) taken in
    let eras = eras_of _ _ _ fin.lanes fin.back in let wholes = wholes_of _ _ _ fin.lanes fin.back in
    let made = made_closed bits w.counts w.crew fin.last all fin.lanes was.0.accounts kept eras was.0.rounds_are fin.changes wholes in
    let past = past_counted bits w.counts w.crew fin.last all fin.lanes was.0.accounts kept eras was.0.rounds_are fin.changes in
    let now = now_counted bits w.counts w.crew fin.last all fin.lanes was.0.accounts kept eras was.0.rounds_are fin.changes in
    closed_so _ c.finish-set.result.0 w.counts _ (arc_value w.round) w.crew fin.last ends.0 _ (map closed_lane (reverse fin.lanes)) c.working.view_is was.0.together was.0.rounds_are
    (subst (λ (z : List Made). AreCountsOf bits w.crew.past z w.counts.inserts w.counts.removals) (sym made) past) was.0.led
    (subst (λ (z : ℕ × List Made). SameChanges fin.last.knows.accepted (made_in z.0 z.1)) (λ i. (was.0.rounds_are i, sym made i)) now)
    (lanes_close all (reverse fin.lanes) kept)
    fin.same_rounds fin.goes_on fin.ends fin.none_missing ends.2 refl
    (ap (λ n. w.counts.inserts + n) (c.from.ensures ∙ ends.3)) (ap (λ n. w.counts.removals + n) (c.from-2.ensures ∙ ends.4))
    refl
    (handles_closed bits w.counts w.crew fin.last all fin.lanes was.0.accounts kept eras was.0.rounds_are fin.changes) (missing_closed bits w.counts w.crew fin.last all fin.lanes was.0.accounts kept eras was.0.rounds_are fin.changes)
