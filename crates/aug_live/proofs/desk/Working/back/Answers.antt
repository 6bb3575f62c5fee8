use Rattle.std.proofs.Common.{◌≡◌, ◌≢◌, ◌⊎◌, false, ◌-◌, ◌∙◌, inr, [], ◌∷◌, true, ap, map, refl, subst, sym, arith}
use Rattle.std.specs.Prelude.{reverse}
use Rattle.std.specs.Arc.{arc_value}
use mathlib.Core.Option.{some}
use lib.ListN.{get_elem?}
use Rattle.aug_core.proofs.PrefixLemmas.{prefix_refl}
use Rattle.aug_trie.proofs.Chaining.{part_refl}
use Rattle.aug_trie.specs.Crew.{crew_chain}
use Rattle.aug_live.specs.LiveErrors.{RefusesBack}
use Rattle.aug_live.specs.LiveTries.{LaneGoesOn, TrieFacts, ids_of}
use Rattle.aug_live.specs.inside.Desks.{out_of}
use Rattle.aug_live.specs.inside.LaneKnowledge.{EndFacts, is_out_by, lane_by, taken_in}
use Rattle.aug_live.specs.inside.Rolls.{IsOf, kept_of, rounds_in}
use Rattle.aug_live.specs.declared.known.Whose.TheVariants.{Idle}
use Rattle.aug_live.proofs.Carries.{why_map}
use Rattle.aug_live.proofs.Counted.{desk_keeps}
use Rattle.aug_live.proofs.Dealing.{taken_counts}
use Rattle.aug_live.proofs.Desks.{port_low}
use Rattle.aug_live.proofs.Lanes.{lanes_same}
use Rattle.aug_live.proofs.OneLane.{as_before, begun, handles_on, id_stood, lane_is, lanes_on, mine, missing_low, number_low, stays, stood}
use Rattle.aug_live.proofs.desk.Working.back.Goals as goal

pub take_in-requires-clause-port : goal.take_in-requires-clause-port
take_in-requires-clause-port g c = let w = c.self.inside in let low = port_low c.args.self.now w.ports.items w.held.items c.args.lane (ap (λ (z : TrieFacts). z.lanes) c.self.view_is) (sym w.held.ok.0 ∙ ap (λ (z : TrieFacts). z.held) c.self.view_is) c.requires.settled c.requires.lane in (mine w.ports.items (reverse w.held.items) c.self.invariant.0 c.args.lane c.index_mut.result.now low c.index_mut.ensures.value).whose

pub take_in-requires-clause-some : goal.take_in-requires-clause-some
take_in-requires-clause-some g c = let w = c.self.inside in let low = port_low c.args.self.now w.ports.items w.held.items c.args.lane (ap (λ (z : TrieFacts). z.lanes) c.self.view_is) (sym w.held.ok.0 ∙ ap (λ (z : TrieFacts). z.held) c.self.view_is) c.requires.settled c.requires.lane in (begun w.ports.items (reverse w.held.items) c.self.invariant.0 c.args.lane c.index_mut.result.now low c.index_mut.ensures.value, c.requires.some)

pub take_in-requires-clause-lock : goal.take_in-requires-clause-lock
take_in-requires-clause-lock g c = let w = c.self.inside in let low = port_low c.args.self.now w.ports.items w.held.items c.args.lane (ap (λ (z : TrieFacts). z.lanes) c.self.view_is) (sym w.held.ok.0 ∙ ap (λ (z : TrieFacts). z.held) c.self.view_is) c.requires.settled c.requires.lane in let old = c.index_mut.result.now in
    c.requires.lock old.lock (subst (λ (z : TrieFacts). get_elem? (ids_of z) c.args.lane ≡ some old.lock) c.self.view_is (id_stood w.ports.items (reverse w.held.items) c.self.invariant.0 c.args.lane c.index_mut.result.now low c.index_mut.ensures.value))

pub invariant_of-self-in-Err : goal.invariant_of-self-in-Err
invariant_of-self-in-Err g c = let w = c.self.inside in let low = port_low c.args.self.now w.ports.items w.held.items c.args.lane (ap (λ (z : TrieFacts). z.lanes) c.self.view_is) (sym w.held.ok.0 ∙ ap (λ (z : TrieFacts). z.held) c.self.view_is) c.requires.settled c.requires.lane in let inv = c.self.invariant in
    (stays w.ports.items (reverse w.held.items) c.self.invariant.0 c.args.lane c.index_mut.result.now low c.index_mut.ensures.value c.take_in.new.self w.crew c.in-Err.ensures.kept.0 refl, inv.1, inv.2, inv.3, inv.4, inv.5, inv.6, inv.7, inv.8, inv.9)

pub overflow_sub-self : goal.overflow_sub-self
overflow_sub-self g c = let w = c.self.inside in let low = port_low c.args.self.now w.ports.items w.held.items c.args.lane (ap (λ (z : TrieFacts). z.lanes) c.self.view_is) (sym w.held.ok.0 ∙ ap (λ (z : TrieFacts). z.held) c.self.view_is) c.requires.settled c.requires.lane in let out : out_of c.index_mut.result.now.known.whose ≡ 1 = ap out_of c.in-Ok.ensures.was in let some_missing = missing_low w.ports.items (reverse w.held.items) c.self.invariant.0 c.args.lane c.index_mut.result.now low c.index_mut.ensures.value in omega arith

pub invariant_of-self : goal.invariant_of-self
invariant_of-self g c =
    let w = c.self.inside in let low = port_low c.args.self.now w.ports.items w.held.items c.args.lane (ap (λ (z : TrieFacts). z.lanes) c.self.view_is) (sym w.held.ok.0 ∙ ap (λ (z : TrieFacts). z.held) c.self.view_is) c.requires.settled c.requires.lane in let inv = c.self.invariant in let old = c.index_mut.result.now in let port = c.take_in.new.self in let next = c.in-Ok.ensures in let was = mine w.ports.items (reverse w.held.items) c.self.invariant.0 c.args.lane c.index_mut.result.now low c.index_mut.ensures.value in
    let this : IsOf (rounds_in w.crew) old.known.at.era port = record { whose = inr next.whose; works = next.works ∙ was.works; era_is = next.era; round_is = next.same ∙ was.round_is } in
    let counts = taken_counts old port c.args.end.known.made next.was next.whose (ap (λ (e : EndFacts). e.known.done) next.done) in let number = ap (λ (e : EndFacts). e.known.number) next.done in
    let low_number = number_low w.ports.items (reverse w.held.items) c.self.invariant.0 c.args.lane c.index_mut.result.now low c.index_mut.ensures.value in let out_one : out_of old.known.whose ≡ 1 = ap out_of next.was in let some_missing = missing_low w.ports.items (reverse w.held.items) c.self.invariant.0 c.args.lane c.index_mut.result.now low c.index_mut.ensures.value in (
      handles_on w.ports.items (reverse w.held.items) c.self.invariant.0 c.args.lane c.index_mut.result.now low c.index_mut.ensures.value port w.crew w.counts.handles (w.counts.missing - 1) refl this (ap (λ (e : EndFacts). e.known.before) next.done) (omega arith) (omega arith) (omega (arith, counts.0)) (omega (arith, counts.1)),
      inv.1,
      inv.2,
      inv.3,
      inv.4,
      inv.5,
      inv.6,
      inv.7,
      inv.8,
      inv.9,
    )

-- the lane goes on, and its handle is done
lane_done : (old port end : EndFacts) → kept_of port ≡ kept_of (record old { known = record (taken_in old.known end.known) { whose = Idle } }) → LaneGoesOn (lane_by old) (lane_by port)
lane_done old port end kept = record { id = ap (λ (e : EndFacts). e.lock) kept; number = (let is = ap (λ (e : EndFacts). e.known.number) kept in omega arith); done = ((true, end.known.made) ∷ [], ap (λ (e : EndFacts). e.known.done) kept) }

pub returns-in-Ok-clause-goes_on : goal.returns-in-Ok-clause-goes_on
returns-in-Ok-clause-goes_on g c = let w = c.self.inside in let low = port_low c.args.self.now w.ports.items w.held.items c.args.lane (ap (λ (z : TrieFacts). z.lanes) c.self.view_is) (sym w.held.ok.0 ∙ ap (λ (z : TrieFacts). z.held) c.self.view_is) c.requires.settled c.requires.lane in let port = c.take_in.new.self in
    desk_keeps _ (arc_value w.round) w.crew w.crew _ _ c.self.view_is (lanes_on w.ports.items (reverse w.held.items) c.self.invariant.0 c.args.lane c.index_mut.result.now low c.index_mut.ensures.value port (lane_done c.index_mut.result.now port c.args.end c.in-Ok.ensures.done)) (part_refl (crew_chain w.crew))

pub returns-in-Ok-clause-takes : goal.returns-in-Ok-clause-takes
returns-in-Ok-clause-takes g c = let w = c.self.inside in let low = port_low c.args.self.now w.ports.items w.held.items c.args.lane (ap (λ (z : TrieFacts). z.lanes) c.self.view_is) (sym w.held.ok.0 ∙ ap (λ (z : TrieFacts). z.held) c.self.view_is) c.requires.settled c.requires.lane in let old = c.index_mut.result.now in let port = c.take_in.new.self in record {
  number = c.args.lane;
  lane = lane_by old;
  later = lane_by port;
  was = subst (λ (z : TrieFacts). get_elem? z.lanes c.args.lane ≡ some (lane_by old)) c.self.view_is (stood w.ports.items (reverse w.held.items) c.self.invariant.0 c.args.lane c.index_mut.result.now low c.index_mut.ensures.value);
  is = lane_is w.ports.items (reverse w.held.items) c.self.invariant.0 c.args.lane c.index_mut.result.now low c.index_mut.ensures.value port;
  before = old.known.done;
  goes_on = prefix_refl old.known.done;
  done = ap (λ (e : EndFacts). e.known.done) c.in-Ok.ensures.done;
}

pub returns-in-Err-clause-goes_on : goal.returns-in-Err-clause-goes_on
returns-in-Err-clause-goes_on g c = let w = c.self.inside in let low = port_low c.args.self.now w.ports.items w.held.items c.args.lane (ap (λ (z : TrieFacts). z.lanes) c.self.view_is) (sym w.held.ok.0 ∙ ap (λ (z : TrieFacts). z.held) c.self.view_is) c.requires.settled c.requires.lane in
    desk_keeps _ (arc_value w.round) w.crew w.crew _ _ c.self.view_is (lanes_same _ _ (ap (map lane_by) (as_before w.ports.items (reverse w.held.items) c.self.invariant.0 c.args.lane c.index_mut.result.now low c.index_mut.ensures.value c.take_in.new.self c.in-Err.ensures.kept.0))) (part_refl (crew_chain w.crew))

pub returns-in-Err-clause-refused : goal.returns-in-Err-clause-refused
returns-in-Err-clause-refused g c = let w = c.self.inside in let low = port_low c.args.self.now w.ports.items w.held.items c.args.lane (ap (λ (z : TrieFacts). z.lanes) c.self.view_is) (sym w.held.ok.0 ∙ ap (λ (z : TrieFacts). z.held) c.self.view_is) c.requires.settled c.requires.lane in let port = c.take_in.new.self in let same = c.in-Err.ensures.kept.0 in
    why_map _ _ c.in-Err.refused.1 (λ cause why. subst (RefusesBack c.args.lane c.args.number _) (sym why.0) (record {
      known = lane_by port;
      there = lane_is w.ports.items (reverse w.held.items) c.self.invariant.0 c.args.lane c.index_mut.result.now low c.index_mut.ensures.value port;
      other = subst (λ (e : EndFacts). (e.known.number ≢ c.args.number) ⊎ (is_out_by e.known.whose ≡ false)) (sym same) why.1;
    })) c.in-Err.ensures.refused
