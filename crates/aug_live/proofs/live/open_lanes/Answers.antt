use Rattle.std.proofs.Common.{◌≡◌, ◌+◌, ◌<◌, ◌∙◌, ◌++◌, [], ◌∷◌, List, ap, map, sym, subst, vec_len, rules, arith}
use Rattle.std.proofs.lemmas.List.{map-append}
use Rattle.aug_trie.specs.Chains.{Chapter}
use Rattle.aug_trie.specs.Round.{RoundFacts, table_of}
use Rattle.std.specs.Vec.Iter.{into_iter_len}
use Rattle.aug_live.specs.inside.Desks.{IsNewBerth}
use Rattle.aug_live.specs.inside.LaneKnowledge.{EndFacts}
use Rattle.aug_live.specs.inside.Rolls.{IsOf, IsOpenedLane, Starts, rounds_in}
use Rattle.aug_live.proofs.Moving.{head_of, tail_of, one_more}
use Rattle.aug_live.proofs.live.open_lanes.Goals as goal

same_locks : (ports ports' ends ends' : List EndFacts) (port end : EndFacts) → ports' ≡ ports ++ port ∷ [] → ends' ≡ ends ++ end ∷ [] → end.lock ≡ port.lock → map (λ (e : EndFacts). e.lock) ends ≡ map (λ (e : EndFacts). e.lock) ports
    → map (λ (e : EndFacts). e.lock) ends' ≡ map (λ (e : EndFacts). e.lock) ports'
same_locks ports ports' ends ends' port end more more' same was = let lock = λ (e : EndFacts). e.lock in
    ap (map lock) more' ∙ map-append lock ends (end ∷ []) ∙ (λ i. was i ++ same i ∷ []) ∙ sym (ap (map lock) more ∙ map-append lock ports (port ∷ []))

pub open-port-requires : goal.open-port-requires
open-port-requires g c =
    let was = c.loop-berth.invariant in let step = c.in-Some.ensures.steps in
    let some : 0 < into_iter_len c.loop-berth.berth-iterator = omega (arith, step.1) in
    let mine = head_of IsNewBerth _ c.in-Some.berth _ _ step.0 some was.1 in let here = ap (λ (z : RoundFacts × List Chapter). z.0) was.3 in
    record {
      first = mine.0;
      number = mine.1;
      together = ap table_of here ∙ c.requires.together;
      first_era = ap (λ (z : RoundFacts). z.era) here ∙ c.requires.first_era;
      lane_left = let workers = ap (λ (z : RoundFacts). z.workers) here in omega (arith, was.0, was.5, some, c.requires.lanes, workers);
    }

pub loop-berth-preserved : goal.loop-berth-preserved
loop-berth-preserved g c =
    let was = c.loop-berth.invariant in let step = c.in-Some.ensures.steps in let opened = c.open-port.ensures in
    let grown : vec_len c.push_reserved.new.self ≡ vec_len c.loop-berth.ports + 1 = c.push_reserved.ensures.len in
    let longer : vec_len c.push_reserved-in-loop-berth.new.self ≡ vec_len c.loop-berth.ends + 1 = c.push_reserved-in-loop-berth.ensures.len in (
      search rules,
      tail_of IsNewBerth _ _ _ _ _ step.0 step.1 was.1,
      one_more (IsOf (rounds_in c.args.crew.now) 1) _ _ _ c.push_reserved.ensures.items was.2 (subst (λ (z : RoundFacts × List Chapter). IsOf z 1 c.open-port.result.0) was.3 opened.of_round),
      opened.round ∙ was.3,
      search rules,
      omega (arith, was.5, opened.handed, grown),
      opened.back ∙ was.6,
      one_more (Starts (rounds_in c.args.crew.now)) _ _ _ c.push_reserved-in-loop-berth.ensures.items was.7 (subst (λ (z : RoundFacts × List Chapter). Starts z c.open-port.result.1) was.3 opened.handle),
      omega (arith, was.8, grown, longer),
      search rules,
      one_more IsOpenedLane _ _ _ c.push_reserved.ensures.items was.10 opened.opened,
      same_locks c.loop-berth.ports.items c.push_reserved.new.self.items c.loop-berth.ends.items c.push_reserved-in-loop-berth.new.self.items c.open-port.result.0 c.open-port.result.1 c.push_reserved.ensures.items c.push_reserved-in-loop-berth.ensures.items opened.lock was.11,
      opened.same_changes ∙ was.12,
    )
