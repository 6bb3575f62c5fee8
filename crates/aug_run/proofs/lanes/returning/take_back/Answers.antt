use Rattle.std.proofs.Common.{◌≡◌, ◌+◌, ◌<◌, ◌∙◌, ap, sym, vec_len, rules, arith}
use Rattle.std.specs.Vec.Iter.{into_iter_items, into_iter_len}
use Rattle.aug_trie.specs.Crew.{CrewFacts}
use Rattle.aug_run.specs.inside.Workers.{IsDone}
use Rattle.aug_run.proofs.Passing.{head_of, tail_of}
use Rattle.aug_run.proofs.Backs.{went_none, went_on}
use Rattle.aug_run.proofs.lanes.returning.take_back.Goals as goal

pub loop-one-init : goal.loop-one-init
loop-one-init c = (search rules, search rules, search rules, rw c.requires.empty (went_none _ _ _), search rules, search rules, search rules)

pub back-requires : goal.back-requires
back-requires c =
    let was = c.loop-one.invariant in let step = c.in-Some.ensures.steps in
    let some : 0 < into_iter_len c.loop-one.one-iterator = omega (arith, step.1) in
    let mine = head_of (IsDone c.args.round.now c.args.rows.now) _ _ c.in-Some.one _ _ step.0 some was.1 in
    record { of_crew = mine.here ∙ sym was.4 }

-- The pass that comes back is of the next lane.
pub loop-one-preserved : goal.loop-one-preserved
loop-one-preserved c =
    let was = c.loop-one.invariant in let step = c.in-Some.ensures.steps in
    let T = c.args.round.now in let R = c.args.rows.now in let n = vec_len c.loop-one.lanes in
    let some : 0 < into_iter_len c.loop-one.one-iterator = omega (arith, step.1) in
    let mine = head_of (IsDone T R) n _ c.in-Some.one _ _ step.0 some was.1 in
    let grown : vec_len c.push_reserved.new.self ≡ n + 1 = c.push_reserved.ensures.len in (
      search rules,
      tail_of (IsDone T R) n _ _ _ _ _ _ step.0 step.1 grown was.1,
      search rules,
      went_on (λ lane. into_iter_items lane) T R _ _ _ _ n _ _ _ _ c.push_reserved.ensures.items c.into_iter.ensures.rest (omega arith) was.3 mine.runs c.back.ensures.knows,
      ap (λ (z : CrewFacts). z.round) c.back.ensures.crew_is ∙ was.4,
      ap (λ (z : CrewFacts). z.handed) c.back.ensures.crew_is ∙ was.5,
      omega (arith, ap (λ (z : CrewFacts). z.back) c.back.ensures.crew_is, was.6, grown),
    )
