use Rattle.std.proofs.Common.{◌≡◌, ◌+◌, ◌∙◌, refl, ap, vec_len, slice_index, ◌∷◌, [], arith}
use Rattle.std.proofs.lemmas.List.{get_or_read}
use Rattle.aug_trie.specs.Crew.{CrewFacts}
use Rattle.aug_trie.specs.Pass.{PassFacts}
use Rattle.aug_core.proofs.PrefixLemmas.{prefix_trans}
use Rattle.aug_run.specs.inside.Workers.{MayBegin, opening_cut_of}
use Rattle.aug_run.specs.declared.lanes.work.Job.{Job}
use Rattle.aug_run.proofs.Passing.{push_one}
use Rattle.aug_run.proofs.lanes.jobs.jobs.Goals as goal

-- The pass that is handed out is of the next lane.
pub loop-lane-preserved : goal.loop-lane-preserved
loop-lane-preserved c =
    let was = c.loop-lane.invariant in let hands = c.in-Ok.ensures.handed in let n = c.loop-lane.lane in
    let T = c.args.round.now in let R = c.args.rows.now in
    let half : c.into_half.result ≡ c.in-Ok.pass = c.into_half.ensures in
    let counted = c.in_ok-counts.ensures.counted n c.loop-lane-test.true in
    let read : c.index.result.now ≡ slice_index c.in_ok-counts.counts.items n = get_or_read c.in_ok-counts.counts.items n _ (omega (arith, c.in_ok-counts.ensures.one_each, c.loop-lane-test.true)) c.index.ensures 0 in
    let job : Job = record { lane = n; half = c.into_half.result; replies = c.in_ok-replies.replies } in
    let ready : MayBegin T R n job = record {
      lane_is = refl;
      here = ap (λ (p : PassFacts). p.round) half ∙ ap (λ (p : PassFacts). p.round) hands.pass_is ∙ was.2;
      handed_out = record { crew_old = c.loop-lane.crew.knows; crew_new = c.pass.new.self.knows; knew_opening = was.6; out = rw half hands.knows };
      unspent = ap (λ (p : PassFacts). p.spent) half ∙ ap (λ (p : PassFacts). p.spent) hands.pass_is;
      empty = c.in_ok-replies.ensures.items;
      room = omega (arith, counted, read, c.in_ok-replies.ensures.capacity);
    } in
    let grown : vec_len c.push_reserved.new.self ≡ vec_len c.loop-lane.jobs + 1 = c.push_reserved.ensures.len in (
      omega (arith, grown, was.0),
      push_one (MayBegin T R) n _ _ _ job (omega (arith, was.0)) refl c.push_reserved.ensures.items was.1 ready,
      ap (λ (z : CrewFacts). z.round) hands.crew_is ∙ was.2,
      omega (arith, ap (λ (z : CrewFacts). z.handed) hands.crew_is, was.3),
      ap (λ (z : CrewFacts). z.back) hands.crew_is ∙ was.4,
      hands.knows.same_changes ∙ was.5,
      prefix_trans (opening_cut_of T ∷ []) c.loop-lane.crew.knows.history c.pass.new.self.knows.history was.6 hands.knows.goes_on,
    )
