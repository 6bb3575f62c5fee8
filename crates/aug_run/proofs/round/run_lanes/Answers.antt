use Rattle.std.proofs.Common.{◌≡◌, ◌∙◌, ap, arith, map, length}
use Rattle.std.specs.Vec.Iter.{into_iter_items}
use Rattle.std.proofs.lemmas.List.{length-map}
use Rattle.aug_trie.specs.Knowledge.{Knowledge}
use Rattle.aug_run.proofs.Backs.{are_answered, ran_lanes}
use Rattle.aug_run.proofs.round.run_lanes.Goals as goal

pub in_order-requires-clause-answered : goal.in_order-requires-clause-answered
in_order-requires-clause-answered g c =
    let items = c.take_back-lanes.result.items in
    let long : length (map (λ l. into_iter_items l) items) ≡ c.args.workers = length-map items (λ l. into_iter_items l) ∙ (omega (arith, c.take_back-lanes.ensures.len, c.in_ok-done.ensures.len, c.in_ok-jobs.ensures.len)) in
    rw c.deref_mut.ensures.value (are_answered _ _ _ _ _ c.args.workers c.take_back-lanes.ensures.went long (rw c.requires.workers c.requires.kept.lanes))

pub returns : goal.returns
returns g c =
    let items = c.take_back-lanes.result.items in
    let back = c.take_back-lanes.ensures in
    let long : length (map (λ l. into_iter_items l) items) ≡ c.args.round.now.workers = length-map items (λ l. into_iter_items l) ∙ (omega (arith, back.len, c.in_ok-done.ensures.len, c.in_ok-jobs.ensures.len)) ∙ c.requires.workers in
    let order = rw c.deref_mut.ensures.value at c.in_order.ensures in
    record {
      ran = ran_lanes _ _ _ _ c.jobs.new.crew.knows _ (c.in_ok-jobs.ensures.changes ∙ ap (λ (k : Knowledge). k.accepted) c.requires.begun.opening) long back.went order back.round
          (omega (arith, back.back, back.handed, c.in_ok-jobs.ensures.handed, c.in_ok-jobs.ensures.back, c.requires.begun.none_back, c.in_ok-done.ensures.len, c.in_ok-jobs.ensures.len));
    }
