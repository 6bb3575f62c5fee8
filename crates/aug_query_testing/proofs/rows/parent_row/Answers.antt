use Rattle.std.proofs.Common.{◌≡◌, ◌+◌, ◌*◌, ap, ◌∙◌, ◌∷◌, [], length, length-append, arith}
use Rattle.std.proofs.lemmas.List.{get_or_default}
use Rattle.aug_model.specs.Folds.{summary_of}
use Rattle.aug_query.proofs.Placed.{pushed_each}
use Rattle.aug_query_testing.proofs.TreeRows.{Joins}
use Rattle.aug_query_testing.proofs.rows.parent_row.Goals as goal

pub joined-requires : goal.joined-requires
joined-requires g c =
    let place = c.loop-place.place in
    let low = c.requires (2 * place) c.index-row-place.result (omega (arith, c.loop-place-test.true)) in
    let high = c.requires (2 * place + 1) c.index-row-place-in-loop-place.result (omega (arith, c.loop-place-test.true)) in
    omega (arith, low, high, ap (λ s. s.count) c.index-row-place.is, ap (λ s. s.count) c.index-row-place-in-loop-place.is)

pub loop-place-preserved : goal.loop-place-preserved
loop-place-preserved g c =
    let place = c.loop-place.place in
    let row = c.args.row.now in
    let sum = summary_of g.A.Monoid.parts g.B.Monoid.parts in
    let low = c.index-row-place.result in
    let high = c.index-row-place-in-loop-place.result in
    let joins : Joins sum row place c.joined.result =
    λ default xs ys xs_keys ys_keys e f.
    c.joined.ensures xs ys xs_keys ys_keys
    (c.index-row-place.is ∙ get_or_default row (2 * place) low default (omega (arith, c.loop-place-test.true)) ∙ e)
    (c.index-row-place-in-loop-place.is ∙ get_or_default row (2 * place + 1) high default (omega (arith, c.loop-place-test.true)) ∙ f) in
    let items = c.in_ok-push.ensures.items in
    record {
      all = ap length items ∙ length-append c.loop-place.above.items (c.joined.result ∷ []) ∙ ap (λ n. n + 1) c.loop-place.invariant.all;
      each = pushed_each (Joins sum row) c.loop-place.above.items c.push.new.self.items c.joined.result place items c.loop-place.invariant.all c.loop-place.invariant.each joins;
    }

pub returns : goal.returns
returns g c =
    let reached : length c.loop-place.above.items ≡ c.loop-place.place = c.loop-place.invariant.all in
    record {
      all = omega (arith, reached, c.loop-place-test.false, c.loop-place.auto.place-end);
      no_more = omega (arith, reached, c.loop-place-test.false, c.loop-place.auto.place-end);
      joins = λ place default xs ys within. c.loop-place.invariant.each place default (omega (arith, reached, within)) default xs ys;
    }
