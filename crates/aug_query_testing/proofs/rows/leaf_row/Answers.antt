use Rattle.std.proofs.Common.{◌≡◌, ◌++◌, ◌∷◌, [], ℕ, ◌+◌, ◌-◌, ◌^◌, ◌<◌, ap, subst, ◌∙◌, get_or, take, length, arith}
use Rattle.std.proofs.Math.ListN.{length-set}
use Rattle.std.proofs.lemmas.List.{take_more, take_all}
use Rattle.aug_model.specs.Folds.{summary_of}
use Rattle.aug_model.specs.Keys.{keys_of}
use Rattle.aug_model.specs.Queries.{range_of}
use Rattle.aug_model.proofs.Pairs.{key_at, length-keys_of, weight_at_place}
use Rattle.aug_model.proofs.Ranges.{AllBelow, rises_from, taken_below}
use Rattle.aug_query.specs.Tree.{sum_of}
use Rattle.aug_query_testing.proofs.TreeRows.{leaf_put, leaf_below}
use Rattle.aug_query_testing.proofs.rows.leaf_row.Goals as goal

pub loop-key-preserved : goal.loop-key-preserved
loop-key-preserved g c =
    let pairs = c.args.pairs.now in
    let keys = keys_of pairs in
    let i = c.loop-key.key-index in
    let p = get_or pairs i (0, 0) in
    let sum = summary_of g.A.Monoid.parts g.B.Monoid.parts in
    let long = length-keys_of pairs in
    let within : i < length keys = omega (arith, c.loop-key-test.true) in
    let at = key_at pairs i (0, 0) c.loop-key-test.true in
    let below = subst (λ (k : ℕ). AllBelow k (take i keys)) at (taken_below keys i (rises_from keys c.requires.is_key_set.rising) within) in
    record {
      all = length-set c.loop-key.row.items p.0 c.of_one.result ∙ c.loop-key.invariant.all;
      each = leaf_put sum c.loop-key.row.items pairs (take i keys) (take (i + 1) keys) p.0 p.1 c.of_one.result (weight_at_place pairs i c.requires.is_key_set.rising c.loop-key-test.true)
          (take_more keys i 0 within ∙ ap (λ k. take i keys ++ k ∷ []) at) below c.of_one.ensures c.loop-key.invariant.each;
    }

pub returns : goal.returns
returns g c =
    let pairs = c.args.pairs.now in
    let keys = keys_of pairs in
    let sum = sum_of (summary_of g.A.Monoid.parts g.B.Monoid.parts) pairs in
    let whole = take_all c.loop-key.key-index keys (omega (arith, length-keys_of pairs, c.loop-key-test.false)) in
    let same : c.args.bits ≡ c.args.bits - 0 = omega arith in
    record {
      all = c.loop-key.invariant.all ∙ ap (λ n. 2 ^ n) same;
      tells = λ place default within. c.loop-key.invariant.each place default within ∙ ap (λ xs. sum (range_of xs place (place + 1))) whole ∙ ap sum (leaf_below keys place);
    }

pub index_mut-requires : goal.index_mut-requires
index_mut-requires g c =
    let pairs = c.args.pairs.now in
    let i = c.loop-key.key-index in
    let long = length-keys_of pairs in
    let low = c.requires.is_key_set.below i 0 (omega (arith, c.loop-key-test.true)) in
    omega (arith, low, key_at pairs i (0, 0) c.loop-key-test.true, c.loop-key.invariant.all)
