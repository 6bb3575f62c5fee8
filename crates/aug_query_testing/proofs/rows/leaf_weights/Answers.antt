use Rattle.std.proofs.Common.{◌+◌, ℕ, ◌<◌, ap, subst, ◌∙◌, get_or, take, length, arith}
use Rattle.std.proofs.Math.ListN.{length-set}
use Rattle.std.proofs.lemmas.List.{take_more, take_all}
use Rattle.aug_model.specs.Keys.{keys_of}
use Rattle.aug_model.specs.Queries.{weight_in}
use Rattle.aug_model.proofs.Pairs.{key_at, keys_of-take, length-keys_of}
use Rattle.aug_model.proofs.Ranges.{AllBelow, rises_from, taken_below}
use Rattle.aug_query_testing.proofs.TreeRows.{weight_put}
use Rattle.aug_query_testing.proofs.rows.leaf_weights.Goals as goal

pub index_mut-requires : goal.index_mut-requires
index_mut-requires c =
    let pairs = c.args.pairs.now in
    let i = c.loop-key.key-index in
    let long = length-keys_of pairs in
    let low = c.requires.is_key_set.below i 0 (omega (arith, c.loop-key-test.true)) in
    omega (arith, low, key_at pairs i (0, 0) c.loop-key-test.true, c.loop-key.invariant.all)

pub loop-key-preserved : goal.loop-key-preserved
loop-key-preserved c =
    let pairs = c.args.pairs.now in
    let keys = keys_of pairs in
    let i = c.loop-key.key-index in
    let p = get_or pairs i (0, 0) in
    let long = length-keys_of pairs in
    let within : i < length keys = omega (arith, c.loop-key-test.true) in
    let before = taken_below keys i (rises_from keys c.requires.is_key_set.rising) within in
    let below = subst (λ ks. AllBelow p.0 ks) (keys_of-take i pairs) (subst (λ (k : ℕ). AllBelow k (take i keys)) (key_at pairs i (0, 0) c.loop-key-test.true) before) in
    record {
      all = length-set c.loop-key.weights.items p.0 p.1 ∙ c.loop-key.invariant.all;
      weigh = weight_put c.loop-key.weights.items (take i pairs) (take (i + 1) pairs) p.0 p.1 (take_more pairs i (0, 0) c.loop-key-test.true) below c.loop-key.invariant.weigh;
    }

pub returns : goal.returns
returns c =
    let pairs = c.args.pairs.now in
    let whole = take_all c.loop-key.key-index pairs (omega (arith, c.loop-key-test.false)) in
    record {
      all = c.loop-key.invariant.all;
      weigh = λ key default within. c.loop-key.invariant.weigh key default within ∙ ap (λ ps. weight_in ps key) whole;
    }
