use Rattle.std.proofs.Common.{◌≤◌, ◌^◌, length, Err, arith}
use Rattle.aug_model.specs.Keys.{IsKeySet, keys_of}
use Rattle.aug_model.proofs.Boundaries.{IsKeySet-few}
use Rattle.aug_model.proofs.Pairs.{length-keys_of}
use Rattle.aug_model.proofs.Rising.{is_wider}
use Rattle.aug_run.proofs.Beginning.{never_refused}
use Rattle.aug_run.proofs.round.begin.Goals as goal

pub unreachable-requires : goal.unreachable-requires
unreachable-requires c =
    let bits = c.args.bits in
    let keys : IsKeySet bits (keys_of c.args.ended.members) = is_wider c.args.ended.bits bits (keys_of c.args.ended.members) c.requires.wider c.in-Err.ensures.keys in
    let few : length c.args.ended.members ≤ 2 ^ bits = omega (arith, IsKeySet-few _ _ keys, length-keys_of c.args.ended.members) in
    let refused = c.in-Err.ensures in
    let same = refused.not_walked c.in_default.not-OutOfMemory in
    never_refused c.args.ended.bits bits c.workers.result c.updates.result _ c.in-Err.cause c.requires.wider (rw (c.workers.ensures.value, c.updates.ensures.value) c.requires.bounds) few
    (λ is. refused.bad_bits.0 (λ j. Err (same j, is j))) (λ is. (refused.narrower.0 (λ j. Err (same j, is j))).1)
    (λ is. (refused.bad_workers.0 (λ j. Err (same j, is j))).1) (λ is. (refused.bad_updates.0 (λ j. Err (same j, is j))).1) (λ is. (refused.too_large.0 (λ j. Err (same j, is j))).1)
    c.in_default.not-OutOfMemory
