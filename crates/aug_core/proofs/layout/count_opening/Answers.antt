use Rattle.std.proofs.Common.{arith, ◌≡◌, ◌-◌, ◌^◌, ◌∙◌, ap, min}
use Rattle.std.proofs.lemmas.Nat.{one_shl}
use Rattle.aug_core.proofs.Sizes.{own_none, own_next, own_few_more}
use Rattle.aug_core.proofs.layout.count_opening.Goals as goal

pub loop-level-init : goal.loop-level-init
loop-level-init c = let e = own_none c.args.bits c.args.members in record { in_range = omega arith; counted = omega arith; few = omega arith }

pub loop-level-preserved : goal.loop-level-preserved
loop-level-preserved c =
    let lt = c.loop-level-test.true in
    let i = c.loop-level.invariant in
    let i1 = i.counted in
    let i2 = i.few in
    let more = own_next c.args.bits c.args.members c.loop-level.level lt in
    let few = own_few_more c.args.bits c.args.members c.loop-level.level c.requires.1 in
    let shifted = one_shl (c.args.bits - 1 - c.loop-level.level) 32 (omega arith) in
    let is : c.min-records.result ≡ min c.args.members (2 ^ (c.args.bits - 1 - c.loop-level.level)) = c.min-records.ensures ∙ ap (min c.args.members) shifted in
    record { in_range = omega arith; counted = omega arith; few = omega arith }
