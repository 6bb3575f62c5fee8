use Rattle.std.proofs.Common.{arith}
use Rattle.std.proofs.lemmas.Int.Digits.{digits_value_more}
use Rattle.aug_script.proofs.Numbers.{digit_at, value_more}
use Rattle.aug_script.proofs.field.number.Goals as goal

pub overflow_mul-value : goal.overflow_mul-value
overflow_mul-value c =
    let digit = digit_at c.args.field.now c.requires c.loop-b.b-index c.loop-b-test.true in
    let small = value_more c.loop-b.b-index c.loop-b.value 0 (omega arith) c.loop-b.invariant.1 (omega arith) in
    omega arith

pub overflow_add-value : goal.overflow_add-value
overflow_add-value c =
    let digit = digit_at c.args.field.now c.requires c.loop-b.b-index c.loop-b-test.true in
    let small = value_more c.loop-b.b-index c.loop-b.value 0 (omega arith) c.loop-b.invariant.1 (omega arith) in
    omega (arith, c.from.ensures)

pub loop-b-preserved : goal.loop-b-preserved
loop-b-preserved c =
    let digit = digit_at c.args.field.now c.requires c.loop-b.b-index c.loop-b-test.true in
    let small = value_more c.loop-b.b-index c.loop-b.value c.from.result (omega arith) c.loop-b.invariant.1 (omega (arith, c.from.ensures)) in
    let more = digits_value_more 10 c.args.field.now c.loop-b.b-index c.loop-b-test.true in
    (omega (arith, c.from.ensures, more), small.0)
