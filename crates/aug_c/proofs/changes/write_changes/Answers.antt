use Rattle.std.proofs.Common.{◌≡◌, ◌+◌, ◌<◌, length, ◌∙◌, arith}
use Rattle.std.specs.Prelude.{None}
use Rattle.aug_model.specs.declared.difference.Difference.{Difference}
use Rattle.aug_c.specs.ChangeCalls.{change_of}
use Rattle.aug_c.proofs.Listing.{page_more, page_all}
use Rattle.aug_c.proofs.changes.write_changes.Goals as goal

pub loop-i-preserved : goal.loop-i-preserved
loop-i-preserved c =
    let none : Difference = record { key = 0; before = None; after = None } in
    let count = c.min-count.ensures in let less = c.loop-i-test.true in
    let inside : c.loop-i.i < length c.args.page.now = omega (arith, count, less) in
    let room : c.args.at + c.loop-i.i < length c.args.out.now = omega (arith, count, less, c.if-out-at.false) in
    page_more change_of none c.args.page.now c.args.out.now c.loop-i.out c.args.at c.loop-i.i c.as_change.result inside room c.loop-i.invariant c.as_change.ensures

pub returns : goal.returns
returns c =
    let all : c.loop-i.i ≡ c.min-count.result = omega (arith, c.loop-i-test.false, c.loop-i.auto.i-end) in
    page_all change_of c.args.page.now c.args.out.now c.loop-i.out c.args.at c.loop-i.i (omega (arith, c.if-out-at.false)) (all ∙ c.min-count.ensures) c.loop-i.invariant
