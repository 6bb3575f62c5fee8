use Rattle.std.proofs.Common.{◌≡◌, ◌+◌, ◌<◌, Bool, length, get_or, ap, sym, ◌∙◌, arith}
use Rattle.aug_c.proofs.Listing.{page_more, page_all}
use Rattle.aug_c.specs.inside.KeyRequests.{member_part}
use Rattle.aug_c.proofs.array_listing.write_members.Goals as goal
use Rattle.aug_c.proofs.array_listing.write_members.Goals.{then-weights, else-weights}

pub loop-i-preserved : goal.loop-i-preserved
loop-i-preserved c =
    let count = c.min-count.ensures in let less = c.loop-i-test.true in
    let inside : c.loop-i.i < length c.args.page.now = omega (arith, count, less) in
    let room : c.args.at + c.loop-i.i < length c.args.out.now = omega (arith, count, less, c.if-out-at.false) in
    let member = get_or c.args.page.now c.loop-i.i (0, 0) in
    let value : c.if-weights.out ≡ member_part c.args.weights member = elim c.if-weights.branch [
      | then-weights w ↦ w.out-is ∙ ap (λ (b : Bool). member_part b member) (sym w.if-weights.true)
      | else-weights w ↦ w.out-is ∙ ap (λ (b : Bool). member_part b member) (sym w.if-weights.false)
    ] in
    page_more (member_part c.args.weights) (0, 0) c.args.page.now c.args.out.now c.loop-i.out c.args.at c.loop-i.i c.if-weights.out inside room c.loop-i.invariant value

pub returns : goal.returns
returns c =
    let all : c.loop-i.i ≡ c.min-count.result = omega (arith, c.loop-i-test.false, c.loop-i.auto.i-end) in
    page_all (member_part c.args.weights) c.args.page.now c.args.out.now c.loop-i.out c.args.at c.loop-i.i (omega (arith, c.if-out-at.false)) (all ∙ c.min-count.ensures) c.loop-i.invariant
