use Rattle.std.proofs.Common.{◌∙◌, ℕ, ◌+◌, ◌-◌, ◌*◌, ◌/◌, ap, arith, max, min}
use Rattle.aug_live.proofs.Planning.{is_greatest}
use Rattle.aug_live.proofs.plan.Plan.new.Goals as goal

pub returns-clause-greatest : goal.returns-clause-greatest
returns-clause-greatest c =
    let told = c.in_ok-words.ensures.fits in let words = c.in_ok-words.words in let update = c.from.ensures in
    let room : ℕ = c.args.memory / 24 - words + c.from-2.result * (1 + 64 * (5 * c.from.result)) in
    is_greatest c.args.bits c.args.handles c.args.memory words room c.max-lanes.result c.min-updates.result told.0 (omega arith) told.1
    (λ i. c.args.memory / 24 - words + c.from-2.ensures i * (1 + 64 * (5 * update i)))
    (c.max-lanes.ensures ∙ ap (λ (z : ℕ). max z c.args.handles) (c.min.ensures ∙ (λ i. min (room / (1 + 256 * (5 * update i))) 64)))
    (c.min-updates.ensures ∙ (λ i. min ((room / c.from-3.ensures i - 1) / (5 * update i)) 65536))
