use Rattle.std.proofs.Common.{rules, ◌≡◌, length, w64, to_z, of_z, arith}
use Rattle.aug_c.proofs.Listing.{both_listed}
use Rattle.aug_c.proofs.array_listing.list_both.Goals as goal

pub returns : goal.returns
returns g c =
    let code : to_z w64 (of_z w64 c.list.result) ≡ c.list.result = search rules in
    let same : length c.args.weights.now ≡ length c.args.keys.now = omega (arith, c.if-weights-keys.false) in
    both_listed (λ set. g.O.Order.members set c.args.key) c.args.keys.now c.list.new.keys c.args.weights.now c.list.new.weights c.args.look.now c.list.new.look c.list.result (to_z w64 (of_z w64 c.list.result)) same code c.list.ensures.keys c.list.ensures.weights
